-- What a word is in an expression: the numbers and the tests that the code goes by.
use Prim.Native.Nat.{ℕ, ◌+◌, ◌-◌, ◌≤◌, ◌<◌}
use native.Mathlib.Omega.{arith}
use mathlib.Core.Bool.{Bool, true, false, cond, ◌||◌, true≢false}
use mathlib.Core.List.{List, [], ◌∷◌, ◌++◌}
use mathlib.Core.Logic.{◌≢◌}
use mathlib.Core.Path.{◌≡◌, refl, sym, ap, ap₂, subst, ◌∙◌}
use lib.Dec.{eqb, leb, ltb}
use lib.ListN.{length, get_or, take, drop, length-drop, take-append-drop}
use lib.Seq.{drop-drop}
use borrow.Author.Tests.{eqb-true, eqb-false, eq-eqb, ne_eqb, leb-true, ltb-true, ltb-false, le-leb, lt-leb}
use Rattle.rules.specs.declared.Operator.{Operator}
use Rattle.rules.specs.Limits.{width}
use Rattle.lines.specs.Limits.{most_word}
use Rattle.lines.specs.Numbers.{zero_byte, beyond, Number, no_number, number, is_digit, begun, digits_on, on_byte, number_at}
use Rattle.lines.proofs.NumberLaws.{both_true}
use Rattle.language.specs.Words.{is_blank, is_letter, is_joining, joins}
use Rattle.language.specs.Tokens as word
use Rattle.language.specs.Tokens.{Token, Spelling, fixed, same, whole_number, counted, among, token_of}
use Rattle.rules.specs.Trees.{operator_number}
use Rattle.language.proofs.Unambiguous.{clash}
use Rattle.reader.specs.Atoms.{Atom, whole_of, whole_from, atom_of, sign_of, NumeralTo, NumberTo, AtomIs, SignAt}
use Rattle.reader.specs.Machine.{tag, is_word, is_variable, is_numeral}
use Rattle.reader.specs.Atoms as atom
use Rattle.std.specs.Prelude.{Option, Some, None}
use Rattle.numbers.specs.declared.Parsed.{Parsed}
use Rattle.spans.specs.Cut.{part, Cut, JoinedTo}
use Rattle.spans.specs.declared.Span.{Span}
use Rattle.spans.proofs.WordLaws.{part_next, part_one, joins_not, cut_one, cut_once, cut_joined, cut_some}
use Rattle.reader.specs.Statements.{all_joining}
use Rattle.reader.proofs.KeyLaws.{spelling, same_is}
use Rattle.reader.proofs.StartLaws.{all_of, same_self, word_short, word_unlike}
use Rattle.reader.proofs.SpellLaws.{spells_sign}

-- ---- a number that stands from a place on to the end of a word

-- the same number, with more of the text after it
abbrev goes_on : List ℕ → Number → Number
goes_on rest no_number = no_number
goes_on rest (number value more) = number value (more ++ rest)

unjoined_digit : (byte : ℕ) → is_joining byte ≡ false → is_digit byte ≡ false
unfolding is_joining
unjoined_digit byte h = by (is_letter byte) (is_digit byte) h
  where
    by : (a b : Bool) → (a || b) ≡ false → b ≡ false
    by true b e = absurd (true≢false e)
    by false b e = e

zero_digit : is_digit zero_byte ≡ true
unfolding is_digit
zero_digit = refl

digits_split : (bytes rest : List ℕ) (value : ℕ) → joins rest ≡ false → digits_on (bytes ++ rest) value ≡ goes_on rest (digits_on bytes value)
unfolding digits_on on_byte joins
digits_split [] [] value h = refl
digits_split [] (byte ∷ rest) value h =
    ap (λ (b : Bool). on_byte b (digits_on rest) value byte rest) (unjoined_digit byte h)
digits_split (byte ∷ bytes) rest value h = by (is_digit byte) (λ v. digits_split bytes rest v h)
  where
    by : (b : Bool) → ((v : ℕ) → digits_on (bytes ++ rest) v ≡ goes_on rest (digits_on bytes v))
        → on_byte b (digits_on (bytes ++ rest)) value byte (bytes ++ rest) ≡ goes_on rest (on_byte b (digits_on bytes) value byte bytes)
    by true more = more _
    by false more = refl

number_split : (bytes rest : List ℕ) → joins rest ≡ false → number_at (bytes ++ rest) ≡ goes_on rest (number_at bytes)
unfolding number_at begun joins
number_split [] [] h = refl
number_split [] (byte ∷ rest) h =
    let other = unjoined_digit byte h in
    ap₂ (λ (a b : Bool). begun a b byte rest) (ne_eqb byte zero_byte (λ e. true≢false (sym (ap is_digit e ∙ zero_digit) ∙ other))) other
number_split (byte ∷ bytes) rest h = by (eqb byte zero_byte) (is_digit byte)
  where
    by : (a b : Bool) → begun a b byte (bytes ++ rest) ≡ goes_on rest (begun a b byte bytes)
    by true b = refl
    by false true = digits_split bytes rest (byte - zero_byte) h
    by false false = refl

-- what follows a number within letters and digits are such
abbrev Follows : Number → Type 0
Follows no_number = Unit {0}
Follows (number value rest) = all_joining rest ≡ true

digits_follow : (bytes : List ℕ) (value : ℕ) → all_joining bytes ≡ true → Follows (digits_on bytes value)
unfolding digits_on on_byte
digits_follow [] value all = refl
digits_follow (byte ∷ bytes) value all = by (is_digit byte) (λ v. digits_follow bytes v (both_true (is_joining byte) (all_joining bytes) all).1)
  where
    by : (b : Bool) → ((v : ℕ) → Follows (digits_on bytes v)) → Follows (on_byte b (digits_on bytes) value byte bytes)
    by true more = more _
    by false more = all

number_follow : (bytes : List ℕ) → all_joining bytes ≡ true → Follows (number_at bytes)
unfolding number_at begun
number_follow [] all = tt
number_follow (byte ∷ bytes) all = by (eqb byte zero_byte) (is_digit byte)
  where
    later : all_joining bytes ≡ true
    later = (both_true (is_joining byte) (all_joining bytes) all).1

    by : (a b : Bool) → Follows (begun a b byte bytes)
    by true b = later
    by false true = digits_follow bytes (byte - zero_byte) later
    by false false = tt

module _ (text : List ℕ) (at most : ℕ) {end : ℕ} (j : JoinedTo text at end) where
  -- the word's bytes from there on, and the text after it
  split : part text at end ++ drop end text ≡ drop at text
  split =
      let size : at + (end - at) ≡ end = omega (arith, j.later) in
      ap (λ (l : List ℕ). part text at end ++ l) (ap (λ (n : ℕ). drop n text) (sym size) ∙ sym (drop-drop (end - at) at text))
      ∙ take-append-drop (end - at) (drop at text)

  over : joins (drop end text) ≡ false
  over = joins_not text end j.over

  read : number_at (drop at text) ≡ goes_on (drop end text) (number_at (part text at end))
  read = ap number_at (sym split) ∙ number_split (part text at end) (drop end text) over

  pub to_none : no_number ≡ number_at (drop at text) → whole_from most (part text at end) ≡ beyond
  unfolding whole_from whole_of
  to_none e = by (number_at (part text at end)) (e ∙ read)
    where
      by : (found : Number) → no_number ≡ goes_on (drop end text) found → whole_of most found ≡ beyond
      by no_number e = refl
      by (number value rest) e = clash (cc)

  module _ (value next : ℕ) (said : number value (drop next text) ≡ number_at (drop at text)) where
    pub to_over : most < value → whole_from most (part text at end) ≡ beyond
    unfolding whole_from whole_of
    to_over high = by (number_at (part text at end)) (said ∙ read)
      where
        by : (found : Number) → number value (drop next text) ≡ goes_on (drop end text) found → whole_of most found ≡ beyond
        by no_number e = refl
        by (number v []) e =
            let same : value ≡ v = cc in
            ap (λ (b : Bool). cond b v beyond) (lt-leb v most (omega arith))
        by (number v (byte ∷ rest)) e = refl

    pub to_joined : joins (drop next text) ≡ true → whole_from most (part text at end) ≡ beyond
    unfolding whole_from whole_of
    to_joined more = by (number_at (part text at end)) (said ∙ read)
      where
        by : (found : Number) → number value (drop next text) ≡ goes_on (drop end text) found → whole_of most found ≡ beyond
        by no_number e = refl
        by (number v []) e =
            let same : drop next text ≡ drop end text = cc in
            absurd (true≢false (sym more ∙ ap joins same ∙ over))
        by (number v (byte ∷ rest)) e = refl

    pub to_is : joins (drop next text) ≡ false → next ≤ length text → value ≤ most → (next ≡ end) × (whole_from most (part text at end) ≡ value)
    unfolding whole_from whole_of joins
    to_is none inside few = by (number_at (part text at end)) (said ∙ read) (number_follow (part text at end) (all_of text at end j))
      where
        by : (found : Number) → number value (drop next text) ≡ goes_on (drop end text) found → Follows found
            → (next ≡ end) × (whole_of most found ≡ value)
        by no_number e follows = clash (cc)
        by (number v []) e follows =
            let same : value ≡ v = cc in
            let rests : drop next text ≡ drop end text = cc in
            let sizes = sym (length-drop next text) ∙ ap length rests ∙ length-drop end text in
            (omega (arith, j.inside), ap (λ (b : Bool). cond b v beyond) (le-leb v most (omega arith)) ∙ sym same)
        by (number v (byte ∷ rest)) e follows =
            let rests : drop next text ≡ byte ∷ (rest ++ drop end text) = cc in
            absurd (true≢false (sym (both_true (is_joining byte) (all_joining rest) follows).0 ∙ ap joins (sym rests) ∙ none))

-- ---- a word that is an expression by itself

-- none of the words that are always written the same is one
abbrev Nowhere : List Spelling → Type 0
Nowhere [] = Unit {0}
Nowhere (s ∷ spellings) = (atom_of s.token ≡ atom_of (counted s.bytes)) × Nowhere spellings

fixed_nowhere : Nowhere fixed
unfolding fixed atom_of counted whole_number number_at begun digits_on on_byte is_digit
fixed_nowhere =
    (refl, (refl, (refl, (refl, (refl, (refl, (refl, (refl, (refl, (refl, (refl, (refl, (refl, (refl, (refl, (refl, (refl, (refl, (refl, (refl, tt))))))))))))))))))))

among_atom : (spellings : List Spelling) → Nowhere spellings → (bytes : List ℕ) → atom_of (among spellings bytes) ≡ atom_of (counted bytes)
unfolding among
among_atom [] none bytes = refl
among_atom (s ∷ spellings) (here, others) bytes = by (same s.bytes bytes) refl (among_atom spellings others bytes)
  where
    by : (b : Bool) → same s.bytes bytes ≡ b → atom_of (among spellings bytes) ≡ atom_of (counted bytes)
        → atom_of (cond b s.token (among spellings bytes)) ≡ atom_of (counted bytes)
    by true is ih = here ∙ ap (λ (l : List ℕ). atom_of (counted l)) (sym (same_is s.bytes bytes is))
    by false is ih = ih

atom_token : (bytes : List ℕ) → atom_of (token_of bytes) ≡ atom_of (counted bytes)
unfolding token_of
atom_token bytes = among_atom fixed fixed_nowhere bytes

-- what a number is made of that is all of a word, or none
abbrev pub told : (ℕ → Atom) → ℕ → Atom
told made n = cond (eqb n beyond) atom.nothing (made n)

pub told_none : (made : ℕ → Atom) (n : ℕ) → n ≡ beyond → atom.nothing ≡ told made n
told_none made n none = sym (ap (λ (b : Bool). cond b atom.nothing (made n)) (eq-eqb n beyond none))

pub told_some : (made : ℕ → Atom) (n : ℕ) → n ≢ beyond → made n ≡ told made n
told_some made n some = sym (ap (λ (b : Bool). cond b atom.nothing (made n)) (ne_eqb n beyond some))

told_number : (most : ℕ) (made : ℕ → Token) (found : Number) → most < beyond
    → told (λ n. atom_of (made n)) (whole_of most found) ≡ atom_of (whole_number most made found)
unfolding whole_of whole_number atom_of
told_number most made no_number small = refl
told_number most made (number value []) small = by (leb value most) refl
  where
    by : (b : Bool) → leb value most ≡ b → told (λ n. atom_of (made n)) (cond b value beyond) ≡ atom_of (cond b (made value) word.unknown)
    by true is = sym (told_some (λ n. atom_of (made n)) value (λ e. omega (arith, leb-true value most is)))
    by false is = refl
told_number most made (number value (byte ∷ rest)) small = refl

module _ (byte : ℕ) (rest : List ℕ) where
  atom_counted : (v : Bool) → eqb byte 118 ≡ v
      → atom_of (cond v (whole_number (width - 1) word.variable (number_at rest)) (whole_number most_word word.numeral (number_at (byte ∷ rest))))
      ≡ atom_of (token_of (byte ∷ rest))
  unfolding counted
  atom_counted v is =
      ap
      (λ (b : Bool).
      atom_of (cond b (whole_number (width - 1) word.variable (number_at rest)) (whole_number most_word word.numeral (number_at (byte ∷ rest)))))
      (sym is)
      ∙ sym (atom_token (byte ∷ rest))

pub atom_empty : (bytes : List ℕ) → length bytes ≡ 0 → atom.nothing ≡ atom_of (token_of bytes)
unfolding counted atom_of
atom_empty [] none = sym (atom_token [])
atom_empty (byte ∷ rest) none = absurd (omega arith)

-- a word whose first byte is v, and any other
pub atom_variable : (bytes : List ℕ) → length bytes ≢ 0 → get_or bytes 0 0 ≡ 118 → (n : ℕ) → n ≡ whole_from (width - 1) (drop 1 bytes)
    → told atom.variable n ≡ atom_of (token_of bytes)
unfolding atom_of whole_from
atom_variable [] some v n is = absurd (some refl)
atom_variable (byte ∷ rest) some v n is =
    ap (told atom.variable) is
    ∙ told_number (width - 1) word.variable (number_at rest) (omega arith)
    ∙ atom_counted byte rest true (eq-eqb byte 118 v)

pub atom_constant : (bytes : List ℕ) → length bytes ≢ 0 → get_or bytes 0 0 ≢ 118 → (n : ℕ) → n ≡ whole_from most_word (drop 0 bytes)
    → told atom.constant n ≡ atom_of (token_of bytes)
unfolding atom_of whole_from
atom_constant [] some other n is = absurd (some refl)
atom_constant (byte ∷ rest) some other n is =
    ap (told atom.constant) is
    ∙ told_number most_word word.numeral (number_at (byte ∷ rest)) (omega arith)
    ∙ atom_counted byte rest false (ne_eqb byte 118 other)

-- ---- the word that starts at a place

not_variable : (n v : ℕ) → told atom.constant n ≡ atom.variable v → ⊥
not_variable n v e = by (eqb n beyond) e
  where
    by : (b : Bool) → cond b atom.nothing (atom.constant n) ≡ atom.variable v → ⊥
    by true e = clash (cc)
    by false e = clash (cc)

not_constant : (n v : ℕ) → told atom.variable n ≡ atom.constant v → ⊥
not_constant n v e = by (eqb n beyond) e
  where
    by : (b : Bool) → cond b atom.nothing (atom.variable n) ≡ atom.constant v → ⊥
    by true e = clash (cc)
    by false e = clash (cc)

not_told : (made : ℕ → Atom) (n v : ℕ) → (atom.nothing ≡ made v → ⊥) → n ≡ beyond → told made n ≡ made v → ⊥
not_told made n v other none e = other (told_none made n none ∙ e)

single_none : (byte : ℕ) → is_joining byte ≡ false → whole_from most_word (byte ∷ []) ≡ beyond
unfolding whole_from whole_of number_at joins
single_none byte h = ap (whole_of most_word) (number_split [] (byte ∷ []) h)

v_none : (bytes : List ℕ) → whole_from most_word (118 ∷ bytes) ≡ beyond
unfolding whole_from whole_of number_at begun is_digit
v_none bytes = refl

v_joining : is_joining 118 ≡ true
unfolding is_joining is_letter is_digit
v_joining = refl

empty_none : whole_from most_word [] ≡ beyond
unfolding whole_from whole_of number_at
empty_none = refl

module _ {text : List ℕ} {at : ℕ} (inside : at ≤ length text) (shown : at < length text → is_blank (get_or text at 0) ≡ false) (w : Span)
    (c : Cut text at w) where
  abbrev said_of : Atom
  said_of = atom_of (token_of (part text w.start w.end))

  -- no word stands there
  absent : length text ≤ at → atom.nothing ≡ said_of
  absent h = by (ltb w.start w.end) refl
    where
      by : (b : Bool) → ltb w.start w.end ≡ b → atom.nothing ≡ said_of
      by true e = absurd (omega (arith, c.later (ltb-true w.start w.end e), ltb-true w.start w.end e, c.inside))
      by false e =
          let none : 0 ≡ w.end - w.start = omega (arith, ltb-false w.start w.end e) in
          atom_empty [] refl ∙ ap (λ (n : ℕ). atom_of (token_of (take n (drop w.start text)))) none

  -- the word's first byte stands there
  headed : at < length text → part text w.start w.end ≡ get_or text at 0 ∷ part text (at + 1) w.end
  headed room =
      let found = cut_some room (shown room) in
      let is = cut_once c found.2 in
      let start : w.start ≡ at = ap (λ (s : Span). s.start) is in
      let end : w.end ≡ found.0 = ap (λ (s : Span). s.end) is in
      ap (λ (i : ℕ). part text i w.end) start ∙ part_next text at w.end (omega (arith, found.1)) room

  as_variable : at < length text → get_or text at 0 ≡ 118 → (n : ℕ) → n ≡ whole_from (width - 1) (part text (at + 1) w.end)
      → told atom.variable n ≡ said_of
  as_variable room v n is =
      atom_variable (get_or text at 0 ∷ part text (at + 1) w.end) (λ e. omega arith) v n is ∙ ap (λ (l : List ℕ). atom_of (token_of l)) (sym (headed room))

  as_constant : at < length text → get_or text at 0 ≢ 118 → (n : ℕ) → n ≡ whole_from most_word (get_or text at 0 ∷ part text (at + 1) w.end)
      → told atom.constant n ≡ said_of
  as_constant room other n is =
      atom_constant (get_or text at 0 ∷ part text (at + 1) w.end) (λ e. omega arith) other n is ∙ ap (λ (l : List ℕ). atom_of (token_of l)) (sym (headed room))

  pub variable_absent : length text ≤ at → (v : ℕ) → said_of ≡ atom.variable v → ⊥
  variable_absent h v e = let none : atom.nothing ≡ atom.variable v = absent h ∙ e in clash (cc)

  pub variable_other : at < length text → get_or text at 0 ≢ 118 → (v : ℕ) → said_of ≡ atom.variable v → ⊥
  variable_other room other v e = not_variable (whole_from most_word (get_or text at 0 ∷ part text (at + 1) w.end)) v (as_constant room other _ refl ∙ e)

  joined_from : (room : at < length text) → is_joining (get_or text at 0) ≡ true → JoinedTo text at w.end
  joined_from room joining =
      let j = (cut_joined room joining c).1 in
      record {
        later = omega (arith, j.later);
        inside = j.inside;
        run = λ i h k. by i h k (eqb i at) refl;
        over = j.over;
      }
    where
      by : (i : ℕ) → i < w.end → at ≤ i → (b : Bool) → eqb i at ≡ b → is_joining (get_or text i 0) ≡ true
      by i h k true q = ap (λ (n : ℕ). is_joining (get_or text n 0)) (eqb-true i at q) ∙ joining
      by i h k false q = let ne = eqb-false i at q in (cut_joined room joining c).1.run i h (omega arith)

  pub variable_told : at < length text → get_or text at 0 ≡ 118 → (r : Option (Parsed ℕ)) → NumberTo text (at + 1) (width - 1) r
      → AtomIs atom.variable said_of w.end r
  variable_told room v r number-to = by r (number-to w.end (cut_joined room (ap is_joining v ∙ v_joining) c).1)
    where
      by : (r : Option (Parsed ℕ)) → NumeralTo text (at + 1) (width - 1) w.end r → AtomIs atom.variable said_of w.end r
      by None none = λ n e. not_told atom.variable _ n (λ q. clash (cc)) none (as_variable room v _ refl ∙ e)
      by (Some read) (end, few, is) =
          (end, sym (as_variable room v read.value (sym is)) ∙ sym (told_some atom.variable read.value (λ e. omega arith)))

  -- no number stands there, whatever is said
  unnumbered : (n : ℕ) (r : Option (Parsed ℕ)) → NumeralTo text at most_word n r → whole_from most_word (part text at n) ≡ beyond
      → ((v : ℕ) → said_of ≡ atom.constant v → ⊥) → AtomIs atom.constant said_of w.end r
  unnumbered n None told_number none other = other
  unnumbered n (Some read) (end, few, is) none other = absurd (omega (arith, none, is))

  pub constant_told : (r : Option (Parsed ℕ)) → NumberTo text at most_word r → AtomIs atom.constant said_of w.end r
  constant_told r number-to = by (ltb at (length text)) refl
    where
      none_there : (at < length text → is_joining (get_or text at 0) ≡ false) → NumeralTo text at most_word at r
      none_there over =
          number-to at (record { later = omega arith; inside = inside; run = λ i h k. absurd (omega arith); over = over })

      empty_part : whole_from most_word (part text at at) ≡ beyond
      empty_part = let size : 0 ≡ at - at = omega arith in ap (λ (n : ℕ). whole_from most_word (take n (drop at text))) (sym size) ∙ empty_none

      joined : (room : at < length text) → is_joining (get_or text at 0) ≡ true → (v : Bool) → eqb (get_or text at 0) 118 ≡ v
          → AtomIs atom.constant said_of w.end r
      joined room joining true v =
          let is = eqb-true (get_or text at 0) 118 v in
          unnumbered w.end r (number-to w.end (joined_from room joining))
          (ap (whole_from most_word) (part_at room) ∙ ap (λ (b : ℕ). whole_from most_word (b ∷ part text (at + 1) w.end)) is ∙ v_none (part text (at + 1) w.end))
          (λ n e. not_constant (whole_from (width - 1) (part text (at + 1) w.end)) n (as_variable room is _ refl ∙ e))
        where
          part_at : at < length text → part text at w.end ≡ get_or text at 0 ∷ part text (at + 1) w.end
          part_at room = part_next text at w.end (omega (arith, (cut_joined room joining c).1.later)) room
      joined room joining false v = said r (number-to w.end (joined_from room joining))
        where
          other : get_or text at 0 ≢ 118
          other = eqb-false (get_or text at 0) 118 v

          part_at : part text at w.end ≡ get_or text at 0 ∷ part text (at + 1) w.end
          part_at = part_next text at w.end (omega (arith, (cut_joined room joining c).1.later)) room

          said : (r : Option (Parsed ℕ)) → NumeralTo text at most_word w.end r → AtomIs atom.constant said_of w.end r
          said None none =
              λ n e.
              not_told atom.constant _ n (λ q. clash (cc)) (ap (whole_from most_word) (sym part_at) ∙ none) (as_constant room other _ refl ∙ e)
          said (Some read) (end, few, is) =
              (end, sym (as_constant room other read.value (sym is ∙ ap (whole_from most_word) part_at)) ∙ sym (told_some atom.constant read.value (λ e. omega arith)))

      single : (room : at < length text) → is_joining (get_or text at 0) ≡ false → AtomIs atom.constant said_of w.end r
      single room unjoined =
          unnumbered at r (none_there (λ _. unjoined)) empty_part
          (λ n e.
          let is = cut_once c (cut_one text at room (shown room) unjoined) in
          let end : w.end ≡ at + 1 = ap (λ (s : Span). s.end) is in
          let size : 0 ≡ w.end - (at + 1) = omega arith in
          let none : whole_from most_word (get_or text at 0 ∷ part text (at + 1) w.end) ≡ beyond =
          ap (λ (k : ℕ). whole_from most_word (get_or text at 0 ∷ take k (drop (at + 1) text))) (sym size) ∙ single_none (get_or text at 0) unjoined in
          not_told atom.constant _ n (λ q. clash (cc)) none
          (as_constant room (λ q. true≢false (sym (ap is_joining q ∙ v_joining) ∙ unjoined)) _ refl ∙ e))

      by : (b : Bool) → ltb at (length text) ≡ b → AtomIs atom.constant said_of w.end r
      by true h = some (is_joining (get_or text at 0)) refl
        where
          room : at < length text
          room = ltb-true at (length text) h

          some : (b : Bool) → is_joining (get_or text at 0) ≡ b → AtomIs atom.constant said_of w.end r
          some true joining = joined room joining (eqb (get_or text at 0) 118) refl
          some false unjoined = single room unjoined
      by false h =
          let over = ltb-false at (length text) h in
          unnumbered at r (none_there (λ k. absurd (omega arith))) empty_part
          (λ n e. let none : atom.nothing ≡ atom.constant n = absent over ∙ e in clash (cc))

-- ---- what the answer on a word says of it

abbrev pub Fits : Token → Atom → Type 0
Fits t atom.nothing = (is_numeral t || is_variable t) ≡ false
Fits t (atom.constant value) = t ≡ word.numeral value
Fits t (atom.variable v) = t ≡ word.variable v

atom_fits : (t : Token) → Fits t (atom_of t)
unfolding atom_of tag operator_number
atom_fits word.skip = refl
atom_fits word.set = refl
atom_fits word.if = refl
atom_fits word.then = refl
atom_fits word.else = refl
atom_fits word.end = refl
atom_fits word.while = refl
atom_fits word.doing = refl
atom_fits word.settled = refl
atom_fits word.provisional = refl
atom_fits word.input = refl
atom_fits word.opening = refl
atom_fits word.closing = refl
atom_fits word.semicolon = refl
atom_fits (word.sign Operator.Sum) = refl
atom_fits (word.sign Operator.Difference) = refl
atom_fits (word.sign Operator.Product) = refl
atom_fits (word.sign Operator.Quotient) = refl
atom_fits (word.sign Operator.Equal) = refl
atom_fits (word.sign Operator.Less) = refl
atom_fits (word.variable v) = refl
atom_fits (word.numeral n) = refl
atom_fits word.unknown = refl

pub atom_is : (t : Token) {a : Atom} → atom_of t ≡ a → Fits t a
atom_is t e = subst (Fits t) e (atom_fits t)

pub atom_nothing : (a : Atom) → ((v : ℕ) → a ≡ atom.variable v → ⊥) → ((n : ℕ) → a ≡ atom.constant n → ⊥) → a ≡ atom.nothing
atom_nothing atom.nothing unnamed unnumbered' = refl
atom_nothing (atom.constant n) unnamed unnumbered' = absurd (unnumbered' n refl)
atom_nothing (atom.variable v) unnamed unnumbered' = absurd (unnamed v refl)

-- ---- an operator's number

pub sign_is : (o : Operator) (bytes : List ℕ) → same (spelling (word.sign o)) bytes ≡ true → Some o ≡ sign_of (token_of bytes)
unfolding sign_of
sign_is o bytes is = sym (ap sign_of ((spells_sign o).is bytes is))

none_of : (t : Token) → ((o : Operator) → is_word (word.sign o) t ≡ false) → None ≡ sign_of t
unfolding sign_of
none_of word.skip h = refl
none_of word.set h = refl
none_of word.if h = refl
none_of word.then h = refl
none_of word.else h = refl
none_of word.end h = refl
none_of word.while h = refl
none_of word.doing h = refl
none_of word.settled h = refl
none_of word.provisional h = refl
none_of word.input h = refl
none_of word.opening h = refl
none_of word.closing h = refl
none_of word.semicolon h = refl
none_of (word.sign o) h = absurd (true≢false (sym (eq-eqb (tag (word.sign o)) (tag (word.sign o)) refl) ∙ h o))
none_of (word.variable v) h = refl
none_of (word.numeral n) h = refl
none_of word.unknown h = refl

-- A word that is written as none of the six is no operator.
pub no_sign : (bytes : List ℕ) → same (spelling (word.sign Operator.Sum)) bytes ≡ false
    → same (spelling (word.sign Operator.Difference)) bytes ≡ false → same (spelling (word.sign Operator.Product)) bytes ≡ false
    → same (spelling (word.sign Operator.Quotient)) bytes ≡ false → same (spelling (word.sign Operator.Equal)) bytes ≡ false
    → same (spelling (word.sign Operator.Less)) bytes ≡ false → None ≡ sign_of (token_of bytes)
no_sign bytes sum difference product quotient equal less = none_of (token_of bytes) (λ o. sym ((spells_sign o).told bytes) ∙ other o)
  where
    other : (o : Operator) → same (spelling (word.sign o)) bytes ≡ false
    other Operator.Sum = sum
    other Operator.Difference = difference
    other Operator.Product = product
    other Operator.Quotient = quotient
    other Operator.Equal = equal
    other Operator.Less = less

-- ---- the operator that starts at a place, by its byte

module _ {text : List ℕ} {at : ℕ} where
  pub sign_at_byte : (o : Operator) {byte here : ℕ} → spelling (word.sign o) ≡ byte ∷ [] → is_joining byte ≡ false → at < length text
      → here ≡ get_or text at 0 → here ≡ byte → SignAt text at (Some o)
  sign_at_byte o {byte} {here} written unjoined room stands is shown w c =
      let byte_there : get_or text at 0 ≡ byte = sym stands ∙ is in
      let there : w ≡ record { start = at; end = at + 1 } = cut_once c (cut_one text at room (shown room) (ap is_joining byte_there ∙ unjoined)) in
      let bytes : part text w.start w.end ≡ spelling (word.sign o) =
      ap (λ (s : Span). part text s.start s.end) there ∙ part_one text at room ∙ ap (λ (b : ℕ). b ∷ []) byte_there ∙ sym written in
      (sign_is o _ (ap (same (spelling (word.sign o))) bytes ∙ same_self (spelling (word.sign o))), λ _. ap (λ (s : Span). s.end) there)

  pub sign_at_none :
      (at < length text → (byte : ℕ) → byte ≡ get_or text at 0
      → (byte ≢ 43) × (byte ≢ 45) × (byte ≢ 42) × (byte ≢ 47) × (byte ≢ 61) × (byte ≢ 60)) → SignAt text at None
  unfolding spelling
  sign_at_none unlike shown w c = (
    no_sign _ (lacks 43 (λ h. (others h).0)) (lacks 45 (λ h. (others h).1)) (lacks 42 (λ h. (others h).2)) (lacks 47 (λ h. (others h).3))
        (lacks 61 (λ h. (others h).4)) (lacks 60 (λ h. (others h).5)),
    λ e. clash (cc),
  )
    where
      others : at < length text → (get_or text at 0 ≢ 43) × (get_or text at 0 ≢ 45) × (get_or text at 0 ≢ 42) × (get_or text at 0 ≢ 47)
          × (get_or text at 0 ≢ 61) × (get_or text at 0 ≢ 60)
      others h = unlike h (get_or text at 0) refl

      lacks : (byte : ℕ) → (at < length text → get_or text at 0 ≢ byte) → same (byte ∷ []) (part text w.start w.end) ≡ false
      lacks byte ne = by (ltb at (length text)) refl
        where
          by : (b : Bool) → ltb at (length text) ≡ b → same (byte ∷ []) (part text w.start w.end) ≡ false
          by true e = sym (word_unlike (byte ∷ []) refl shown c refl (ne (ltb-true at (length text) e)))
          by false e = let over = ltb-false at (length text) e in sym (word_short (byte ∷ []) refl shown c (omega arith))
