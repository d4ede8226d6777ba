-- The word that starts at a place, where no blank stands, compared with a key.
use Prim.Native.Nat.{ℕ, zero, suc, ◌+◌, ◌-◌, ◌≤◌, ◌<◌}
use native.Mathlib.Omega.{arith}
use mathlib.Core.Bool.{Bool, true, false, not, ◌&&◌, true≢false}
use mathlib.Core.List.{List, [], ◌∷◌}
use mathlib.Core.Path.{◌≡◌, refl, sym, ap, ap₂, subst, ◌∙◌}
use lib.Dec.{eqb}
use lib.ListN.{length, get_or, take, drop}
use borrow.Author.Tests.{eqb-true, eqb-false, eq-eqb}
use Rattle.language.specs.Words.{is_blank, is_joining, joins}
use Rattle.language.specs.Tokens.{same}
use Rattle.language.proofs.Unambiguous.{clash}
use Rattle.spans.specs.Cut.{part, Cut, JoinedTo}
use Rattle.spans.specs.declared.Span.{Span}
use Rattle.spans.proofs.WordLaws.{part_next, part_length, joins_at, joins_not, cut_run, cut_one, cut_once, cut_joined, cut_some}
use Rattle.reader.specs.Statements.{all_joining, one_word}
use Rattle.reader.proofs.KeyLaws.{same_is}

-- ---- a key

key_some : (key : List ℕ) → one_word key ≡ true → 0 < length key
key_some [] one = clash (cc)
key_some (byte ∷ key) one = omega arith

key_joining : (key : List ℕ) → one_word key ≡ true → joins key ≡ true → all_joining key ≡ true
unfolding joins
key_joining [] one joined = clash (cc)
key_joining (byte ∷ []) one joined = ap (λ (b : Bool). b && true) joined
key_joining (byte ∷ next ∷ key) one joined = one

key_single : (key : List ℕ) → one_word key ≡ true → joins key ≡ false → length key ≡ 1
unfolding joins
key_single [] one single = clash (cc)
key_single (byte ∷ []) one single = refl
key_single (byte ∷ next ∷ key) one single =
    let none : false ≡ true = ap (λ (b : Bool). b && all_joining (next ∷ key)) (sym single) ∙ one in
    absurd (true≢false (sym none))

pub same_self : (key : List ℕ) → same key key ≡ true
unfolding same
same_self [] = refl
same_self (byte ∷ key) = ap₂ (λ (a b : Bool). a && b) (eq-eqb byte byte refl) (same_self key)

-- a part of letters and digits
run_of : (n : ℕ) (text : List ℕ) (at next : ℕ) → at + n ≡ next → next ≤ length text → all_joining (part text at next) ≡ true → (i : ℕ) → i < next → at ≤ i
    → is_joining (get_or text i 0) ≡ true
run_of zero text at next e inside all i h k = absurd (omega arith)
run_of (suc n) text at next e inside all i h k =
    let both : (is_joining (get_or text at 0) && all_joining (part text (at + 1) next)) ≡ true =
    ap all_joining (sym (part_next text at next (omega arith) (omega arith))) ∙ all in
    by (is_joining (get_or text at 0)) (all_joining (part text (at + 1) next)) (eqb i at) refl refl refl both (run_of n text (at + 1) next (omega arith) inside)
  where
    by : (a b here : Bool) → is_joining (get_or text at 0) ≡ a → all_joining (part text (at + 1) next) ≡ b → eqb i at ≡ here → (a && b) ≡ true
        → (all_joining (part text (at + 1) next) ≡ true → (j : ℕ) → j < next → at + 1 ≤ j → is_joining (get_or text j 0) ≡ true)
        → is_joining (get_or text i 0) ≡ true
    by true true true first others here both more = ap (λ (j : ℕ). is_joining (get_or text j 0)) (eqb-true i at here) ∙ first
    by true true false first others here both more = let ne = eqb-false i at here in more others i h (omega arith)
    by true false here first others is both more = clash (cc)
    by false b here first others is both more = clash (cc)

pub all_of : (text : List ℕ) (at end : ℕ) → JoinedTo text at end → all_joining (part text at end) ≡ true
all_of text at end j = from_place (end - at) at (omega (arith, j.later)) (omega arith)
  where
    from_place : (n i : ℕ) → i + n ≡ end → at ≤ i → all_joining (part text i end) ≡ true
    from_place zero i e k = let none : 0 ≡ end - i = omega arith in ap (λ (m : ℕ). all_joining (take m (drop i text))) (sym none)
    from_place (suc n) i e k =
        let inside = j.inside in
        ap all_joining (part_next text i end (omega arith) (omega arith))
        ∙ ap₂ (λ (a b : Bool). a && b) (j.run i (omega arith) k) (from_place n (i + 1) (omega arith) (omega arith))

-- ---- the word

module _ (key : List ℕ) {text : List ℕ} {at : ℕ} {w : Span} (one : one_word key ≡ true)
    (shown : at < length text → is_blank (get_or text at 0) ≡ false) (c : Cut text at w) where
  -- a word as long as the key starts there
  long_word : length (part text w.start w.end) ≡ length key → at < length text × ((w.start ≡ at) × (w.end ≡ (at + length key)))
  long_word e =
      let size = part_length text w.start w.end c.inside in
      let some = key_some key one in
      let inside = c.inside in
      let later = c.later (omega arith) in
      let room : at < length text = omega arith in
      let found = cut_some room (shown room) in
      let start : w.start ≡ at = ap (λ (s : Span). s.start) (cut_once c found.2) in
      (room, (start, omega arith))

  -- the word is not the key, where that it were would be absurd
  is_not : (part text w.start w.end ≡ key → at < length text × ((w.start ≡ at) × (w.end ≡ (at + length key))) → ⊥) → false ≡ same key (part text w.start w.end)
  is_not wrong = by (same key (part text w.start w.end)) refl
    where
      by : (b : Bool) → same key (part text w.start w.end) ≡ b → false ≡ same key (part text w.start w.end)
      by false e = sym e
      by true e = let is = same_is key (part text w.start w.end) e in absurd (wrong is (long_word (ap length is)))

  pub word_short : length text - at < length key → false ≡ same key (part text w.start w.end)
  word_short h = is_not (λ is (room, (start, end)). omega (arith, c.inside))

  pub word_other : same key (part text at (at + length key)) ≡ false → false ≡ same key (part text w.start w.end)
  unfolding same
  word_other h =
      is_not
      (λ is (room, (start, end)).
      let here : part text at (at + length key) ≡ key = ap₂ (part text) (sym start) (sym end) ∙ is in
      true≢false (sym (ap (same key) here ∙ same_self key) ∙ h))

  -- a word whose first byte is another than the key's
  pub word_unlike : {letter : ℕ} {letters : List ℕ} → key ≡ letter ∷ letters → (get_or text at 0 ≡ letter → ⊥) → false ≡ same key (part text w.start w.end)
  word_unlike {letter} {letters} spelled unlike =
      is_not
      (λ is (room, (start, end)).
      let some = key_some key one in
      let here : get_or text at 0 ∷ part text (at + 1) (at + length key) ≡ letter ∷ letters =
      sym (part_next text at (at + length key) (omega arith) room) ∙ ap₂ (part text) (sym start) (sym end) ∙ is ∙ spelled in
      unlike (cc))

  -- the first byte is the key's
  first_joined : at < length text → same key (part text at (at + length key)) ≡ true → joins key ≡ true → is_joining (get_or text at 0) ≡ true
  unfolding joins
  first_joined room e joined =
      let some = key_some key one in
      ap joins (sym (part_next text at (at + length key) (omega arith) room)) ∙ ap joins (same_is key (part text at (at + length key)) e) ∙ joined

  pub word_longer : same key (part text at (at + length key)) ≡ true → joins key ≡ true → joins (drop (at + length key) text) ≡ true → false ≡ same key (part text w.start w.end)
  word_longer e joined more =
      is_not
      (λ is (room, (start, end)).
      let j = (cut_joined room (first_joined room e joined) c).1 in
      let over : joins (drop w.end text) ≡ false = joins_not text w.end j.over in
      true≢false (sym more ∙ ap (λ (i : ℕ). joins (drop i text)) (sym end) ∙ over))

  ended_word : Cut text at (record { start = at; end = (at + length key) }) → same key (part text at (at + length key)) ≡ true → (true ≡ same key (part text w.start w.end)) × (w.end ≡ (at + length key))
  ended_word d e =
      let is : w ≡ record { start = at; end = (at + length key) } = cut_once c d in
      (sym (ap (λ (s : Span). same key (part text s.start s.end)) is ∙ e), ap (λ (s : Span). s.end) is)

  pub word_whole : (at + length key) ≤ length text → same key (part text at (at + length key)) ≡ true → joins key ≡ true → joins (drop (at + length key) text) ≡ false
      → (true ≡ same key (part text w.start w.end)) × (w.end ≡ (at + length key))
  word_whole inside e joined over =
      let some = key_some key one in
      let all = ap all_joining (same_is key (part text at (at + length key)) e) ∙ key_joining key one joined in
      ended_word
      (cut_run text at (at + length key) (first_joined (omega arith) e joined)
      (record {
        later = omega arith;
        inside = inside;
        run = λ i h k. run_of (length key) text at (at + length key) refl inside all i h (omega arith);
        over = λ h. sym (joins_at text (at + length key) h) ∙ over;
      }))
      e

  pub word_single : (at + length key) ≤ length text → same key (part text at (at + length key)) ≡ true → joins key ≡ false → (true ≡ same key (part text w.start w.end)) × (w.end ≡ (at + length key))
  unfolding joins
  word_single inside e single =
      let size = key_single key one single in
      let room : at < length text = omega arith in
      let end : at + 1 ≡ (at + length key) = omega arith in
      let unjoined : is_joining (get_or text at 0) ≡ false =
      ap joins (sym (part_next text at (at + length key) (omega arith) room)) ∙ ap joins (same_is key (part text at (at + length key)) e) ∙ single in
      ended_word (subst (λ (i : ℕ). Cut text at (record { start = at; end = i })) end (cut_one text at room (shown room) unjoined)) e

  -- what follows the key tells whether the word is over
  pub word_goes_on : (b : Bool) → joins (drop (at + length key) text) ≡ b → at + length key ≤ length text → same key (part text at (at + length key)) ≡ true
      → joins key ≡ true → (not b ≡ same key (part text w.start w.end)) × (not b ≡ true → w.end ≡ at + length key)
  word_goes_on true more inside e joined = (word_longer e joined more, λ no'. absurd (true≢false (sym no')))
  word_goes_on false over inside e joined = let whole = word_whole inside e joined over in (whole.0, λ _. whole.1)
