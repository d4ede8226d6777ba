-- The places of a text: how the words from one place on go on from another, the word that stands at one, and where no recipe goes on.
use Prim.Native.Nat.{ℕ, ◌+◌, ◌-◌, ◌≤◌, ◌<◌}
use native.Mathlib.Omega.{arith}
use mathlib.Core.Bool.{Bool, true, false}
use mathlib.Core.List.{List, [], ◌∷◌, ◌++◌, append_assoc}
use mathlib.Core.Logic.{◌⊎◌, inl, inr}
use mathlib.Core.Path.{◌≡◌, refl, sym, ap, subst, ◌∙◌}
use lib.Dec.{ltb}
use lib.ListN.{length, get_or, take, drop}
use borrow.Author.Tests.{ltb-true, ltb-false, eq-eqb}
use Rattle.language.specs.Words.{Word}
use Rattle.language.specs.Tokens as word
use Rattle.language.specs.Tokens.{Token, fixed, same, counted, among, token_of, tokens}
use Rattle.language.proofs.Unambiguous.{clash}
use Rattle.spans.specs.Cut.{from, part, Begun, Cut}
use Rattle.spans.specs.declared.Span.{Span}
use Rattle.spans.proofs.WordLaws.{words_end, cut_begun, cut_found}
use Rattle.reader.specs.Machine.{tag, is_word, Symbol, exactly, Advance, stop, expected, advance, may_end, ends_at, ended, onward, stuck, run}
use Rattle.reader.specs.Steps.{Later, Missing, Stuck}
use Rattle.reader.specs.Statements.{Compared, Spells, Led}
use Rattle.reader.proofs.StartLaws.{word_unlike}

pub later_self : {text : List ℕ} {at : ℕ} → Later text at at
later_self = record { between = []; split = refl }

pub later_on : {text : List ℕ} {at mid next : ℕ} → Later text at mid → Later text mid next → Later text at next
later_on {text} {at} {mid} {next} a b = record {
  between = a.between ++ b.between;
  split = a.split ∙ ap (λ (l : List Word). a.between ++ l) b.split ∙ sym (append_assoc a.between b.between (from text next));
}

-- ---- the word at a place

empty_unknown : token_of [] ≡ word.unknown
unfolding token_of among fixed same counted
empty_unknown = refl

module _ {text : List ℕ} {at : ℕ} {s : Span} (c : Cut text at s) where
  -- there is a word, or none
  abbrev Sight : Type 0
  Sight = (s.start < s.end) ⊎ (s.start ≡ s.end)

  sight : Sight
  sight = by (ltb s.start s.end) refl
    where
      by : (b : Bool) → ltb s.start s.end ≡ b → Sight
      by true h = inl (ltb-true s.start s.end h)
      by false h = let k = ltb-false s.start s.end h in inr (omega (arith, c.forward))

  cut_token : (first : Token) (later : List Token) → tokens (from text at) ≡ first ∷ later → first ≡ token_of (part text s.start s.end)
  cut_token first later e = by sight
    where
      by : Sight → first ≡ token_of (part text s.start s.end)
      by (inl some) =
          let is : first ∷ later ≡ token_of (part text s.start s.end) ∷ tokens (from text s.end) = sym e ∙ ap tokens (c.first some) in
          cc
      by (inr over) = let none : first ∷ later ≡ [] = sym e ∙ ap tokens (c.last over).1 in clash (cc)

  pub led_token : {t : Token} → token_of (part text s.start s.end) ≡ t → (word.unknown ≡ t → ⊥) → Led text at t s.end
  led_token {t} e written = by sight
    where
      by : Sight → Led text at t s.end
      by (inl some) =
          record {
            is = ap tokens (c.first some) ∙ ap (λ (x : Token). x ∷ tokens (from text s.end)) e;
            later = record { between = _ ∷ []; split = c.first some };
            on = omega (arith, c.later some);
            inside = c.inside;
          }
      by (inr over) =
          let size : 0 ≡ s.end - s.start = omega arith in
          absurd (written (sym empty_unknown ∙ ap (λ (n : ℕ). token_of (take n (drop s.start text))) size ∙ e))

  -- where a word is led past, there is one
  pub led_some : {t : Token} {next : ℕ} → Led text at t next → s.start < s.end
  led_some {t} {next} w = by sight
    where
      by : Sight → s.start < s.end
      by (inl some) = some
      by (inr over) = let none : t ∷ tokens (from text next) ≡ [] = sym w.is ∙ ap tokens (c.last over).1 in clash (cc)

  -- what a test of the word says of a key
  pub led_key :
      {key bytes : List ℕ} {b : Bool} {t : Token} → bytes ≡ part text s.start s.end → b ≡ same key bytes → b ≡ true → Spells key t
      → Led text at t s.end
  led_key {key} {t = t} is told yes' k =
      led_token (k.is _ (ap (same key) (sym is) ∙ sym told ∙ yes'))
      (λ e.
      let none : is_word t (token_of []) ≡ true = eq-eqb (tag (token_of [])) (tag t) (ap tag (empty_unknown ∙ e)) in
      clash (cc (k.some, k.told [])))

  pub missing_key :
      {key bytes : List ℕ} {b : Bool} {t : Token} → bytes ≡ part text s.start s.end → b ≡ same key bytes → b ≡ false → Spells key t
      → Missing text at t
  missing_key {key} {t = t} is told no' k first later e =
      ap (is_word t) (cut_token first later e) ∙ sym (k.told _) ∙ ap (same key) (sym is) ∙ sym told ∙ no'

-- the word that starts at a place, from an earlier place on, where it was compared with a key
module _ {text key : List ℕ} {at start : ℕ} {r : Bool} {t : Token} (begun : Begun text at start) (k : Spells key t) (compared : Compared text start key r) where
  told_word :
      (r ≡ same key (part text (cut_found begun).0.start (cut_found begun).0.end)) × (r ≡ true → (cut_found begun).0.end ≡ start + length key)
  told_word = compared k.one begun.shown (cut_found begun).0 (cut_found begun).1

  pub led_start : r ≡ true → Led text at t (start + length key)
  led_start yes' = subst (Led text at t) (told_word.1 yes') (led_key (cut_begun begun (cut_found begun).1) refl told_word.0 yes' k)

  pub missing_start : r ≡ false → Missing text at t
  missing_start no' = missing_key (cut_begun begun (cut_found begun).1) refl told_word.0 no' k

-- the first place where no blank stands, from a place inside the text on, is no earlier
pub begun_on : {text : List ℕ} {at start : ℕ} → Begun text at start → at ≤ length text → at ≤ start
begun_on {text} {at} {start} begun inside = by (ltb start (length text)) refl
  where
    by : (b : Bool) → ltb start (length text) ≡ b → at ≤ start
    by true h = begun.later (ltb-true start (length text) h)
    by false h = let k = ltb-false start (length text) h in omega arith

pub later_begun : {text : List ℕ} {at start : ℕ} → Begun text at start → Later text at start
later_begun begun = record { between = []; split = sym begun.same }

-- where its first byte is another than the key's
pub missing_unlike :
    {text letters : List ℕ} {at start letter : ℕ} {t : Token} → Begun text at start → Spells (letter ∷ letters) t → (get_or text start 0 ≡ letter → ⊥) → Missing text at t
missing_unlike begun k unlike =
    let c = (cut_found begun).1 in
    missing_key (cut_begun begun c) refl (word_unlike _ k.one begun.shown c refl unlike) refl k

-- ---- where no recipe goes on

run_stops : (ts : List Token) (symbol : Symbol) (others : List Symbol) → may_end symbol ≡ false
    → ((first : Token) (later : List Token) → ts ≡ first ∷ later → advance symbol first ≡ stop) → run ts (symbol ∷ others) ≡ stuck ts
unfolding run
run_stops [] symbol others needed stops = ap (λ (b : Bool). ends_at b (ended others)) needed
run_stops (t ∷ ts) symbol others needed stops = ap (λ (a : Advance). onward a (run ts) others (t ∷ ts)) (stops t ts refl)

module _ {text : List ℕ} {place : ℕ} where
  pub stuck_more : {at : ℕ} {symbols : List Symbol} → Stuck text at symbols place → (later : List Symbol) → Stuck text at (symbols ++ later) place
  stuck_more {at} {symbols} s later =
      record {
        stops = λ others. ap (run (tokens (from text at))) (append_assoc symbols later others) ∙ s.stops (later ++ others);
        later = s.later;
      }

  -- the words before a place take the place of their symbols
  pub stuck_past :
      {at next : ℕ} (words : List Token → List Token) {symbols after : List Symbol}
      → tokens (from text at) ≡ words (tokens (from text next)) → Later text at next
      → ((ts : List Token) (others : List Symbol) → run (words ts) (symbols ++ others) ≡ run ts (after ++ others))
      → Stuck text next after place → Stuck text at symbols place
  stuck_past {at} {next} words {symbols} e later runs s =
      record {
        stops = λ others. ap (λ (l : List Token). run l (symbols ++ others)) e ∙ runs (tokens (from text next)) others ∙ s.stops others;
        later = later_on later s.later;
      }

  pub stuck_word :
      {at next : ℕ} {t : Token} {symbols after : List Symbol} → Led text at t next
      → ((ts : List Token) (others : List Symbol) → run (t ∷ ts) (symbols ++ others) ≡ run ts (after ++ others))
      → Stuck text next after place → Stuck text at symbols place
  stuck_word {t = t} w runs s = stuck_past (λ ts. t ∷ ts) w.is w.later runs s

module _ {text : List ℕ} {at : ℕ} where
  -- the word at the place itself does not go on with this symbol
  pub stuck_here :
      (symbol : Symbol) → may_end symbol ≡ false
      → ((first : Token) (later : List Token) → tokens (from text at) ≡ first ∷ later → advance symbol first ≡ stop)
      → Stuck text at (symbol ∷ []) at
  stuck_here symbol needed stops =
      record { stops = λ others. run_stops (tokens (from text at)) symbol others needed stops; later = later_self }

  -- no word stands at the text's end
  pub stuck_end : {start : ℕ} → Begun text at start → length text ≤ start → (symbol : Symbol) → may_end symbol ≡ false → Stuck text at (symbol ∷ []) at
  stuck_end {start} begun over symbol needed =
      stuck_here symbol needed
      (λ first later e. let none : first ∷ later ≡ [] = sym e ∙ ap tokens (sym begun.same ∙ words_end text start over) in clash (cc))

  -- another word stands where this one is to stand
  pub lacks_word : {t : Token} → Missing text at t → Stuck text at (exactly t ∷ []) at
  lacks_word {t} m = stuck_here (exactly t) refl (λ first later e. ap expected (m first later e))

  pub stuck_cut : {s : Span} → Cut text at s → (symbol : Symbol) → may_end symbol ≡ false
      → advance symbol (token_of (part text s.start s.end)) ≡ stop → Stuck text at (symbol ∷ []) at
  stuck_cut c symbol needed stops = stuck_here symbol needed (λ first later e. ap (advance symbol) (cut_token c first later e) ∙ stops)
