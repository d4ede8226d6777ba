-- A text has a single answer: it has one fault at most, and none where it is a recipe.
use native.Mathlib.Omega.{arith}
use mathlib.Core.List.{List, [], ◌∷◌, ◌++◌, append_assoc, map-append, tail-eq_of_cons-eq}
use mathlib.Core.Path.{◌≡◌, refl, sym, ap, ◌∙◌}
use Rattle.language.specs.Limits.{faulty_word}
use Rattle.language.specs.Words.{Word}
use Rattle.language.specs.Tokens.{Token, token_of, tokens}
use Rattle.language.specs.Recipes.{Recipe}
use Rattle.language.specs.Readings.{Begun, Fault, long, faulty, read, part_at, refused, untouched, reading_of}
use Rattle.language.specs.Claims.{OneAnswer}
use Rattle.language.proofs.Unambiguous.{single_reading}

-- ---- one fault

-- a recipe that begins with some words begins with the first of them
pub begun_first : (first rest : List Token) → Begun (first ++ rest) → Begun first
begun_first first rest b = (b.0, rest ++ b.1, b.2 ∙ append_assoc first rest b.1)

-- Two splits of one list have the same rest, where neither is past the other.
same_rest :
    (p q a b : List Word) → p ++ a ≡ q ++ b
    → ((w : Word) (m : List Word) → p ≡ q ++ w ∷ m → b ≡ w ∷ (m ++ a) → ⊥)
    → ((w : Word) (m : List Word) → q ≡ p ++ w ∷ m → a ≡ w ∷ (m ++ b) → ⊥)
    → a ≡ b
same_rest [] [] a b h further nearer = h
same_rest [] (w ∷ q) a b h further nearer = absurd (nearer w q refl h)
same_rest (w ∷ p) [] a b h further nearer = absurd (further w p refl (sym h))
same_rest (v ∷ p) (w ∷ q) a b h further nearer =
    same_rest p q a b (tail-eq_of_cons-eq h) (λ u m e. further u m (cc)) (λ u m e. nearer u m (cc))

-- no recipe begins with more of the words than those before the fault
fault_last :
    {words rest begun after : List Word} (f : Fault words rest) (w : Word) (m : List Word)
    → begun ≡ f.before ++ w ∷ m → Begun (tokens begun) → rest ≡ w ∷ after → ⊥
fault_last {begun} {after} f w m e b r =
    let further : tokens begun ≡ tokens f.before ++ token_of w.bytes ∷ [] ++ tokens m =
    ap tokens e ∙ simp (map-append, append_assoc) in
    f.stuck w after r (begun_first (tokens f.before ++ token_of w.bytes ∷ []) (tokens m) (rw further at b))

pub fault_unique : {words a b : List Word} → Fault words a → Fault words b → a ≡ b
fault_unique {a} {b} f g =
    same_rest f.before g.before a b (sym f.split ∙ g.split)
    (λ w m e. fault_last g w m e f.begun)
    (λ w m e. fault_last f w m e g.begun)

-- ---- one answer

pub one_answer : OneAnswer
one_answer meant text table a b (long h) (long k) = refl
one_answer meant text table a b (long h) (faulty k rest f) = absurd (omega arith)
one_answer meant text table a b (long h) (read k r e) = absurd (omega arith)
one_answer meant text table a b (faulty k rest f) (long h) = absurd (omega arith)
one_answer meant text table a b (faulty k rest f) (faulty h other g) =
    ap (λ (x : List Word). untouched (refused faulty_word 0 (part_at text x)) table) (fault_unique f g)
one_answer meant text table a b (faulty k rest f) (read h r e) = absurd (f.unfinished r e)
one_answer meant text table a b (read k r e) (long h) = absurd (omega arith)
one_answer meant text table a b (read k r e) (faulty h rest f) = absurd (f.unfinished r e)
one_answer meant text table a b (read k r e) (read h other g) =
    ap (λ (x : Recipe). reading_of meant text x table) (single_reading text r other e g)
