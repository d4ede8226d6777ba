-- The laws of counting children in one pass: nothing counted, one child counted, one count after another.
use Prim.Native.Nat.{ℕ, ◌+◌, ◌≤◌, ◌<◌}
use native.Mathlib.Omega.{arith}
use mathlib.Core.Bool.{Bool, true, false}
use mathlib.Core.List.{List, [], ◌∷◌, ◌++◌}
use mathlib.Core.Path.{◌≡◌, refl, sym, ap, ◌∙◌}
use lib.Dec.{eqb}
use lib.ListN.{length, get_or, set, length-set}
use lib.Seq.{get_or-set_same, get_or-set_other}
use borrow.Author.Tests.{eqb-true, eqb-false}
use Rattle.rules.specs.Limits.{most_rows}
use Rattle.rules.specs.Judging.{places}
use Rattle.rules.proofs.RefusalLaws.{places_none, places_here, places_elsewhere, places_append}
use Rattle.table.specs.Parents.{SameCount, Counted}

-- nothing is counted
pub counted_none : (xs : List ℕ) → length xs ≡ most_rows → Counted xs xs []
counted_none xs long = record { long = long; each = λ i h. let z : places i [] ≡ 0 = places_none i in omega arith }

-- a child past the table is counted nowhere
pub counted_out : (xs : List ℕ) (w : ℕ) → length xs ≡ most_rows → most_rows ≤ w → Counted xs xs (w ∷ [])
counted_out xs w long out =
    record {
      long = long;
      each = λ i h. let z : places i (w ∷ []) ≡ 0 = places_elsewhere i w (λ e. omega arith) in omega arith;
    }

-- a child is counted where it stands
pub counted_child :
    (xs : List ℕ) (w v : ℕ) → length xs ≡ most_rows → w < most_rows → SameCount v (get_or xs w 0 + 1) → Counted xs (set xs w v) (w ∷ [])
counted_child xs w v long within same =
    record { long = length-set xs w v ∙ long; each = λ i h. at i (eqb w i) refl }
  where
    at : (i : ℕ) (t : Bool) → eqb w i ≡ t → SameCount (get_or (set xs w v) i 0) (get_or xs i 0 + places i (w ∷ []))
    at i true e =
        let here : w ≡ i = eqb-true w i e in
        let one : places i (w ∷ []) ≡ 1 = ap (λ (n : ℕ). places i (n ∷ [])) here ∙ places_here i in
        let now : get_or (set xs w v) i 0 ≡ v = ap (λ (n : ℕ). get_or (set xs w v) n 0) (sym here) ∙ get_or-set_same xs w v 0 (omega arith) in
        let was : get_or xs w 0 ≡ get_or xs i 0 = ap (λ (n : ℕ). get_or xs n 0) here in
        omega arith
    at i false e =
        let zero : places i (w ∷ []) ≡ 0 = places_elsewhere i w (eqb-false w i e) in
        let kept : get_or (set xs w v) i 0 ≡ get_or xs i 0 = get_or-set_other xs w i v 0 (λ same'. eqb-false w i e (sym same')) in
        omega arith

-- one count after another
pub counted_then :
    (xs ys zs a b : List ℕ) → Counted xs ys a → Counted ys zs b → Counted xs zs (a ++ b)
counted_then xs ys zs a b first second =
    record {
      long = second.long;
      each = λ i h. let n : places i (a ++ b) ≡ places i a + places i b = places_append i a b in omega (arith, first.each i h, second.each i h);
    }
