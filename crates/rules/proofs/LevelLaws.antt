-- What the rounds of a loop give in the level check: the least set that contains the incoming one and what the body makes
-- of it. A loop's body adds only variables that there are, so there are rounds enough.
use Prim.Native.Nat.{ℕ, zero, suc, ◌+◌, ◌-◌, ◌≤◌, ◌<◌, ◌^◌}
use native.Mathlib.Omega.{arith}
use mathlib.Core.Bool.{Bool, true, false, cond, ◌||◌}
use mathlib.Core.Logic.{◌≢◌}
use mathlib.Core.List.{[]}
use mathlib.Core.Path.{◌≡◌, refl, sym, ap, ◌∙◌, subst}
use lib.Dec.{T, eqb, ltb}
use borrow.Author.Tests.{eqb-true, eqb-false, eq-eqb, ne_eqb, ltb-true, ltb-false}
use Rattle.rules.specs.Limits.{width}
use Rattle.rules.specs.Marks.{has, union, ◌⊆◌}
use Rattle.rules.specs.LevelCheck.{Walked, walked, rested, added, rounds}
use Rattle.rules.proofs.MarkLaws.{has_union, has_above, marks_ext, subset_refl, subset_union_left, subset_union_right, union_least}

-- ---- how many of the first n variables are not in a set

free : ℕ → ℕ → ℕ
free zero m = 0
free (suc n) m = cond (has m n) 0 1 + free n m

-- one place of the count, where the larger set has what the smaller has
place_le : (x y : Bool) → (T x → T y) → cond y 0 1 ≤ cond x 0 1
place_le true true f = omega arith
place_le true false f = absurd (f tt)
place_le false true f = omega arith
place_le false false f = omega arith

place_same : (x y : Bool) → ◌≡◌ {A = ℕ} (cond y 0 1) (cond x 0 1) → x ≡ y
place_same true true e = refl
place_same true false e = absurd (omega arith)
place_same false true e = absurd (omega arith)
place_same false false e = refl

place_small : (b : Bool) → cond b 0 1 ≤ 1
place_small true = omega arith
place_small false = omega arith

free_le : (n m : ℕ) → free n m ≤ n
unfolding free
free_le zero m = omega arith
free_le (suc n) m = omega (arith, free_le n m, place_small (has m n))

module _ (m g : ℕ) (sub : m ⊆ g) where
  free_mono : (n : ℕ) → free n g ≤ free n m
  unfolding free
  free_mono zero = omega arith
  free_mono (suc n) = omega (arith, free_mono n, place_le (has m n) (has g n) (sub n))

  -- with no fewer free places, the larger set has nothing more among the first n
  free_same : (n : ℕ) → free n g ≡ free n m → (i : ℕ) → i < n → has m i ≡ has g i
  unfolding free
  free_same zero e i h = absurd (omega arith)
  free_same (suc n) e i h = by (eqb i n) refl (λ e' h'. free_same n e' i h')
    where
      rest : free n g ≤ free n m
      rest = free_mono n

      here : cond (has g n) 0 1 ≤ cond (has m n) 0 1
      here = place_le (has m n) (has g n) (sub n)

      by : (b : Bool) → eqb i n ≡ b → (free n g ≡ free n m → i < n → has m i ≡ has g i) → has m i ≡ has g i
      by true at_n ih =
          subst (λ (j : ℕ). has m j ≡ has g j) (sym (eqb-true i n at_n)) (place_same (has m n) (has g n) (omega (arith, rest, here)))
      by false other ih = let differs : i ≢ n = eqb-false i n other in ih (omega (arith, rest, here)) (omega arith)

-- a set that grew by variables that there are has fewer free places
grown_free :
    (m g assigned : ℕ) → m ⊆ g → g ⊆ union m assigned → assigned < 2 ^ width → g ≢ m → free width g < free width m
grown_free m g assigned sub within small other =
    let le : free width g ≤ free width m = free_mono m g sub width in
    let ne : free width g ≢ free width m = λ e. other (marks_ext g m (λ i. same e i)) in
    omega arith
  where
    absent : (x y z : Bool) → (T x → T y) → (T y → T (x || z)) → z ≡ false → y ≡ x
    absent true true z f g e = refl
    absent true false z f g e = absurd (f tt)
    absent false true true f g e = e
    absent false true false f g e = absurd (g tt)
    absent false false z f g e = refl

    same : free width g ≡ free width m → (i : ℕ) → has g i ≡ has m i
    same e i = by (ltb i width) refl
      where
        by : (b : Bool) → ltb i width ≡ b → has g i ≡ has m i
        by true h = sym (free_same m g sub width e i (ltb-true i width h))
        by false h =
            absent (has m i) (has g i) (has assigned i) (sub i) (λ t. subst T (has_union m assigned i) (within i t))
            (has_above width assigned i small (ltb-false i width h))

-- ---- the rounds

-- one round: with none left the set stands as it is; a walk that adds nothing ends them; any other goes on from what it added to
module _ (body : ℕ → Walked) where
  pub rounds_over : (m : ℕ) → rounds 0 body m ≡ walked m []
  unfolding rounds
  rounds_over m = refl

  pub rounds_rest : (n m : ℕ) → n ≢ 0 → union m (body m).marks ≡ m → rounds n body m ≡ walked m (body m).failing
  unfolding rounds added rested
  rounds_rest zero m some e = absurd (some refl)
  rounds_rest (suc n) m some e =
      ap (λ (b : Bool). rested b (rounds n body) m (union m (body m).marks) (body m).failing) (eq-eqb (union m (body m).marks) m e)

  pub rounds_on : (n m : ℕ) → n ≢ 0 → union m (body m).marks ≢ m → rounds n body m ≡ rounds (n - 1) body (union m (body m).marks)
  unfolding rounds added rested
  rounds_on zero m some e = absurd (some refl)
  rounds_on (suc n) m some e =
      let fewer : n ≡ suc n - 1 = omega arith in
      ap (λ (b : Bool). rested b (rounds n body) m (union m (body m).marks) (body m).failing) (ne_eqb (union m (body m).marks) m e)
      ∙ ap (λ (k : ℕ). rounds k body (union m (body m).marks)) fewer

-- what the rounds of a loop come to, from a set m
pub record Rested (body : ℕ → Walked) (m : ℕ) (w : Walked) : Type 0 where
  pub above : m ⊆ w.marks
  pub shut : (body w.marks).marks ⊆ w.marks
  pub least : (other : ℕ) → m ⊆ other → ((x : ℕ) → x ⊆ other → (body x).marks ⊆ other) → w.marks ⊆ other
  pub judged : w.failing ≡ (body w.marks).failing

module _ (body : ℕ → Walked) (assigned : ℕ) (small : assigned < 2 ^ width) (adds : (x : ℕ) → (body x).marks ⊆ union x assigned) where
  rounds_from : (n m : ℕ) → free width m < n → Rested body m (rounds n body m)
  unfolding rounds added rested
  rounds_from zero m h = absurd (omega arith)
  rounds_from (suc n) m h =
      by (eqb (union m (body m).marks) m) refl (λ e. rounds_from n (union m (body m).marks) (fewer e))
    where
      grown : ℕ
      grown = union m (body m).marks

      fewer : eqb grown m ≡ false → free width grown < n
      fewer e =
          let f : free width grown < free width m =
          grown_free m grown assigned (subset_union_left m (body m).marks)
          (union_least m (body m).marks (union m assigned) (subset_union_left m assigned) (adds m)) small (eqb-false grown m e)
          in
          omega arith

      by : (b : Bool) → eqb grown m ≡ b → (eqb grown m ≡ false → Rested body grown (rounds n body grown))
          → Rested body m (rested b (rounds n body) m grown (body m).failing)
      by true e onward = record {
        above = subset_refl m;
        shut = λ i t. subst (λ (x : ℕ). T (has x i)) (eqb-true grown m e) (subset_union_right m (body m).marks i t);
        least = λ other sub keeps. sub;
        judged = refl;
      }
      by false e onward = record {
        above = λ i t. (onward e).above i (subset_union_left m (body m).marks i t);
        shut = (onward e).shut;
        least = λ other sub keeps. (onward e).least other (union_least m (body m).marks other sub (keeps m sub)) keeps;
        judged = (onward e).judged;
      }

  pub rounds_law : (m : ℕ) → Rested body m (rounds (width + 1) body m)
  rounds_law m = rounds_from (width + 1) m (omega (arith, free_le width m))
