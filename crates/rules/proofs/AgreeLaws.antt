-- Two memories that are equal in every settled variable give a settled expression one value; more marks give higher levels; a
-- level has marked variables alone.
use Prim.Native.Nat.{ℕ}
use mathlib.Core.Bool.{Bool, true, false, cond, not, true≢false}
use mathlib.Core.List.{List}
use mathlib.Core.Path.{◌≡◌, refl, sym, ap, ap₂, ◌∙◌}
use borrow.Author.Tests.{eq-eqb, ne_eqb}
use lib.Dec.{T, eqb}
use lib.ListN.{get_or}
use Rattle.rules.specs.Marks.{none, has, only, union, ◌⊆◌, provisional}
use Rattle.rules.specs.Trees.{Expr, constant, variable, binary}
use Rattle.rules.specs.Values.{operate, value, holds, level}
use Rattle.rules.proofs.MarkLaws.{has_only_same, settled_union, has_provisional, provisional_mono, none_subset, subset_refl, only_subset, subset_union_left, subset_union_right, union_least}

-- ---- two memories that are equal in every settled variable give a settled expression one value

module _ (marks : ℕ) (m m' : List ℕ) (same : (v : ℕ) → has marks v ≡ false → get_or m v 0 ≡ get_or m' v 0) where
  pub value_agree : (e : Expr) → provisional (level marks e) ≡ false → value m e ≡ value m' e
  unfolding value level
  value_agree (constant c) settled = refl
  value_agree (variable v) settled = by (has marks v) refl
    where
      by : (b : Bool) → has marks v ≡ b → get_or m v 0 ≡ get_or m' v 0
      by false h = same v h
      by true h =
          absurd
          (true≢false
          (sym (has_provisional (only v) v (has_only_same v))
          ∙ sym (ap (λ (b : Bool). provisional (cond b (only v) none)) h)
          ∙ settled))
  value_agree (binary o a b) settled =
      let both = settled_union (level marks a) (level marks b) settled in
      ap₂ (operate o) (value_agree a both.0) (value_agree b both.1)

  pub holds_agree : (e : Expr) → provisional (level marks e) ≡ false → holds m e ≡ holds m' e
  unfolding holds
  holds_agree e settled = ap (λ (x : ℕ). not (eqb x 0)) (value_agree e settled)

-- ---- more marks, higher levels

pub level_mono : (a b : ℕ) → a ⊆ b → (e : Expr) → level a e ⊆ level b e
unfolding level
level_mono a b sub (constant c) = subset_refl none
level_mono a b sub (variable v) = by (has a v) (has b v) (sub v)
  where
    by : (x y : Bool) → (T x → T y) → cond x (only v) none ⊆ cond y (only v) none
    by true true f = subset_refl (only v)
    by true false f = absurd (f tt)
    by false y f = none_subset (cond y (only v) none)
level_mono a b sub (binary o d e) =
    union_least (level a d) (level a e) (union (level b d) (level b e))
    (λ i h. subset_union_left (level b d) (level b e) i (level_mono a b sub d i h))
    (λ i h. subset_union_right (level b d) (level b e) i (level_mono a b sub e i h))

pub level_rises : (a b : ℕ) → a ⊆ b → (e : Expr) → provisional (level a e) ≡ true → provisional (level b e) ≡ true
level_rises a b sub e h = provisional_mono (level a e) (level b e) (level_mono a b sub e) h

-- a level has marked variables alone
pub level_within : (marks : ℕ) (e : Expr) → level marks e ⊆ marks
unfolding level
level_within marks (constant c) = none_subset marks
level_within marks (variable v) = by (has marks v) refl
  where
    by : (b : Bool) → has marks v ≡ b → cond b (only v) none ⊆ marks
    by true h = only_subset v marks h
    by false h = none_subset marks
level_within marks (binary o a b) = union_least (level marks a) (level marks b) marks (level_within marks a) (level_within marks b)

-- ---- a test holds when its value is not 0

pub test_holds : (m : List ℕ) (e : Expr) → (value m e ≡ 0 → ⊥) → holds m e ≡ true
unfolding holds
test_holds m e other = ap not (ne_eqb (value m e) 0 other)

pub test_fails : (m : List ℕ) (e : Expr) → value m e ≡ 0 → holds m e ≡ false
unfolding holds
test_fails m e same = ap not (eq-eqb (value m e) 0 same)
