-- Demand 2: the level check gives the least solution of its rules. The walk's sets are a solution, and by monotonicity they
-- are contained in every other.
use Prim.Native.Nat.{ℕ, ◌≤◌, ◌<◌, ◌^◌, min}
use native.Mathlib.Omega.{arith}
use mathlib.Core.Bool.{Bool, true, false, ◌||◌}
use mathlib.Core.List.{List, [], ◌∷◌, ◌++◌}
use mathlib.Core.Logic.{◌⊎◌, inl, inr}
use mathlib.Core.Path.{◌≡◌, refl, sym, ap, ap₂, ◌∙◌, subst}
use lib.Dec.{leb}
use borrow.Author.Tests.{leb-true, leb-false}
use Rattle.rules.specs.Limits.{width}
use Rattle.rules.specs.Rows.{rows_of}
use Rattle.rules.specs.Trees.{Expr, Stmt, skip, assign, sequence, if, while, output, recipe}
use Rattle.rules.specs.Marks.{none, union, ◌⊆◌, provisional}
use Rattle.rules.specs.Values.{level, may_assign}
use Rattle.rules.specs.LevelRules.{under, Choice, result, Solves, Within, failing}
use Rattle.rules.specs.LevelCheck.{walk, lowest_of, checked_of}
use Rattle.rules.specs.Answers.{said_of_check, Advised}
use Rattle.rules.proofs.MarkLaws.{subset_refl, subset_union_left, subset_union_right, union_least, union_mono, put_mono, put_adds, union_lt_left, union_lt_right}
use Rattle.rules.proofs.AgreeLaws.{level_rises}
use Rattle.rules.proofs.RangeLaws.{recipe_range}
use Rattle.rules.proofs.LevelLaws.{Rested, rounds_law}
use Rattle.rules.proofs.AnswerLaws.{advice_accepted}
use Rattle.safety.specs.Stations.{Among}
use Rattle.safety.specs.Demands.{LevelCheckIsLeast, LowestIsNamed}

-- ---- a walk adds only variables that the statement may assign, so a loop comes to rest

-- what a loop comes to, if its body's walk adds only what the body may assign
rests :
    (e : Expr) (s : Stmt) → may_assign s < 2 ^ width → ((c : Bool) (m : ℕ) → (walk s c m).marks ⊆ union m (may_assign s)) → (c : Bool) (m : ℕ)
    → Rested (λ (j : ℕ). walk s (under e c j) j) m (walk (while e s) c m)
rests e s small adds c m = rounds_law (λ (j : ℕ). walk s (under e c j) j) (may_assign s) small (λ x. adds (under e c x) x) m

walk_adds : (s : Stmt) → may_assign s < 2 ^ width → (c : Bool) (m : ℕ) → (walk s c m).marks ⊆ union m (may_assign s)
walk_adds skip small c m = subset_union_left m none
walk_adds (assign v e) small c m = put_adds v (under e c m) m
walk_adds (sequence s t) small c m = λ i h.
    union_least (union m (may_assign s)) (may_assign t) (union m (union (may_assign s) (may_assign t)))
    (union_mono m (may_assign s) m (union (may_assign s) (may_assign t)) (subset_refl m) (subset_union_left (may_assign s) (may_assign t)))
    (λ j g. subset_union_right m (union (may_assign s) (may_assign t)) j (subset_union_right (may_assign s) (may_assign t) j g))
    i
    (union_mono (walk s c m).marks (may_assign t) (union m (may_assign s)) (may_assign t)
    (walk_adds s (union_lt_left (2 ^ width) (may_assign s) (may_assign t) small) c m)
    (subset_refl (may_assign t)) i
    (walk_adds t (union_lt_right (2 ^ width) (may_assign s) (may_assign t) small) c (walk s c m).marks i h))
walk_adds (if e s t) small c m =
    union_least (walk s (under e c m) m).marks (walk t (under e c m) m).marks (union m (union (may_assign s) (may_assign t)))
    (λ i h.
    union_mono m (may_assign s) m (union (may_assign s) (may_assign t)) (subset_refl m) (subset_union_left (may_assign s) (may_assign t)) i
    (walk_adds s (union_lt_left (2 ^ width) (may_assign s) (may_assign t) small) (under e c m) m i h))
    (λ i h.
    union_mono m (may_assign t) m (union (may_assign s) (may_assign t)) (subset_refl m) (subset_union_right (may_assign s) (may_assign t)) i
    (walk_adds t (union_lt_right (2 ^ width) (may_assign s) (may_assign t) small) (under e c m) m i h))
walk_adds (while e s) small c m =
    (rests e s small (walk_adds s small) c m).least (union m (may_assign s)) (subset_union_left m (may_assign s))
    (λ x sub i h.
    union_least x (may_assign s) (union m (may_assign s)) sub (subset_union_right m (may_assign s)) i
    (walk_adds s small (under e c x) x i h))
walk_adds (output channel e row) small c m = subset_union_left m none

loop_rests :
    (e : Expr) (s : Stmt) → may_assign s < 2 ^ width → (c : Bool) (m : ℕ)
    → Rested (λ (j : ℕ). walk s (under e c j) j) m (walk (while e s) c m)
loop_rests e s small c m = rests e s small (walk_adds s small) c m

-- ---- the walk's choice: for each loop, the set that the walk comes to

abbrev pub solved : (s : Stmt) → Bool → ℕ → Choice s
solved skip c m = tt
solved (assign v e) c m = tt
solved (sequence s t) c m = (solved s c m, solved t c (walk s c m).marks)
solved (if e s t) c m = (solved s (under e c m) m, solved t (under e c m) m)
solved (while e s) c m = ((walk (while e s) c m).marks, solved s (under e c (walk (while e s) c m).marks) (walk (while e s) c m).marks)
solved (output channel e row) c m = tt

-- its result and its failing rows are the walk's
pub solved_result : (s : Stmt) (c : Bool) (m : ℕ) → result s (solved s c m) c m ≡ (walk s c m).marks
solved_result skip c m = refl
solved_result (assign v e) c m = refl
solved_result (sequence s t) c m =
    ap (λ (x : ℕ). result t (solved t c (walk s c m).marks) c x) (solved_result s c m) ∙ solved_result t c (walk s c m).marks
solved_result (if e s t) c m = ap₂ union (solved_result s (under e c m) m) (solved_result t (under e c m) m)
solved_result (while e s) c m = refl
solved_result (output channel e row) c m = refl

pub solved_failing : (s : Stmt) → may_assign s < 2 ^ width → (c : Bool) (m : ℕ) → failing s (solved s c m) c m ≡ (walk s c m).failing
solved_failing skip small c m = refl
solved_failing (assign v e) small c m = refl
solved_failing (sequence s t) small c m =
    ap₂ (λ (a b : List ℕ). a ++ b) (solved_failing s (union_lt_left (2 ^ width) (may_assign s) (may_assign t) small) c m)
    (ap (λ (x : ℕ). failing t (solved t c (walk s c m).marks) c x) (solved_result s c m)
    ∙ solved_failing t (union_lt_right (2 ^ width) (may_assign s) (may_assign t) small) c (walk s c m).marks)
solved_failing (if e s t) small c m =
    ap₂ (λ (a b : List ℕ). a ++ b) (solved_failing s (union_lt_left (2 ^ width) (may_assign s) (may_assign t) small) (under e c m) m)
    (solved_failing t (union_lt_right (2 ^ width) (may_assign s) (may_assign t) small) (under e c m) m)
solved_failing (while e s) small c m =
    solved_failing s small (under e c (walk (while e s) c m).marks) (walk (while e s) c m).marks ∙ sym (loop_rests e s small c m).judged
solved_failing (output channel e row) small c m = refl

pub solved_solves : (s : Stmt) → may_assign s < 2 ^ width → (c : Bool) (m : ℕ) → Solves s (solved s c m) c m
solved_solves skip small c m = tt
solved_solves (assign v e) small c m = tt
solved_solves (sequence s t) small c m = (
  solved_solves s (union_lt_left (2 ^ width) (may_assign s) (may_assign t) small) c m,
  subst (λ (x : ℕ). Solves t (solved t c (walk s c m).marks) c x) (sym (solved_result s c m))
      (solved_solves t (union_lt_right (2 ^ width) (may_assign s) (may_assign t) small) c (walk s c m).marks),
)
solved_solves (if e s t) small c m = (
  solved_solves s (union_lt_left (2 ^ width) (may_assign s) (may_assign t) small) (under e c m) m,
  solved_solves t (union_lt_right (2 ^ width) (may_assign s) (may_assign t) small) (under e c m) m,
)
solved_solves (while e s) small c m = (
  (loop_rests e s small c m).above,
  subst (λ (x : ℕ). x ⊆ (walk (while e s) c m).marks)
      (sym (solved_result s (under e c (walk (while e s) c m).marks) (walk (while e s) c m).marks)) (loop_rests e s small c m).shut,
  solved_solves s small (under e c (walk (while e s) c m).marks) (walk (while e s) c m).marks,
)
solved_solves (output channel e row) small c m = tt

-- ---- it is contained in every solution

pub under_mono : (e : Expr) (c c' : Bool) (m m' : ℕ) → (c ≡ true → c' ≡ true) → m ⊆ m' → under e c m ≡ true → under e c' m' ≡ true
under_mono e c c' m m' rises sub h =
    either (provisional (level m e)) (provisional (level m' e)) c c' (level_rises m m' sub e) rises h
  where
    either : (x x' y y' : Bool) → (x ≡ true → x' ≡ true) → (y ≡ true → y' ≡ true) → (x || y) ≡ true → (x' || y') ≡ true
    either true x' y y' f g h = ap (λ (z : Bool). z || y') (f refl)
    either false true y y' f g h = refl
    either false false y y' f g h = g h

-- from more marks and a higher context, any solution is above the walk
above :
    (s : Stmt) → may_assign s < 2 ^ width → (c c' : Bool) (m m' : ℕ) → (c ≡ true → c' ≡ true) → m ⊆ m' → (other : Choice s)
    → Solves s other c' m' → Within s (solved s c m) other × ((walk s c m).marks ⊆ result s other c' m')
above skip small c c' m m' rises sub other solves = (tt, sub)
above (assign v e) small c c' m m' rises sub other solves =
    (tt, put_mono v (under e c m) (under e c' m') m m' (under_mono e c c' m m' rises sub) sub)
above (sequence s t) small c c' m m' rises sub other solves =
    let first = above s (union_lt_left (2 ^ width) (may_assign s) (may_assign t) small) c c' m m' rises sub other.0 solves.0 in
    let second =
    above t (union_lt_right (2 ^ width) (may_assign s) (may_assign t) small) c c' (walk s c m).marks (result s other.0 c' m') rises first.1
    other.1 solves.1
    in
    ((first.0, second.0), second.1)
above (if e s t) small c c' m m' rises sub other solves =
    let first =
    above s (union_lt_left (2 ^ width) (may_assign s) (may_assign t) small) (under e c m) (under e c' m') m m' (under_mono e c c' m m' rises sub) sub
    other.0 solves.0
    in
    let second =
    above t (union_lt_right (2 ^ width) (may_assign s) (may_assign t) small) (under e c m) (under e c' m') m m' (under_mono e c c' m m' rises sub) sub
    other.1 solves.1
    in
    ((first.0, second.0), union_mono _ _ _ _ first.1 second.1)
above (while e s) small c c' m m' rises sub other solves =
    let low : (walk (while e s) c m).marks ⊆ other.0 =
    (loop_rests e s small c m).least other.0 (λ i h. solves.0 i (sub i h))
    (λ x within i h.
    solves.1 i
    ((above s small (under e c x) (under e c' other.0) x other.0 (under_mono e c c' x other.0 rises within) within other.1 solves.2
    ).1 i h))
    in
    let inner =
    above s small (under e c (walk (while e s) c m).marks) (under e c' other.0) (walk (while e s) c m).marks other.0
    (under_mono e c c' (walk (while e s) c m).marks other.0 rises low) low other.1 solves.2
    in
    ((low, inner.0), low)
above (output channel e row) small c c' m m' rises sub other solves = (tt, sub)

pub level_check_is_least : LevelCheckIsLeast
level_check_is_least words marks e =
    let s : Stmt = recipe (rows_of words) in
    let small : may_assign s < 2 ^ width = recipe_range words e in
    let a = advice_accepted words marks e in (
      solved s false marks,
      record {
        solves = solved_solves s small false marks;
        within = λ other h. (above s small false false marks marks (λ x. x) (subset_refl marks) other h).0;
        below = λ other h.
            subst (λ (x : ℕ). x ⊆ result s other false marks) (sym (solved_result s false marks))
            (above s small false false marks marks (λ x. x) (subset_refl marks) other h).1;
      },
      ap (λ (x : Advised). x.marks) a ∙ sym (solved_result s false marks),
      ap (λ (x : Advised). x.said) a ∙ ap (λ (x : List ℕ). said_of_check (checked_of x)) (sym (solved_failing s small false marks)),
    )

-- ---- the lowest of the failing rows

lowest_among : (row : ℕ) (rows : List ℕ) → Among (lowest_of row rows) (row ∷ rows)
lowest_among row [] = inl refl
lowest_among row (other ∷ rows) = pick (lowest_among (min row other) rows) (smaller row other)
  where
    smaller : (a b : ℕ) → (min a b ≡ a) ⊎ (min a b ≡ b)
    smaller a b = by (leb a b) refl
      where
        by : (x : Bool) → leb a b ≡ x → (min a b ≡ a) ⊎ (min a b ≡ b)
        by true h = inl (omega (arith, leb-true a b h))
        by false h = inr (omega (arith, leb-false a b h))

    pick : Among (lowest_of (min row other) rows) (min row other ∷ rows) → (min row other ≡ row) ⊎ (min row other ≡ other)
        → Among (lowest_of (min row other) rows) (row ∷ other ∷ rows)
    pick (inl e) (inl f) = inl (e ∙ f)
    pick (inl e) (inr f) = inr (inl (e ∙ f))
    pick (inr a) f = inr (inr a)

lowest_low : (row : ℕ) (rows : List ℕ) (other : ℕ) → Among other (row ∷ rows) → lowest_of row rows ≤ other
lowest_low row [] other (inl e) = omega arith
lowest_low row [] other (inr a) = absurd a
lowest_low row (next ∷ rows) other (inl e) = omega (arith, lowest_low (min row next) rows (min row next) (inl refl))
lowest_low row (next ∷ rows) other (inr (inl e)) = omega (arith, lowest_low (min row next) rows (min row next) (inl refl))
lowest_low row (next ∷ rows) other (inr (inr a)) = lowest_low (min row next) rows other (inr a)

pub lowest_is_named : LowestIsNamed
lowest_is_named [] = record {
  passes = (λ e. refl, λ e. refl);
  fails = λ row e. let z : ◌≡◌ {A = ℕ} 0 1 = cc in absurd (omega arith);
  unrefused = λ refusal e. let z : ◌≡◌ {A = ℕ} 0 1 = cc in omega arith;
}
lowest_is_named (row ∷ rows) = record {
  passes = (λ e. let z : ◌≡◌ {A = ℕ} 0 1 = cc in absurd (omega arith), λ e. let z : ◌≡◌ {A = ℕ} 0 1 = cc in absurd (omega arith));
  fails = λ named e.
      let same : lowest_of row rows ≡ named = cc in
      (subst (λ (x : ℕ). Among x (row ∷ rows)) same (lowest_among row rows), λ other a. subst (λ (x : ℕ). x ≤ other) same (lowest_low row rows other a));
  unrefused = λ refusal e. let z : ◌≡◌ {A = ℕ} 0 1 = cc in omega arith;
}
