-- Every step of a run keeps its state within bounds, and so is the state from which an accepted table's recipe starts.
use Prim.Native.Nat.{ℕ, zero, suc, ◌+◌, ◌-◌, ◌^◌, ◌≤◌, ◌<◌}
use native.Mathlib.Nat.{not-suc-le-zero}
use native.Mathlib.Omega.{arith}
use mathlib.Core.Bool.{Bool, true, false, ◌||◌}
use mathlib.Core.List.{List, [], ◌∷◌}
use mathlib.Core.Path.{◌≡◌, refl, sym, subst}
use lib.ListN.{length, get_or}
use Rattle.rules.specs.Judged.{Judged}
use Rattle.rules.specs.Limits.{width, most_rows, most_nesting}
use Rattle.rules.specs.Rows.{rows_of}
use Rattle.rules.specs.Trees.{Stmt, skip, assign, sequence, if, while, output, nesting, stmt_at, recipe}
use Rattle.rules.specs.Judging.{judge}
use Rattle.rules.specs.Marks.{none, provisional}
use Rattle.rules.specs.Values.{level, may_assign}
use Rattle.rules.specs.Running.{Item, statement, close, context, push}
use Rattle.rules.specs.Sound.{Sound}
use Rattle.rules.proofs.MarkLaws.{none_lt, put_lt, union_lt, union_lt_left, union_lt_right, only_in_range}
use Rattle.rules.proofs.JudgeLaws.{accepted_sound}
use Rattle.rules.proofs.TreeLaws.{EachKind, stmt_induction, recipe_law}
use Rattle.rules.proofs.RangeLaws.{recipe_range}
use Rattle.rules.proofs.RunInvariants.{Keeps}
use Rattle.rules.specs.Bounds.{need, most_pending, closes, Roomy, Small, Bounds}

pub need_pos : (s : Stmt) → 1 ≤ need s
need_pos skip = omega arith
need_pos (assign v e) = omega arith
need_pos (sequence s t) = omega (arith, need_pos t)
need_pos (if e s t) = omega arith
need_pos (while e s) = omega arith
need_pos (output c e row) = omega arith

-- an item for each row up to the statement's own, and one for each level of its nesting
one_a_row : EachKind (λ i s. need s ≤ i + 1 + nesting s)
one_a_row = record {
  of_skip = λ i. omega arith;
  of_assign = λ i v e h. omega arith;
  of_sequence = λ i j k s t hj hk p q. omega arith;
  of_if = λ i j k e s t hj hk p q. omega arith;
  of_while = λ i j e s hj p. omega arith;
  of_output = λ i channel e h. omega arith;
}

push_length : (b : Bool) (set : ℕ) (p : List ℕ) → length (push b set p) ≤ length p + 1
push_length true set p = omega arith
push_length false set p = omega arith

push_small : (b : Bool) (set : ℕ) (p : List ℕ) → set < 2 ^ width → Small p → Small (push b set p)
push_small true set p h small = (h, small)
push_small false set p h small = small

-- a test was looked at: what comes next has room, and one close more is pending
opens :
    (k k' : List Item) (l : ℕ) (p : List ℕ) (b : Bool) (set : ℕ) → set < 2 ^ width
    → closes k' ≡ closes k + 1 → Roomy k' → l < 2 ^ width → length p ≤ closes k → Small p → Bounds k' l (push b set p)
opens k k' l p b set h one roomy marks pile sets = record {
  marks = marks;
  pile = omega (arith, push_length b set p);
  sets = push_small b set p h sets;
  roomy = roomy;
}

pub bounds_kept : Keeps (λ k m l p g. Bounds k l p)
bounds_kept = record {
  skip_kept = λ f. record { marks = f.marks; pile = f.pile; sets = f.sets; roomy = f.roomy.3 };
  assign_kept = λ {k} {m} {l} {p} {g} {v} {e} f.
      record {
        marks = put_lt width v (provisional (level l e) || context p) l (only_in_range width v f.roomy.2) f.marks;
        pile = f.pile;
        sets = f.sets;
        roomy = f.roomy.3;
      };
  sequence_kept = λ {k} {m} {l} {p} {g} {s} {t} f.
      let a = f.roomy.0 in
      let b = f.roomy.1 in
      record {
        marks = f.marks;
        pile = f.pile;
        sets = f.sets;
        roomy = (
          omega arith,
          omega arith,
          union_lt_left (2 ^ width) (may_assign s) (may_assign t) f.roomy.2,
          (omega arith, omega arith, union_lt_right (2 ^ width) (may_assign s) (may_assign t) f.roomy.2, f.roomy.3),
        );
      };
  then_kept = λ {k} {m} {l} {p} {g} {e} {s} {t} f.
      let a = f.roomy.0 in
      let b = f.roomy.1 in
      opens k (statement s ∷ close ∷ k) l p (provisional (level l e) || context p) (may_assign t)
      (union_lt_right (2 ^ width) (may_assign s) (may_assign t) f.roomy.2) refl
      (omega arith, omega arith, union_lt_left (2 ^ width) (may_assign s) (may_assign t) f.roomy.2, (omega arith, omega arith, f.roomy.3))
      f.marks f.pile f.sets;
  else_kept = λ {k} {m} {l} {p} {g} {e} {s} {t} f.
      let a = f.roomy.0 in
      let b = f.roomy.1 in
      opens k (statement t ∷ close ∷ k) l p (provisional (level l e) || context p) (may_assign s)
      (union_lt_left (2 ^ width) (may_assign s) (may_assign t) f.roomy.2) refl
      (omega arith, omega arith, union_lt_right (2 ^ width) (may_assign s) (may_assign t) f.roomy.2, (omega arith, omega arith, f.roomy.3))
      f.marks f.pile f.sets;
  turn_kept = λ {k} {m} {l} {p} {g} {e} {s} f.
      let a = f.roomy.0 in
      let b = f.roomy.1 in
      opens k (statement s ∷ close ∷ statement (while e s) ∷ k) l p (provisional (level l e) || context p) none (none_lt width) refl
      (omega arith, omega arith, f.roomy.2, (omega arith, omega arith, f.roomy)) f.marks f.pile f.sets;
  leave_kept = λ {k} {m} {l} {p} {g} {e} {s} f.
      let a = f.roomy.0 in
      let b = f.roomy.1 in
      opens k (close ∷ k) l p (provisional (level l e) || context p) (may_assign s) f.roomy.2 refl (omega arith, omega arith, f.roomy.3)
      f.marks f.pile f.sets;
  close_kept = λ {k} {m} {l} {top} {p} {g} f.
      let a = f.pile in
      record { marks = union_lt width top l f.sets.0 f.marks; pile = omega arith; sets = f.sets.1; roomy = f.roomy.2 };
  close_empty_kept = λ f. record { marks = f.marks; pile = omega arith; sets = tt; roomy = f.roomy.2 };
  record_kept = λ f. record { marks = f.marks; pile = f.pile; sets = f.sets; roomy = f.roomy.3 };
}

-- ---- what the arrays need

pub few_closes : (k : List Item) → Roomy k → closes k ≤ most_nesting
few_closes [] roomy = omega arith
few_closes (statement s ∷ k) roomy = omega (arith, roomy.0)
few_closes (close ∷ k) roomy = roomy.0

pub few_pending : (k : List Item) → Roomy k → length k ≤ most_pending
few_pending [] roomy = omega arith
few_pending (statement s ∷ k) roomy = omega (arith, roomy.1, need_pos s)
few_pending (close ∷ k) roomy = omega (arith, roomy.1)

pub each_small : (p : List ℕ) → Small p → (i : ℕ) → i < length p → get_or p i 0 < 2 ^ width
each_small [] small i h = absurd (not-suc-le-zero h)
each_small (set ∷ p) small zero h = small.0
each_small (set ∷ p) small (suc i) h = each_small p small.1 i (omega arith)

pub bounds_start : (words : List ℕ) (marks : ℕ) → judge words ≡ Judged.Accepted → marks < 2 ^ width → Bounds (statement (recipe (rows_of words)) ∷ []) marks []
bounds_start words marks e small =
    let sound : Sound (rows_of words) = accepted_sound words e in
    let some : 0 < length (rows_of words) = sound.some in
    let few : length (rows_of words) ≤ most_rows = sound.few in
    let in_table : length (rows_of words) - 1 < length (rows_of words) = omega arith in
    let flat : nesting (stmt_at (rows_of words) (length (rows_of words) - 1)) ≤ most_nesting = (sound.depth (length (rows_of words) - 1) in_table).flat in
    let enough : need (stmt_at (rows_of words) (length (rows_of words) - 1)) ≤ length (rows_of words) - 1 + 1 + nesting (stmt_at (rows_of words) (length (rows_of words) - 1)) =
    stmt_induction (rows_of words) sound (λ i s. need s ≤ i + 1 + nesting s) one_a_row (length (rows_of words) - 1) in_table
    in
    record {
      marks = small;
      pile = omega arith;
      sets = tt;
      roomy = (
        subst (λ (s : Stmt). 0 + nesting s ≤ most_nesting) (sym (recipe_law (rows_of words))) (omega arith),
        subst (λ (s : Stmt). 0 + need s ≤ most_pending) (sym (recipe_law (rows_of words))) (omega arith),
        recipe_range words e,
        tt,
      );
    }
