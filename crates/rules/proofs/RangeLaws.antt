-- A judged table assigns only variables that there are.
use Prim.Native.Nat.{ℕ, ◌<◌, ◌^◌, ◌-◌}
use native.Mathlib.Omega.{arith}
use mathlib.Core.List.{List}
use mathlib.Core.Path.{◌≡◌, sym, subst}
use lib.ListN.{length}
use Rattle.rules.specs.declared.Row.{Row}
use Rattle.rules.specs.Limits.{width}
use Rattle.rules.specs.Judged.{Judged}
use Rattle.rules.specs.Rows.{rows_of}
use Rattle.rules.specs.Judging.{judge}
use Rattle.rules.specs.Trees.{Stmt, stmt_at, recipe}
use Rattle.rules.specs.Values.{may_assign}
use Rattle.rules.specs.Sound.{Sound}
use Rattle.rules.proofs.MarkLaws.{none_lt, only_lt, union_lt}
use Rattle.rules.proofs.JudgeLaws.{accepted_sound}
use Rattle.rules.proofs.TreeLaws.{EachKind, stmt_induction, recipe_law}

in_range : EachKind (λ i s. may_assign s < 2 ^ width)
in_range = record {
  of_skip = λ i. none_lt width;
  of_assign = λ i v e h. only_lt width v h;
  of_sequence = λ i j k s t hj hk p q. union_lt width (may_assign s) (may_assign t) p q;
  of_if = λ i j k e s t hj hk p q. union_lt width (may_assign s) (may_assign t) p q;
  of_while = λ i j e s hj p. p;
  of_output = λ i channel e h. none_lt width;
}

pub may_assign_range : (rows : List Row) → Sound rows → (i : ℕ) → i < length rows → may_assign (stmt_at rows i) < 2 ^ width
may_assign_range rows sound i h = stmt_induction rows sound (λ i s. may_assign s < 2 ^ width) in_range i h

pub recipe_range : (words : List ℕ) → judge words ≡ Judged.Accepted → may_assign (recipe (rows_of words)) < 2 ^ width
recipe_range words e =
    let sound : Sound (rows_of words) = accepted_sound words e in
    let some : 0 < length (rows_of words) = sound.some in
    subst (λ (s : Stmt). may_assign s < 2 ^ width) (sym (recipe_law (rows_of words)))
    (may_assign_range (rows_of words) sound (length (rows_of words) - 1) (omega arith))
