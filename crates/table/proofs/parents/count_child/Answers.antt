-- `table::parents::count_child` meets its contract.
use Prim.Native.Nat.{◌+◌}
use lib.ListN.{get_or}
use native.Mathlib.Omega.{arith}
use mathlib.Core.Path.{sym, subst}
use Rattle.rules.proofs.RefusalLaws.{child_of_one, child_of_none}
use Rattle.table.specs.Parents.{SameCount, Counted}
use Rattle.table.proofs.CountLaws.{counted_none, counted_out, counted_child}
use Rattle.table.proofs.parents.count_child.Goals.{then-parents-at-eq0, else-parents-at-eq0}
use Rattle.table.proofs.parents.count_child.Goals as goal

pub returns-after-parents-at-eq0 : goal.returns-after-parents-at-eq0
returns-after-parents-at-eq0 c =
    let a = c.args in
    let same : SameCount c.if-parents-at-eq0.parents (get_or a.parents.now a.word 0 + 1) =
    elim c.if-parents-at-eq0.branch [
      | then-parents-at-eq0 w ↦ omega (arith, w.parents-is, w.if-parents-at-eq0.true)
      | else-parents-at-eq0 w ↦ omega (arith, w.parents-is, w.if-parents-at-eq0.false)
    ] in
    subst (Counted _ _) (sym (child_of_one a.role a.word c.in-Statement.is))
    (counted_child a.parents.now a.word c.if-parents-at-eq0.parents c.told-parents c.if-at-lt-MOST_ROWS.true same)

pub returns-else-at-lt-MOST_ROWS : goal.returns-else-at-lt-MOST_ROWS
returns-else-at-lt-MOST_ROWS c =
    let a = c.args in
    subst (Counted _ _) (sym (child_of_one a.role a.word c.in-Statement.is))
    (counted_out a.parents.now a.word c.told-parents c.if-at-lt-MOST_ROWS.false)

pub returns-in_default : goal.returns-in_default
returns-in_default c =
    let a = c.args in
    subst (Counted _ _) (sym (child_of_none a.role a.word c.in_default.not-Statement c.in_default.not-Expression))
    (counted_none a.parents.now c.told-parents)
