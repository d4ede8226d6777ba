-- `table::parents::count_parents` meets its contract.
use native.Mathlib.Omega.{arith}
use mathlib.Core.Path.{sym, subst, ap}
use Rattle.rules.specs.OnePass.{children_of}
use Rattle.rules.proofs.RefusalLaws.{children_none, children_more, children_all}
use Rattle.table.specs.Parents.{Counted}
use Rattle.table.proofs.CountLaws.{counted_none, counted_then}
use Rattle.table.proofs.parents.count_parents.Goals as goal

pub loop-row-init : goal.loop-row-init
loop-row-init c =
    (omega (arith, c.rows-row-end.ensures.counted), c.told-parents, subst (Counted _ _) (sym children_none) (counted_none c.args.parents.now c.told-parents))

pub loop-row-preserved : goal.loop-row-preserved
loop-row-preserved c =
    let rows = c.args.table.now in
    let i = c.loop-row.row in (
      omega (arith, c.rows-row-end.ensures.counted),
      c.count_children.ensures.long,
      subst (Counted _ _) (sym (children_more rows i (omega (arith, c.rows-row-end.ensures.counted))))
          (counted_then _ _ _ _ _ c.loop-row.invariant.2 (subst (Counted _ _) (ap children_of c.row.ensures) c.count_children.ensures)),
    )

pub returns : goal.returns
returns c =
    subst (Counted _ _) (children_all c.args.table.now c.loop-row.row (omega (arith, c.rows-row-end.ensures.counted))) c.loop-row.invariant.2
