-- `table::parents::count_children` meets its contract: three counts, one after the other.
use mathlib.Core.Path.{sym, subst}
use Rattle.rules.proofs.RefusalLaws.{children_of_law}
use Rattle.table.specs.Parents.{Counted}
use Rattle.table.proofs.CountLaws.{counted_then}
use Rattle.table.proofs.parents.count_children.Goals as goal

pub returns : goal.returns
returns c =
    subst (Counted _ _) (sym (children_of_law c.args.row c.roles_of-roles.result c.roles_of-roles.ensures))
    (counted_then _ _ _ _ _ (counted_then _ _ _ _ _ c.count_child.ensures c.count_child-2.ensures) c.count_child-3.ensures)
