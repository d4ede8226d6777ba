use Rattle.expression.proofs.assigned.+may_assign_lent.Given as goal

abbrev pub decreases-may_assign_lent : goal.decreases-may_assign_lent
decreases-may_assign_lent l = l.row
