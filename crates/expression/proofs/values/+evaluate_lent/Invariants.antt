use Rattle.expression.proofs.values.+evaluate_lent.Given as goal

abbrev pub decreases-evaluate_lent : goal.decreases-evaluate_lent
decreases-evaluate_lent l = l.row
