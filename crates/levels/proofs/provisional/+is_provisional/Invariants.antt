use Rattle.levels.proofs.provisional.+is_provisional.Given as goal

abbrev pub decreases-is_provisional : goal.decreases-is_provisional
decreases-is_provisional l = l.row
