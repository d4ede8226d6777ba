use Rattle.rules.specs.Rows.{rows_of}
use Rattle.step.specs.Denoted.{arrays_of, held_of}
use Rattle.monitor.specs.Going.{UnderWay}
use Rattle.monitor.proofs.go_on.Given as goal

abbrev pub invariant-loop-steps : goal.invariant-loop-steps
invariant-loop-steps l =
    UnderWay (rows_of l.table) (arrays_of l.initial.machine l.initial.trace) (held_of l.initial.machine) l.budget (arrays_of l.machine l.trace)
    (held_of l.machine) l.steps
