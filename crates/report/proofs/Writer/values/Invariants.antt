-- The loop's invariant: so many values are put.
use Prim.Native.Nat.{◌-◌, ◌*◌}
use lib.ListN.{take, drop}
use Rattle.rules.specs.Limits.{width}
use Rattle.lines.specs.Lines.{comma}
use Rattle.report.specs.Written.{most_field}
use Rattle.report.specs.Putting.{Puts}
use Rattle.report.proofs.ReportLaws.{first_values}
use Rattle.report.proofs.Writer.values.Given as goal

abbrev pub invariant-loop-value : goal.invariant-loop-value
invariant-loop-value l = Puts l.initial.self l.self (first_values (take (width - 1) (drop 1 l.values)) l.value-index) (most_field comma * l.value-index)
