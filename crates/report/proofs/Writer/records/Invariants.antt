-- The loop's invariant: so many records are put.
use Prim.Native.Nat.{◌*◌}
use Rattle.report.specs.Written.{most_record}
use Rattle.report.specs.Putting.{Puts}
use Rattle.report.proofs.ReportLaws.{first_records}
use Rattle.report.proofs.Writer.records.Given as goal

abbrev pub invariant-loop-i : goal.invariant-loop-i
invariant-loop-i l = Puts l.initial.self l.self (first_records l.trace l.i) (most_record * l.i)
