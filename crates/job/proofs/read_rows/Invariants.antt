use Prim.Native.Nat.{◌*◌}
use Rattle.rules.specs.Limits.{row_words}
use Rattle.lines.specs.Lines.{lines_of}
use Rattle.job.specs.Jobs.{row_line}
use Rattle.job.proofs.FillLaws.{Filling}
use Rattle.job.proofs.read_rows.Given as goal

abbrev pub invariant-loop-i : goal.invariant-loop-i
invariant-loop-i l = Filling (lines_of row_line) l.count l.line (row_words * l.count) l.text l.from l.initial.table l.table l.at l.i (row_words * l.i)
