use lib.ListN.{replicate}
use Rattle.rules.specs.Limits.{width}
use Rattle.job.specs.Jobs.{first_input, number_lines}
use Rattle.job.proofs.FillLaws.{Filling}
use Rattle.job.proofs.read_inputs.Given as goal

abbrev pub invariant-loop-i : goal.invariant-loop-i
invariant-loop-i l = Filling number_lines l.count first_input l.count l.text l.from (replicate width 0) l.memory.words l.at l.i l.i
