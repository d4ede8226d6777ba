-- `desk::report_traced` meets its contract. Assumes nothing.
use mathlib.Core.Path.{◌∙◌}
use Rattle.desk.specs.Read.{inputs_with}
use Rattle.desk.proofs.DeskLaws.{run_written_lem}
use Rattle.desk.proofs.report_traced.Goals as goal

pub returns : goal.returns
returns c =
    let args = c.args in
    c.write_report.ensures
    ∙ run_written_lem c.run-answer.result (inputs_with args.job.now args.trace.now)
    c.run-answer.new.trace c.run-answer.ensures args.out.now c.run-answer.auto.trace c.requires.1 c.requires.2
