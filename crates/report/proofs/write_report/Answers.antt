-- `report::write_report` meets its contract. Assumes nothing.
use mathlib.Core.Path.{refl, ◌∙◌}
use Rattle.rules.specs.declared.Ended.{Ended}
use Rattle.rules.proofs.MarkLaws.{none_zero}
use Rattle.report.proofs.ReportLaws.{written_verdict, written_refused}
use Rattle.report.proofs.write_report.Goals as goal
use Rattle.report.proofs.write_report.Goals.{in-Done, in-Stopped, in-Spent, in-NoRoom}

pub returns-in-Refused : goal.returns-in-Refused
returns-in-Refused c =
    let args = c.args in
    c.write_refusal.ensures
    ∙ written_refused args.answer args.trace.now args.out.now c.in-Refused.number c.in-Refused.row c.in-Refused.is

pub returns : goal.returns
returns c =
    let args = c.args in
    let told = written_verdict args.answer args.trace.now args.out.now in
    c.write_run.ensures
    ∙ elim c.match-answer.branch [
      | in-Done w ↦ rw w.number-is (told Ended.Done 0 0 0 w.in-Done.is refl none_zero)
      | in-Stopped w ↦ rw w.number-is (told (Ended.Stopped w.in-Stopped.row w.in-Stopped.because) 1 w.in-Stopped.row w.in-Stopped.because w.in-Stopped.is refl refl)
      | in-Spent w ↦ rw w.number-is (told Ended.Spent 2 0 0 w.in-Spent.is refl none_zero)
      | in-NoRoom w ↦ rw w.number-is (told (Ended.NoRoom w.in-NoRoom.row) 3 w.in-NoRoom.row 0 w.in-NoRoom.is refl none_zero)
    ]
