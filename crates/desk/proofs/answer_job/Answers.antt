-- `desk::answer_job` meets its contract. Assumes nothing.
use mathlib.Core.List.{List}
use mathlib.Core.Path.{ap, ◌∙◌}
use Rattle.job.specs.Faults.{fault_number}
use Rattle.report.specs.Written.{placed_in, refusal_written}
use Rattle.report.proofs.ReportLaws.{written_short, refusal_placed}
use Rattle.desk.specs.Desk.{most_report, job_report}
use Rattle.desk.proofs.DeskLaws.{handed_on, refused_report_lem}
use native.Mathlib.Omega.{arith}
use Rattle.desk.proofs.answer_job.Goals as goal

pub returns-then-out-lt-REPORT_BYTES : goal.returns-then-out-lt-REPORT_BYTES
returns-then-out-lt-REPORT_BYTES c =
    let args = c.args in
    written_short most_report (job_report args.text.now) args.out.now c.if-out-lt-REPORT_BYTES.true

pub report_run-requires : goal.report_run-requires
report_run-requires c =
    let handed = handed_on c.args.text.now c.in-Ok.job c.in-Ok.ensures in
    (handed.words, handed.within, c.if-out-lt-REPORT_BYTES.false)

pub returns-in-Ok : goal.returns-in-Ok
returns-in-Ok c =
    let args = c.args in
    c.report_run.ensures
    ∙ ap (λ (report : List _). placed_in most_report report args.out.now) (handed_on args.text.now c.in-Ok.job c.in-Ok.ensures).reported

pub returns-in-Err : goal.returns-in-Err
returns-in-Err c =
    let args = c.args in
    let refusal = c.in-Err.refusal in
    c.write_refusal.ensures
    ∙ ap (λ (number : _). refusal_written number refusal.line args.out.now) c.from.ensures
    ∙ refusal_placed most_report args.out.now c.if-out-lt-REPORT_BYTES.false (fault_number refusal.fault) refusal.line (omega arith)
    ∙ ap (λ (report : List _). placed_in most_report report args.out.now) (refused_report_lem args.text.now refusal c.in-Err.ensures)
