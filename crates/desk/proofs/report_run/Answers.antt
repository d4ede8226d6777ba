-- `desk::report_run` meets its contract. Assumes nothing.
use Prim.Native.Nat.{◌*◌}
use mathlib.Core.Path.{◌∙◌, ap}
use lib.ListN.{take}
use Rattle.rules.specs.Limits.{row_words}
use Rattle.rules.specs.Answers.{Whole}
use Rattle.rules.proofs.AnswerLaws.{answer_room}
use Rattle.report.specs.Reports.{report}
use Rattle.report.specs.Written.{placed_in}
use Rattle.desk.specs.Desk.{most_report}
use Rattle.desk.proofs.DeskLaws.{room_same}
use Rattle.desk.proofs.report_run.Goals as goal

pub returns : goal.returns
returns c =
    let args = c.args in
    let job = args.job.now in
    c.report_traced.ensures
    ∙ ap (λ (w : Whole). placed_in most_report (report w) args.out.now)
    (answer_room (take (row_words * job.rows) job.table) job.memory.words job.marks job.budget _ _ (room_same job.room c.requires.1))
