-- `watch::answer` is safe and ends: the report that was written stands within the buffer.
use Rattle.std.proofs.Common.{Ok, refl, sym}
use lib.Seq.{length-take-le}
use Rattle.report.proofs.ReportLaws.{written_within}
use Rattle.desk.specs.Desk.{most_report}
use Rattle.watch.proofs.answer.Goals as goal

pub slice_bounds-out-end : goal.slice_bounds-out-end
slice_bounds-out-end c =
    written_within most_report _ _ _ (Ok c.in-Ok.count) c.in-Ok.count refl c.in-Ok.ensures

pub slice_bounds-write_all-end : goal.slice_bounds-write_all-end
slice_bounds-write_all-end c =
    let within = written_within most_report _ _ _ (Ok c.in-Ok.count) c.in-Ok.count refl c.in-Ok.ensures in
    sym (length-take-le _ _ within)
