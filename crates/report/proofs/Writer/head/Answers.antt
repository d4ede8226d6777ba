-- `report::Writer::head` meets its contract. Assumes nothing.
use Rattle.rules.proofs.MarkLaws.{marked_ones}
use Rattle.report.proofs.ReportLaws.{puts_head}
use Rattle.report.proofs.Writer.head.Goals as goal

pub returns : goal.returns
returns c =
    let verdict = c.args.verdict in
    puts_head verdict.number verdict.place verdict.because c.args.steps c.args.marks _ (marked_ones c.args.marks c.ranges.marks.fits)
    c.line.ensures c.line-2.ensures c.line-3.ensures c.line-4.ensures c.line-5.ensures c.line-6.ensures
