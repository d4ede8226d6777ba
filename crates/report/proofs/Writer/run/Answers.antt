-- `report::Writer::run` meets its contract. Assumes nothing.
use Rattle.report.proofs.ReportLaws.{puts_run}
use Rattle.report.proofs.Writer.run.Goals as goal

pub returns : goal.returns
returns c =
    let verdict = c.args.verdict in
    puts_run verdict.number verdict.place verdict.because c.args.answer c.args.trace.now c.requires.0
    c.head.ensures c.memory.ensures c.line.ensures c.records.ensures
