-- `report::Writer::line` meets its contract. Assumes nothing.
use Rattle.report.proofs.ReportLaws.{puts_line}
use Rattle.report.proofs.Writer.line.Goals as goal

pub returns : goal.returns
returns c = puts_line c.args.key.now c.args.n c.field.ensures c.bytes.ensures
