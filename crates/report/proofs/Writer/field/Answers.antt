-- `report::Writer::field` meets its contract. Assumes nothing.
use Rattle.report.proofs.ReportLaws.{puts_field}
use Rattle.report.proofs.Writer.field.Goals as goal

pub returns : goal.returns
returns c = puts_field c.args.key.now c.args.n c.bytes.ensures c.number.ensures
