-- `report::Writer::record` meets its contract. Assumes nothing.
use Rattle.report.proofs.ReportLaws.{puts_record}
use Rattle.report.proofs.Writer.record.Goals as goal

pub returns : goal.returns
returns c = puts_record c.args.channel c.args.value c.field.ensures c.field-2.ensures c.bytes.ensures
