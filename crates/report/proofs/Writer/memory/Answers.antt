-- `report::Writer::memory` meets its contract. Assumes nothing.
use Rattle.report.proofs.ReportLaws.{puts_memory}
use Rattle.report.proofs.Writer.memory.Goals as goal

pub returns : goal.returns
returns c = puts_memory c.args.values.now c.told-values c.field.ensures c.values.ensures c.bytes.ensures
