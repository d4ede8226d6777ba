-- `report::Writer::number` meets its contract. Assumes nothing.
use mathlib.Core.Path.{refl}
use Rattle.report.proofs.Writer.number.Goals as goal

pub returns : goal.returns
returns c = record { placed = c.put_digits-self.ensures; long = c.put_digits-self.auto.out; same = refl }
