-- `reader::statements::ended` meets its contract. Assumes nothing.
use mathlib.Core.Path.{refl}
use Rattle.reader.proofs.statements.ended.Goals as goal

pub returns-in-Err : goal.returns-in-Err
returns-in-Err c = λ t k. (refl, (c.in-Err.ensures t k).0)
