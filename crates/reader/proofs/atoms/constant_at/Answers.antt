-- `reader::atoms::constant_at` meets its contract. Assumes nothing.
use Rattle.reader.proofs.AtomLaws.{constant_told}
use Rattle.reader.proofs.atoms.constant_at.Goals as goal

pub returns : goal.returns
returns c = λ inside shown w cut. constant_told inside shown w cut c.number_to_end.result c.number_to_end.ensures
