-- `reader::statements::read_output` meets its contract. Assumes nothing.
use Rattle.numbers.proofs.ErrLaws.{handed_on}
use Rattle.reader.proofs.StatementLaws.{stuck_output, output_read}
use Rattle.reader.proofs.statements.read_output.Goals as goal

pub returns-in_err-read : goal.returns-in_err-read
returns-in_err-read c = rw (handed_on _ c.from_residual.ensures.1) (λ t o at w. stuck_output o w c.in_err-read.ensures)

pub returns : goal.returns
returns c = λ t o at w. output_read o w c.in_ok-read.ensures c.put_row.ensures
