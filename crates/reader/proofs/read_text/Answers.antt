-- `reader::read_text` meets its contract. Assumes nothing.
use Rattle.reader.proofs.WholeLaws.{said_flaw}
use Rattle.reader.proofs.TextLaws.{reads_long, head_faulty, reads_as}
use Rattle.reader.proofs.read_text.Goals as goal

pub returns-then-text-gt-MOST_TEXT : goal.returns-then-text-gt-MOST_TEXT
returns-then-text-gt-MOST_TEXT c =
    let a = c.args in
    reads_as a.text.now a.table.now (said_flaw c.at_end.ensures) (reads_long a.text.now a.table.now c.if-text-gt-MOST_TEXT.true)

pub read_body-requires : goal.read_body-requires
read_body-requires c = (c.if-text-gt-MOST_TEXT.false, c.in-Ok.ensures)

pub returns-in-Err : goal.returns-in-Err
returns-in-Err c =
    let a = c.args in
    reads_as a.text.now a.table.now (said_flaw c.faulty.ensures)
    (head_faulty a.text.now a.table.now _ c.if-text-gt-MOST_TEXT.false c.in-Err.ensures)
