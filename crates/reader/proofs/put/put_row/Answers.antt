-- `reader::put::put_row` meets its contract. Assumes nothing.
use mathlib.Core.Path.{sym}
use Rattle.reader.proofs.RowLaws.{row_beyond, row_sets}
use Rattle.reader.proofs.put.put_row.Goals as goal

pub returns-then-row-ge-MOST_ROWS : goal.returns-then-row-ge-MOST_ROWS
returns-then-row-ge-MOST_ROWS c = sym (row_beyond c.args.row _ c.args.rows.now c.if-row-ge-MOST_ROWS.true)

pub returns : goal.returns
returns c =
    let args = c.args in
    rw c.from.ensures (row_sets args.row _ args.rows.now c.if-row-ge-MOST_ROWS.false)
