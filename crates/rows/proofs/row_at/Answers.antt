-- `rows::row_at` meets its contract.
use mathlib.Core.Path.{sym, ◌∙◌}
use borrow.Author.Tests.{ltb-true, ltb-false}
use Rattle.rules.specs.Rows.{rows_of}
use Rattle.rules.proofs.RowLaws.{row_none}
use Rattle.rows.proofs.row_at.Goals as goal

pub read_row-requires : goal.read_row-requires
read_row-requires c = ltb-true _ _ (sym c.has_row.ensures ∙ c.if-has_row.true)

pub returns : goal.returns
returns c =
    let a = c.args in
    row_none (rows_of a.table.now) a.row (ltb-false _ _ (sym c.has_row.ensures ∙ c.if-has_row.false))
