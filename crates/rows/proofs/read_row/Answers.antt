-- `rows::read_row` meets its contract.
use native.Mathlib.Omega.{arith}
use Rattle.rules.proofs.RowLaws.{row_within, row_read}
use Rattle.rows.proofs.read_row.Goals as goal

pub bounds-table-at : goal.bounds-table-at
bounds-table-at c = omega (arith, row_within c.args.table.now c.args.row c.requires)

pub bounds-table-at-2 : goal.bounds-table-at-2
bounds-table-at-2 c = omega (arith, row_within c.args.table.now c.args.row c.requires)

pub bounds-table-at-3 : goal.bounds-table-at-3
bounds-table-at-3 c = omega (arith, row_within c.args.table.now c.args.row c.requires)

pub bounds-table-at-4 : goal.bounds-table-at-4
bounds-table-at-4 c = omega (arith, row_within c.args.table.now c.args.row c.requires)

pub returns : goal.returns
returns c =
    let a = c.args in
    row_read a.table.now a.row c.from.result (row_within a.table.now a.row c.requires) c.from.ensures
