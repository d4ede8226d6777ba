-- `rows::has_row` meets its contract.
use Prim.Native.Nat.{ℕ}
use mathlib.Core.Path.{sym, ap}
use lib.Dec.{ltb}
use Rattle.rules.proofs.JudgeLaws.{rows_length}
use Rattle.rows.proofs.has_row.Goals as goal

pub returns : goal.returns
returns c = ap (λ (n : ℕ). ltb c.args.row n) (sym (rows_length c.args.table.now))
