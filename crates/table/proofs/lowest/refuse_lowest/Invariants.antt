-- The loop's invariant: the refusal applies to none of the rows so far.
use Rattle.std.proofs.Common.{ℕ, ◌<◌, false}
use Rattle.table.proofs.lowest.refuse_lowest.Given as goal

abbrev pub invariant-loop-row : goal.invariant-loop-row
invariant-loop-row g l = (row : ℕ) → row < l.row → goal.F-post g l.applies row false
