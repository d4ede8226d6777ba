-- The loop's invariant: what is counted is the children of the rows passed.
use Prim.Native.Nat.{◌≤◌}
use mathlib.Core.Path.{◌≡◌}
use lib.ListN.{length, take}
use Rattle.rules.specs.Limits.{most_rows}
use Rattle.rules.specs.Judging.{children}
use Rattle.table.specs.Parents.{Counted}
use Rattle.table.proofs.parents.count_parents.Given as goal

abbrev pub invariant-loop-row : goal.invariant-loop-row
invariant-loop-row l =
    (l.row ≤ length l.table) × (length l.parents ≡ most_rows) × Counted l.initial.parents l.parents (children (take l.row l.table))
