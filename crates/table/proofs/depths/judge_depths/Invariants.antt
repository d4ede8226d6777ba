-- The loop's invariant: what is left to search gives the same answer as the whole.
use Prim.Native.Nat.{◌-◌, ◌≤◌}
use lib.ListN.{length}
use mathlib.Core.Path.{◌≡◌}
use Rattle.rules.specs.Judging.{too_deep, lowest}
use Rattle.table.specs.Refused.{refused_depths}
use Rattle.table.proofs.DepthLaws.{Kept}
use Rattle.table.proofs.depths.judge_depths.Given as goal

abbrev pub invariant-loop-i : goal.invariant-loop-i
invariant-loop-i l =
    (l.i ≤ length l.table) × (lowest 5 (too_deep l.table) l.i (length l.table - l.i) ≡ refused_depths l.table) × Kept l.table l.depths l.i
