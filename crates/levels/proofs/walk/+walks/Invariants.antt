use mathlib.Core.Bool.{Bool}
use mathlib.Core.List.{List}
use lib.ListN.{length, take}
use mathlib.Core.Path.{◌≡◌}
use Rattle.rules.specs.declared.Row.{Row}
use Rattle.rules.specs.Limits.{width, most_rows}
use Rattle.rules.specs.Trees.{expr_at, stmt_at}
use Rattle.rules.specs.LevelRules.{under}
use Rattle.rules.specs.LevelCheck.{Walked, rounds}
use Rattle.rules.specs.LevelCheck as rule
use Rattle.levels.specs.Found.{found_of}
use Rattle.levels.specs.Pending.{rows_in}
use Rattle.levels.proofs.PendingLaws.{left, UnderWay, Lent}
use Prim.Native.Nat.{ℕ, ◌+◌, ◌-◌, ◌*◌}
use Rattle.levels.proofs.walk.+walks.Given as goal

abbrev turns : List Row → ℕ → ℕ → Bool → ℕ → Walked
turns rows test body context loop = rule.walk (stmt_at rows body) (under (expr_at rows test) context loop) loop

-- a part stands below the statement whose part it is, also where it is all of it; a loop between its body and its own row
abbrev pub decreases-walk_on : goal.decreases-walk_on
decreases-walk_on l = 3 * l.row + 2

abbrev pub decreases-walk_loop : goal.decreases-walk_loop
decreases-walk_loop l = 3 * l.body + 3

abbrev pub decreases-walk_part : goal.decreases-walk_part
decreases-walk_part l = 3 * l.row + 1

abbrev pub invariant-walk_on-loop-pending : goal.invariant-walk_on-loop-pending
invariant-walk_on-loop-pending l =
    UnderWay l.table l.context l.row (rows_in l.initial.pending) (found_of (rule.walk (stmt_at l.table l.row) l.context l.marks)) (rows_in l.pending) l.found l.at
    × Lent l.pending l.initial.pending

abbrev pub decreases-walk_on-loop-pending : goal.decreases-walk_on-loop-pending
decreases-walk_on-loop-pending l = left l.table (rows_in l.initial.pending) (rows_in l.pending) l.at

-- what is left to do gives what the whole gives
abbrev pub invariant-walk_loop-loop : goal.invariant-walk_loop-loop
invariant-walk_loop-loop l =
    (rounds (width + 1 - l.counter) (turns l.table l.test l.body l.context) l.set ≡ rounds (width + 1) (turns l.table l.test l.body l.context) l.marks)
    × (take l.len l.rows ≡ take l.len l.initial.rows)
    × (length l.rows ≡ most_rows)
