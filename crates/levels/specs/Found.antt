-- What a walk's answer stands for: the marks, and of the failing rows the lowest, where there is one.
use Rattle.std.specs.Prelude.{ℕ, ◌+◌, min, Bool, true, false, List, [], ◌∷◌, Option, None, Some}
use Rattle.rules.specs.declared.Checked.{Checked}
use Rattle.rules.specs.declared.Row.{Row}
use Rattle.rules.specs.Limits.{width}
use Rattle.rules.specs.Trees.{expr_at, stmt_at}
use Rattle.rules.specs.LevelRules.{under}
use Rattle.rules.specs.LevelCheck.{Walked, rounds, walk, lowest_of}
use Rattle.levels.specs.declared.walk.Found.{Found}

abbrev pub lower_of : Option ℕ → Option ℕ → Option ℕ
lower_of None b = b
lower_of (Some a) None = Some a
lower_of (Some a) (Some b) = Some (min a b)

abbrev pub lowest_in : List ℕ → Option ℕ
lowest_in [] = None
lowest_in (row ∷ rows) = Some (lowest_of row rows)

abbrev pub found_of : Walked → Found
found_of w = record { marks = w.marks; lowest = lowest_in w.failing }

-- what the rounds of a loop come to, by the rows of its test and its body
abbrev pub loop_found : List Row → ℕ → ℕ → Bool → ℕ → Found
loop_found rows test body context marks =
    found_of (rounds (width + 1) (λ (loop : ℕ). walk (stmt_at rows body) (under (expr_at rows test) context loop) loop) marks)

-- where one output fails, or not
abbrev pub failed_at : Bool → ℕ → Option ℕ
failed_at true row = Some row
failed_at false row = None

-- what is said of the lowest failing row
abbrev pub checked_at : Option ℕ → Checked
checked_at None = Checked.Pass
checked_at (Some row) = Checked.Fail row
