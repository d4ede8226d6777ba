-- What one pass over the rows has counted: at how many places each row stands as a child, where two stands for any more.
use Rattle.std.specs.Prelude.{ℕ, ◌+◌, ◌<◌, min, List, ◌≡◌, length, get_or}
use Rattle.rules.specs.Limits.{most_rows}
use Rattle.rules.specs.Judging.{places}

-- two counts that say the same of whether a row stands at exactly one place
abbrev pub SameCount : ℕ → ℕ → Type 0
SameCount a b = min 2 a ≡ min 2 b

-- the counts after are those before with the children added
pub record Counted (before after childs : List ℕ) : Type 0 where
  pub long : length after ≡ most_rows
  pub each : (i : ℕ) → i < most_rows → SameCount (get_or after i 0) (get_or before i 0 + places i childs)
