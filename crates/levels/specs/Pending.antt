-- What is pending in a walk, and what its methods do.
use Rattle.std.specs.Prelude.{ℕ, ◌≤◌, ◌≡◌, List, [], ◌∷◌, ◌++◌, length, take}
use Rattle.rules.specs.Limits.{most_rows}
use Rattle.levels.specs.declared.pending.Pending.{Pending}

-- the rows that are pending, the last of them next
abbrev pub rows_in : Pending → List ℕ
rows_in p = take p.len p.rows.now

-- A row was put behind the others, in the same array.
pub record Pushed (old new : Pending) (row : ℕ) : Type 0 where
  pub rows : rows_in new ≡ rows_in old ++ row ∷ []
  pub long : length new.rows.now ≡ most_rows
  pub few : new.len ≤ most_rows
  pub same : new.rows.ghost_name ≡ old.rows.ghost_name

-- The last row was taken off, and the array is the same.
pub record Popped (old new : Pending) (row : ℕ) : Type 0 where
  pub rows : rows_in old ≡ rows_in new ++ row ∷ []
  pub long : length new.rows.now ≡ most_rows
  pub few : new.len ≤ most_rows
  pub same : new.rows.ghost_name ≡ old.rows.ghost_name
