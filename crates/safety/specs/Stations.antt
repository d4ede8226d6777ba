-- The words that the demands use: what the stations read, when one list begins another, and when memories agree.
use Rattle.std.specs.Prelude.{ℕ, ◌<◌, false, cond, List, [], ◌∷◌, ◌++◌, ◌⊎◌, ◌≡◌, eqb, get_or}
use Rattle.rules.specs.Limits.{width}
use Rattle.rules.specs.Marks.{has}
use Rattle.rules.specs.Running.{Record}

-- 2.8: Channel 0 is the settled one, which the stations read, and channel 1 the provisional one.
-- 6.9: The stations read the records of channel 0, in their order; everything else is for the desk alone, and may depend on
-- provisional values.
abbrev pub settled_records : List Record → List Record
settled_records [] = []
settled_records (r ∷ rs) = cond (eqb r.channel 0) (r ∷ settled_records rs) (settled_records rs)

-- the first list begins the second
abbrev pub Begins : List Record → List Record → Type 0
Begins a b = (rest : List Record) × (b ≡ a ++ rest)

-- the memories are equal in every variable that the mark set leaves settled
abbrev pub Agree : ℕ → List ℕ → List ℕ → Type 0
Agree marks m n = (v : ℕ) → v < width → has marks v ≡ false → get_or m v 0 ≡ get_or n v 0

-- the row is one of the rows
abbrev pub Among : ℕ → List ℕ → Type 0
Among row [] = ⊥
Among row (other ∷ rows) = (row ≡ other) ⊎ Among row rows
