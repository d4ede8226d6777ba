-- What every state of a run of an accepted table keeps to: the words in which laws and private contracts speak of the room
-- that the code's arrays need. No rule is decided here.
use Rattle.std.specs.Prelude.{ℕ, ◌+◌, ◌^◌, ◌≤◌, ◌<◌, max, List, [], ◌∷◌, length}
use Rattle.rules.specs.Limits.{width, most_rows, most_nesting}
use Rattle.rules.specs.Trees.{Stmt, skip, assign, sequence, if, while, output, nesting}
use Rattle.rules.specs.Values.{may_assign}
use Rattle.rules.specs.Running.{Item, statement, close}

-- how many items the run of a statement has pending at once, at most
abbrev pub need : Stmt → ℕ
need skip = 1
need (assign v e) = 1
need (sequence s t) = max (need s + 1) (need t)
need (if e s t) = max (need s) (need t) + 1
need (while e s) = need s + 2
need (output c e row) = 1

-- an accepted table's run has so many items pending at most: one for each row, and one for each level of nesting
abbrev pub most_pending : ℕ
most_pending = most_rows + most_nesting

-- the closes that are pending
abbrev pub closes : List Item → ℕ
closes [] = 0
closes (statement s ∷ k) = closes k
closes (close ∷ k) = closes k + 1

-- every pending item has room for what it opens
abbrev pub Roomy : List Item → Type 0
Roomy [] = Unit {0}
Roomy (statement s ∷ k) =
    (closes k + nesting s ≤ most_nesting) × (length k + need s ≤ most_pending) × (may_assign s < 2 ^ width) × Roomy k
Roomy (close ∷ k) = (closes k + 1 ≤ most_nesting) × (length k + 1 ≤ most_pending) × Roomy k

abbrev pub Small : List ℕ → Type 0
Small [] = Unit {0}
Small (set ∷ p) = (set < 2 ^ width) × Small p

pub record Bounds (k : List Item) (l : ℕ) (p : List ℕ) : Type 0 where
  pub marks : l < 2 ^ width
  pub pile : length p ≤ closes k
  pub sets : Small p
  pub roomy : Roomy k
