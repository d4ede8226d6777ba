-- 7.1: The unwatched language has the same steps, but no marks, no pile, no denial and no room that could be lacking.
use Rattle.std.specs.Prelude.{ℕ, zero, suc, ◌+◌, Bool, true, false, cond, List, [], ◌∷◌, ◌++◌, set}
use Rattle.rules.specs.Trees.{Stmt, skip, assign, sequence, if, while, output}
use Rattle.rules.specs.Values.{value, holds}
use Rattle.rules.specs.Running.{Item, statement, close, Record}

pub record Plain : Type 0 where
  pub pending : List Item
  pub memory : List ℕ
  pub records : List Record
  pub steps : ℕ

unfoldable pub plain_start : Stmt → List ℕ → Plain
plain_start recipe memory = record { pending = statement recipe ∷ []; memory = memory; records = []; steps = 0 }

-- one step: what is pending next, the memory and the records
unfoldable pub stepped : List Item → List ℕ → List Record → Plain → Plain
stepped pending memory records σ = record { pending = pending; memory = memory; records = records; steps = σ.steps + 1 }

unfoldable pub plain_begin : Stmt → List Item → Plain → Plain
plain_begin skip rest σ = stepped rest σ.memory σ.records σ
plain_begin (assign v e) rest σ = stepped rest (set σ.memory v (value σ.memory e)) σ.records σ
plain_begin (sequence s t) rest σ = plain_begin s (statement t ∷ rest) σ
plain_begin (if e s t) rest σ =
    stepped (statement (cond (holds σ.memory e) s t) ∷ close ∷ rest) σ.memory σ.records σ
plain_begin (while e s) rest σ =
    stepped
    (cond (holds σ.memory e) (statement s ∷ close ∷ statement (while e s) ∷ rest) (close ∷ rest))
    σ.memory
    σ.records
    σ
plain_begin (output channel e row) rest σ =
    stepped rest σ.memory (σ.records ++ (record { channel = channel; value = value σ.memory e } ∷ [])) σ

-- Whether the run finished, and the state that it reached.
pub record PlainOutcome : Type 0 where
  pub finished : Bool
  pub state : Plain

unfoldable pub is_empty : List Item → Bool
is_empty [] = true
is_empty (item ∷ rest) = false

unfoldable pub plain_follow : (Plain → PlainOutcome) → List Item → Plain → PlainOutcome
plain_follow onward [] σ = record { finished = true; state = σ }
plain_follow onward (statement s ∷ rest) σ = onward (plain_begin s rest σ)
plain_follow onward (close ∷ rest) σ = onward (stepped rest σ.memory σ.records σ)

-- the unwatched run within a budget of steps
unfoldable pub plain_run : ℕ → Plain → PlainOutcome
plain_run zero σ = record { finished = is_empty σ.pending; state = σ }
plain_run (suc budget) σ = plain_follow (plain_run budget) σ.pending σ
