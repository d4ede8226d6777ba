-- What the contract of a step leaves open: nothing but what stands in the arrays of entries and of sets beyond the state.
use Rattle.std.specs.Prelude.{ℕ, ◌+◌, List, ◌≡◌}
use Rattle.rules.specs.declared.Row.{Row}
use Rattle.step.specs.Denoted.{Held, Arrays, state_of}
use Rattle.step.specs.Turns.{Turn, Went, Stopped, NoRoom, Turned}

-- how much of each array the state takes after a turn, and how many steps it is then
abbrev pub held_after : Turn → Held → Held
held_after (Went h') h = h'
held_after (Stopped row because) h = h
held_after (NoRoom row) h = h

abbrev pub steps_after : Turn → ℕ → ℕ
steps_after (Went h') steps = steps + 1
steps_after (Stopped row because) steps = steps
steps_after (NoRoom row) steps = steps

-- Two turns that meet the contract, each with the arrays that it left, for the same arrays before: they say the same, and the
-- arrays hold the same state, with the same memory and the same trace.
pub record SameTurn (rows : List Row) (h : Held) (a : Arrays) (turn : Turn) (b : Arrays) (other : Turn) : Type 0 where
  pub turn_same : turn ≡ other
  pub state_same : (steps : ℕ) → state_of rows a (held_after turn h) (steps_after turn steps) ≡ state_of rows b (held_after other h) (steps_after other steps)
  pub words_same : a.words ≡ b.words
  pub trace_same : a.trace ≡ b.trace

-- The claim.
abbrev pub TurnIsDecided : Type 0
TurnIsDecided =
    (rows : List Row) (before : Arrays) (h : Held) (a b : Arrays) (turn other : Turn) → Turned rows before h a turn → Turned rows before h b other
    → SameTurn rows h a turn b other
