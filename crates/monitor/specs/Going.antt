-- What going on with a run from the arrays' state comes to.
use Rattle.std.specs.Prelude.{ℕ, ◌-◌, ◌≤◌, List, ◌≡◌, length}
use Rattle.rules.specs.declared.Answer.{Answer}
use Rattle.rules.specs.declared.Ended.{Ended}
use Rattle.rules.specs.declared.Memory.{Memory}
use Rattle.rules.specs.declared.Refusal.{Refusal}
use Rattle.rules.specs.declared.Row.{Row}
use Rattle.rules.specs.Running.{outcome, run}
use Rattle.rules.specs.Answers.{number_of, terms_of}
use Rattle.step.specs.declared.Machine.{Machine}
use Rattle.step.specs.Denoted.{Held, Arrays, arrays, held_of, state_of, Holds}
use Rattle.step.specs.Turns.{Kept}
use Rattle.monitor.specs.declared.Finish.{Finish}

-- what a refused run answers: 0 steps and 0 records, memory and marks as given
abbrev pub turned_away : Refusal → Memory → ℕ → Answer
turned_away refusal memory marks =
    record { ended = Ended.Refused (number_of refusal.fault) refusal.row; steps = 0; records = 0; memory = memory; marks = marks }

-- How a run ended, and the state that it has reached: the memory, and how much of each array the rest takes.
pub record Reached : Type 0 where
  pub ended : Ended
  pub steps : ℕ
  pub held : Held
  pub memory : Memory

-- .. as the code says it, with the machine that is left
abbrev pub reached_by : Finish → Machine → Reached
reached_by finish s = record { ended = finish.ended; steps = finish.steps; held = held_of s; memory = record { words = s.words } }

-- the arrays afterwards
abbrev pub left_in : Reached → List ℕ → List ℕ → List ℕ → Arrays
left_in r entries pile trace = arrays r.memory.words entries pile trace

-- The run with this budget ends as is answered, in the state that the arrays hold afterwards; the rest of the trace is as it was.
pub record Went (rows : List Row) (a : Arrays) (h : Held) (budget : ℕ) (e' p' t' : List ℕ) (r : Reached) : Type 0 where
  pub ran :
      run (terms_of (length a.trace)) budget (state_of rows a h 0) ≡ outcome r.ended (state_of rows (left_in r e' p' t') r.held r.steps)
  pub holds : Holds rows (left_in r e' p' t') r.held
  pub kept : Kept a.trace t' r.held.records

-- Under way: what the run comes to is what it comes to from the arrays' state now, with the budget that is left.
pub record UnderWay (rows : List Row) (a₀ : Arrays) (h₀ : Held) (budget : ℕ) (a : Arrays) (h : Held) (steps : ℕ) : Type 0 where
  pub ran :
      run (terms_of (length a₀.trace)) budget (state_of rows a₀ h₀ 0)
      ≡ run (terms_of (length a₀.trace)) (budget - steps) (state_of rows a h steps)
  pub holds : Holds rows a h
  pub kept : Kept a₀.trace a.trace h.records
  pub within : steps ≤ budget
