-- A run that has ended can be gone on with: the arrays that it left hold the state that the rules reached, for any trace.
use Rattle.std.specs.Prelude.{ℕ, List, ◌≡◌, length}
use Rattle.rules.specs.declared.Row.{Row}
use Rattle.rules.specs.Running.{State, state, blank, run}
use Rattle.rules.specs.Answers.{terms_of}
use Rattle.step.specs.Denoted.{Held, Arrays, state_of, Holds}
use Rattle.monitor.specs.Going.{Reached, left_in, Went}

-- the state that a run reached, with nothing to show yet
abbrev pub afresh : State → State
afresh σ = state σ.pending σ.memory σ.marks σ.pile blank

-- what is held, with no record written yet
abbrev pub unwritten : Held → Held
unwritten h = record { pending = h.pending; pile = h.pile; records = 0; marks = h.marks }

-- The claim: however a run ended, its arrays with any trace hold a state, so that the loop may be called on them again; and that
-- state is the one that the rules' run reached, with nothing to show yet. So what was without room is there still.
abbrev pub GoesOnAgain : Type 0
GoesOnAgain =
    (rows : List Row) (a : Arrays) (h : Held) (budget : ℕ) (e p t : List ℕ) (r : Reached) → Went rows a h budget e p t r → (trace : List ℕ)
    → Holds rows (left_in r e p trace) (unwritten r.held)
    × (state_of rows (left_in r e p trace) (unwritten r.held) 0 ≡ afresh (run (terms_of (length a.trace)) budget (state_of rows a h 0)).state)
