-- An example for each hypothesis of the demands, so that none of them speaks of nothing.
use Rattle.std.specs.Prelude.{ℕ, Bool, true, false, List, [], ◌∷◌, ◌≡◌, length, drop, Ok, Err}
use Rattle.rules.specs.declared.Fault.{Fault}
use Rattle.rules.specs.declared.Refusal.{Refusal}
use Rattle.rules.specs.declared.Ended.{Ended}
use Rattle.rules.specs.declared.Checked.{Checked}
use Rattle.rules.specs.Running.{context, run}
use Rattle.rules.specs.Answers.{verdict, refused, pass, Inputs, terms_of, started, answer, JudgeAnswers, RunAnswers, advice, CheckAnswers}
use Rattle.rules.specs.Cases.{Quad, words_of, memory_of, inputs_of, usual, usual_marks, usual_trace}
use Rattle.safety.specs.Demands.{TwoMemories, seen}

-- v0 alone is marked, budget 100, room 8
abbrev pub given : List Quad → List ℕ → Inputs
given table memory = inputs_of (usual table memory)

-- output settled v1; while v0 do v0:=v0 - 1; output provisional v0
abbrev pub shown : List Quad
shown =
    (9, 1, 0, 0) ∷ (5, 0, 0, 0)
    ∷ (9, 0, 0, 0) ∷ (9, 0, 0, 0) ∷ (8, 1, 0, 0) ∷ (10, 1, 3, 4) ∷ (1, 0, 5, 0) ∷ (4, 2, 6, 0)
    ∷ (9, 0, 0, 0) ∷ (5, 1, 8, 0)
    ∷ (2, 7, 9, 0) ∷ (2, 1, 10, 0)
    ∷ []

-- An accepted table and two memories that differ in a provisional variable: both runs are done, and what the stations read
-- is not empty. The level check passes the table.
abbrev pub TwoMemoriesShow : Type 0
TwoMemoriesShow =
    TwoMemories (given shown (1 ∷ 7 ∷ [])) (given shown (3 ∷ 7 ∷ []))
    × ((answer (given shown (1 ∷ 7 ∷ []))).said ≡ verdict 0 0)
    × ((answer (given shown (3 ∷ 7 ∷ []))).said ≡ verdict 0 0)
    × (seen (answer (given shown (1 ∷ 7 ∷ []))) ≡ record { channel = 0; value = 7 } ∷ [])
    × ((advice (words_of shown) usual_marks).said ≡ pass)

-- if v0 then output settled 5 else skip
abbrev pub leaking : List Quad
leaking = (9, 0, 0, 0) ∷ (8, 5, 0, 0) ∷ (5, 0, 1, 0) ∷ (0, 0, 0, 0) ∷ (3, 0, 2, 3) ∷ []

-- A table that is stopped with one memory and done with another.
abbrev pub StoppedAndDone : Type 0
StoppedAndDone =
    TwoMemories (given leaking (1 ∷ [])) (given leaking (0 ∷ []))
    × ((answer (given leaking (1 ∷ []))).said ≡ verdict 1 2)
    × ((answer (given leaking (0 ∷ []))).said ≡ verdict 0 0)

-- output settled v0
abbrev pub spoiled : List Quad
spoiled = (9, 0, 0, 0) ∷ (5, 0, 0, 0) ∷ []

-- whether the context is provisional in the state that the run reaches
abbrev reached_context : Inputs → Bool
reached_context i = context (run (terms_of (length i.trace)) i.budget (started i)).state.pile

-- Calls that are stopped because of v0 in a settled context, and because of no variable in a provisional one.
abbrev pub StopsShow : Type 0
StopsShow =
    RunAnswers (given spoiled [])
    (record { ended = Ended.Stopped 1 1; steps = 0; records = 0; memory = record { words = memory_of [] }; marks = 1 })
    usual_trace
    × (reached_context (given spoiled []) ≡ false)
    × ((answer (given leaking (1 ∷ []))).because ≡ 0)
    × (reached_context (given leaking (1 ∷ [])) ≡ true)

-- a constant alone: its last row is an expression
abbrev pub bad : List Quad
bad = (8, 1, 0, 0) ∷ []

abbrev parentless : Refusal
parentless = record { fault = Fault.WrongParents; row = 0 }

-- A call that is refused.
abbrev pub Refused : Type 0
Refused = (answer (given bad [])).said ≡ refused 4 0

-- Calls of the judge, the level check and the run: of a table that is accepted, passed and done, with its two records in the trace;
abbrev pub CallsShow : Type 0
CallsShow =
    JudgeAnswers (words_of shown) (Ok tt)
    × CheckAnswers (words_of shown) usual_marks (record { checked = Checked.Pass; marks = 1 })
    × RunAnswers (given shown (1 ∷ 7 ∷ []))
    (record { ended = Ended.Done; steps = 7; records = 2; memory = record { words = memory_of (0 ∷ 7 ∷ []) }; marks = 1 })
    (0 ∷ 7 ∷ 1 ∷ 0 ∷ drop 4 usual_trace)

-- of one that fails the level check and is stopped;
abbrev pub CallsStop : Type 0
CallsStop =
    CheckAnswers (words_of leaking) usual_marks (record { checked = Checked.Fail 2; marks = 1 })
    × RunAnswers (given leaking (1 ∷ []))
    (record { ended = Ended.Stopped 2 0; steps = 1; records = 0; memory = record { words = memory_of (1 ∷ []) }; marks = 1 })
    usual_trace

-- and of one that is refused.
abbrev pub CallsRefuse : Type 0
CallsRefuse =
    JudgeAnswers (words_of bad) (Err parentless)
    × CheckAnswers (words_of bad) usual_marks (record { checked = Checked.Refused parentless; marks = 1 })
    × RunAnswers (given bad [])
    (record { ended = Ended.Refused 4 0; steps = 0; records = 0; memory = record { words = memory_of [] }; marks = 1 })
    usual_trace
