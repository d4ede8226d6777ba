-- The demands for whoever calls the judge, the run or the level check: over the answers and traces that their contracts allow.
-- Each hypothesis about a call is the contract of the function itself.
use Rattle.std.specs.Prelude.{ℕ, zero, suc, ◌≤◌, ◌<◌, true, false, List, [], ◌∷◌, ◌↔◌, ◌≡◌, length, Result, Ok, Err}
use Rattle.rules.specs.declared.Refusal.{Refusal}
use Rattle.rules.specs.declared.Answer.{Answer}
use Rattle.rules.specs.declared.Ended.{Ended}
use Rattle.rules.specs.declared.Checked.{Checked}
use Rattle.rules.specs.declared.Advice.{Advice}
use Rattle.rules.specs.Limits.{most_trace_words}
use Rattle.rules.specs.Rows.{rows_of}
use Rattle.rules.specs.Trees.{recipe}
use Rattle.rules.specs.Judging.{judge}
use Rattle.rules.specs.Marks.{◌⊆◌, provisional}
use Rattle.rules.specs.Running.{Record, context, run}
use Rattle.rules.specs.LevelRules.{Choice, result, failing}
use Rattle.rules.specs.Answers.{number_of, judged_of, said_of_run, because_of, Whole, Inputs, terms_of, started, answer, JudgeAnswers, RunAnswers, CheckAnswers}
use Rattle.safety.specs.Demands.{Least, Names, SameRun, unwatched, TwoMemories, EitherBegins, SameToTheStations}

-- ---- what a caller reads off

-- the first n records of a trace
unfoldable pub records_in : List ℕ → ℕ → List Record
records_in trace zero = []
records_in [] (suc n) = []
records_in (c ∷ []) (suc n) = []
records_in (c ∷ v ∷ trace) (suc n) = record { channel = c; value = v } ∷ records_in trace n

-- an answer and the trace afterwards, as a whole answer
abbrev pub whole_of : Answer → List ℕ → Whole
whole_of a after = record {
  said = said_of_run a.ended;
  because = because_of a.ended;
  steps = a.steps;
  records = records_in after a.records;
  memory = a.memory.words;
  marks = a.marks;
}

-- What is read off a call of the run is the rules' answer, whole; and a call of the judge answers as the rules judge.
abbrev pub CallIsTheAnswer : Type 0
CallIsTheAnswer = (i : Inputs) (a : Answer) (after : List ℕ) → RunAnswers i a after → whole_of a after ≡ answer i

abbrev pub CallJudges : Type 0
CallJudges = (words : List ℕ) (judged : Result (Unit {0}) Refusal) → JudgeAnswers words judged → judged_of judged ≡ judge words

-- ---- Demand 1

-- a call that was refused: no step, no record, and everything as it was lent
pub record Returned (i : Inputs) (a : Answer) (after : List ℕ) : Type 0 where
  pub no_step : a.steps ≡ 0
  pub no_record : a.records ≡ 0
  pub memory_kept : a.memory.words ≡ i.memory
  pub marks_kept : a.marks ≡ i.marks
  pub trace_kept : after ≡ i.trace

-- A call ends within its budget; a refused one leaves memory, marks and trace as they were.
abbrev pub CallEnds : Type 0
CallEnds =
    (i : Inputs) (a : Answer) (after : List ℕ) → RunAnswers i a after
    → (a.steps ≤ i.budget) × ((number row : ℕ) → a.ended ≡ Ended.Refused number row → Returned i a after)

-- A call of the run is refused where a call of the judge refuses its table, with the same number and row; else where the
-- trace is oversized; and nowhere else.
-- 4.7: Of the refusals 1 to 6 that apply anywhere, the one with the lowest number is given, at the lowest row at which it
-- applies; where none applies the table is accepted.
pub record RefusedAsJudged (i : Inputs) (judged : Result (Unit {0}) Refusal) (a : Answer) : Type 0 where
  pub bad_table : (refusal : Refusal) → judged ≡ Err refusal → a.ended ≡ Ended.Refused (number_of refusal.fault) refusal.row
  pub oversized : judged ≡ Ok tt → most_trace_words < length i.trace → a.ended ≡ Ended.Refused 6 0
  pub admitted :
      judged ≡ Ok tt → length i.trace ≤ most_trace_words → (number row : ℕ) → a.ended ≡ Ended.Refused number row → ⊥

abbrev pub CallIsRefusedAsJudged : Type 0
CallIsRefusedAsJudged =
    (i : Inputs) (judged : Result (Unit {0}) Refusal) (a : Answer) (after : List ℕ) → JudgeAnswers i.words judged → RunAnswers i a after
    → RefusedAsJudged i judged a

-- ---- Demand 2

-- A call of the level check on a table that a call of the judge accepts gives the least solution of the rules: its final marks,
-- and pass, or fail with the lowest of its failing rows.
abbrev pub CheckIsLeast : Type 0
CheckIsLeast =
    (words : List ℕ) (marks : ℕ) (check : Advice) → JudgeAnswers words (Ok tt) → CheckAnswers words marks check
    → (choice : Choice (recipe (rows_of words)))
    × Least (recipe (rows_of words)) marks choice
    × (check.marks ≡ result (recipe (rows_of words)) choice false marks)
    × Names check.checked (failing (recipe (rows_of words)) choice false marks)

-- It is refused exactly where a call of the judge is, with the same number and row.
-- 4.9: The judge and the level check are lent no trace and so meet 1 to 5 alone; a refused check answers the mark set that
-- it was given.
abbrev pub CheckIsRefusedAsJudged : Type 0
CheckIsRefusedAsJudged =
    (words : List ℕ) (marks : ℕ) (judged : Result (Unit {0}) Refusal) (check : Advice) → JudgeAnswers words judged → CheckAnswers words marks check
    → (refusal : Refusal)
    → ((check.checked ≡ Checked.Refused refusal) ↔ (judged ≡ Err refusal))
    × (check.checked ≡ Checked.Refused refusal → check.marks ≡ marks)

-- A call that ends done has the records, memory and steps of the unwatched language.
abbrev pub CallIsUnwatched : Type 0
CallIsUnwatched =
    (i : Inputs) (a : Answer) (after : List ℕ) → RunAnswers i a after → a.ended ≡ Ended.Done → SameRun (whole_of a after) (unwatched i)

-- ---- Demand 3

-- What the stations read of one call begins what they read of the other; both done means the same in everything settled.
abbrev pub CallsShowTheSame : Type 0
CallsShowTheSame =
    (i j : Inputs) → TwoMemories i j → (a b : Answer) (after after' : List ℕ) → RunAnswers i a after → RunAnswers j b after'
    → EitherBegins (whole_of a after) (whole_of b after')
    × (a.ended ≡ Ended.Done → b.ended ≡ Ended.Done → SameToTheStations (whole_of a after) (whole_of b after'))

-- A call of the run is never stopped where a call of the level check, with the same table and mark set, answered pass.
abbrev pub CallIsNeverStopped : Type 0
CallIsNeverStopped =
    (i : Inputs) (check : Advice) (a : Answer) (after : List ℕ) (row because : ℕ) → CheckAnswers i.words i.marks check
    → check.checked ≡ Checked.Pass → RunAnswers i a after → a.ended ≡ Ended.Stopped row because → ⊥

-- ---- What a run is stopped because of, for the desk

-- Every variable that a call was stopped because of is marked in the marks that it answers; and there is one, unless the context was
-- provisional in the state in which it was stopped.
-- 10.12: A run that is stopped in a settled context is stopped because of at least one variable, and every variable that a
-- run is stopped because of is marked in the marks that it answers.
pub record StopExplained (i : Inputs) (a : Answer) (because : ℕ) : Type 0 where
  pub all_marked : because ⊆ a.marks
  pub some :
      context (run (terms_of (length i.trace)) i.budget (started i)).state.pile ≡ false → provisional because ≡ true

abbrev pub CallIsExplained : Type 0
CallIsExplained =
    (i : Inputs) (a : Answer) (after : List ℕ) (row because : ℕ) → RunAnswers i a after → a.ended ≡ Ended.Stopped row because
    → StopExplained i a because
