-- Section 10 of the rules: the demands, each under its sentence. What is proved of each stands in proofs/, under the same
-- name.
use Rattle.std.specs.Prelude.{ℕ, ◌^◌, ◌≤◌, ◌<◌, true, false, List, [], ◌⊎◌, ◌↔◌, ◌≡◌, length, get_or}
use Rattle.rules.specs.Judged.{Judged}
use Rattle.rules.specs.declared.Ended.{Ended}
use Rattle.rules.specs.declared.Refusal.{Refusal}
use Rattle.rules.specs.declared.Checked.{Checked}
use Rattle.rules.specs.Limits.{width, most_nesting}
use Rattle.rules.specs.Bounds.{most_pending}
use Rattle.rules.specs.Rows.{rows_of}
use Rattle.rules.specs.Trees.{Stmt, recipe}
use Rattle.rules.specs.Judging.{judge}
use Rattle.rules.specs.Marks.{has, ◌⊆◌, provisional}
use Rattle.rules.specs.Running.{Record, State, Terms, context, run}
use Rattle.rules.specs.Unwatched.{PlainOutcome, plain_start, plain_run}
use Rattle.rules.specs.LevelRules.{Choice, Solves, Within, result, failing}
use Rattle.rules.specs.LevelCheck.{checked_of}
use Rattle.rules.specs.Answers.{refused, verdict, pass, Whole, Inputs, started, answer, trace_after, said_of_check, advice}
use Rattle.safety.specs.Stations.{settled_records, Begins, Agree, Among}

-- ---- Demand 1

-- The answer is a function of what is given.
-- 10.1: Whatever is given there is one answer, and no run takes more steps than its budget.
abbrev pub EndsWithinBudget : Type 0
EndsWithinBudget = (i : Inputs) → (answer i).steps ≤ i.budget

-- 10.2: Where a run is refused, memory, marks and trace are as they were lent.
pub record Untouched (i : Inputs) (a : Whole) : Type 0 where
  pub no_step : a.steps ≡ 0
  pub no_record : a.records ≡ []
  pub memory_kept : a.memory ≡ i.memory
  pub marks_kept : a.marks ≡ i.marks
  pub trace_kept : trace_after a.records i.trace ≡ i.trace

abbrev pub RefusalsTouchNothing : Type 0
RefusalsTouchNothing = (i : Inputs) (number row : ℕ) → (answer i).said ≡ refused number row → Untouched i (answer i)

-- Done exactly when nothing is pending.
-- 6.1: A run with nothing pending is done, also where its last step has used up the budget.
abbrev pub DoneWhenNothingIsPending : Type 0
DoneWhenNothingIsPending =
    (terms : Terms) (budget : ℕ) (σ : State) → ((run terms budget σ).ended ≡ Ended.Done) ↔ ((run terms budget σ).state.pending ≡ [])

-- ---- Demand 2

-- There is a choice of one set for each loop that solves the rules and is contained in every other that does; the final
-- marks are its result, and the failing rows its own.
-- 10.4: The level check answers by the least solution of its rules: one set for each loop, contained in that of every other
-- solution.
pub record Least (s : Stmt) (marks : ℕ) (choice : Choice s) : Type 0 where
  pub solves : Solves s choice false marks
  pub within : (other : Choice s) → Solves s other false marks → Within s choice other
  pub below : (other : Choice s) → Solves s other false marks → result s choice false marks ⊆ result s other false marks

abbrev pub LevelCheckIsLeast : Type 0
LevelCheckIsLeast =
    (words : List ℕ) (marks : ℕ) → judge words ≡ Judged.Accepted
    → (choice : Choice (recipe (rows_of words)))
    × Least (recipe (rows_of words)) marks choice
    × ((advice words marks).marks ≡ result (recipe (rows_of words)) choice false marks)
    × ((advice words marks).said ≡ said_of_check (checked_of (failing (recipe (rows_of words)) choice false marks)))

-- where these are the failing rows; and nothing else
-- 8.7: The check passes where no output fails, and else fails at the lowest row that does; ..
pub record Names (checked : Checked) (rows : List ℕ) : Type 0 where
  pub passes : (checked ≡ Checked.Pass) ↔ (rows ≡ [])
  pub fails : (row : ℕ) → checked ≡ Checked.Fail row → Among row rows × ((other : ℕ) → Among other rows → row ≤ other)
  pub unrefused : (refusal : Refusal) → checked ≡ Checked.Refused refusal → ⊥

abbrev pub LowestIsNamed : Type 0
LowestIsNamed = (rows : List ℕ) → Names (checked_of rows) rows

-- 10.5: A run that ends done has the records, the memory and the steps of the unwatched language.
pub record SameRun (a : Whole) (plain : PlainOutcome) : Type 0 where
  pub done : plain.finished ≡ true
  pub memory : a.memory ≡ plain.state.memory
  pub records : a.records ≡ plain.state.records
  pub steps : a.steps ≡ plain.state.steps

-- the same recipe in the unwatched language, from the same memory and within the same budget
abbrev pub unwatched : Inputs → PlainOutcome
unwatched i = plain_run i.budget (plain_start (recipe (rows_of i.words)) i.memory)

abbrev pub DoneIsUnwatched : Type 0
DoneIsUnwatched = (i : Inputs) → (answer i).said ≡ verdict 0 0 → SameRun (answer i) (unwatched i)

-- ---- Demand 3

-- 10.6: Two runs of one accepted recipe with one mark set, from memories that are equal in every settled variable, are
-- compared; budgets and traces are each run's own.
pub record TwoMemories (i j : Inputs) : Type 0 where
  pub same_words : i.words ≡ j.words
  pub accepted : judge i.words ≡ Judged.Accepted
  pub same_marks : i.marks ≡ j.marks
  pub whole_first : length i.memory ≡ width
  pub whole_second : length j.memory ≡ width
  pub agree : Agree i.marks i.memory j.memory

-- what the stations read of an answer
abbrev pub seen : Whole → List Record
seen a = settled_records a.records

-- 10.7: What the stations read of one of the two begins what they read of the other.
abbrev pub EitherBegins : Whole → Whole → Type 0
EitherBegins a b = Begins (seen a) (seen b) ⊎ Begins (seen b) (seen a)

abbrev pub OneBeginsTheOther : Type 0
OneBeginsTheOther = (i j : Inputs) → TwoMemories i j → EitherBegins (answer i) (answer j)

-- 10.8: Where both end done, the stations read the same of both, the final marks are the same, and every variable that they
-- leave settled has one value in both.
pub record SameToTheStations (a b : Whole) : Type 0 where
  pub records : seen a ≡ seen b
  pub marks : a.marks ≡ b.marks
  pub memory : (v : ℕ) → has a.marks v ≡ false → get_or a.memory v 0 ≡ get_or b.memory v 0

abbrev pub BothDoneAreTheSame : Type 0
BothDoneAreTheSame =
    (i j : Inputs) → TwoMemories i j → (answer i).said ≡ verdict 0 0 → (answer j).said ≡ verdict 0 0
    → SameToTheStations (answer i) (answer j)

-- 10.9: A run is never stopped where the level check passes its recipe with its mark set.
abbrev pub PassedIsNeverStopped : Type 0
PassedIsNeverStopped =
    (i : Inputs) (row : ℕ) → (advice i.words i.marks).said ≡ pass → (answer i).said ≡ verdict 1 row → ⊥

-- ---- What a run is stopped because of, for the desk

-- these variables, in this state
-- 10.12: A run that is stopped in a settled context is stopped because of at least one variable, and every variable that a
-- run is stopped because of is marked in the marks that it answers.
pub record Explains (because : ℕ) (σ : State) : Type 0 where
  pub some : context σ.pile ≡ false → provisional because ≡ true
  pub all_marked : because ⊆ σ.marks

abbrev pub StopsAreExplained : Type 0
StopsAreExplained =
    (terms : Terms) (budget : ℕ) (σ : State) (row because : ℕ) → (run terms budget σ).ended ≡ Ended.Stopped row because
    → Explains because (run terms budget σ).state

-- ---- What the code's arrays need: facts of every state that a run of an accepted table reaches.
pub record Bounded (σ : State) : Type 0 where
  pub marks_small : σ.marks < 2 ^ width
  pub pile_low : length σ.pile ≤ most_nesting
  pub pile_small : (i : ℕ) → i < length σ.pile → get_or σ.pile i 0 < 2 ^ width
  pub pending_few : length σ.pending ≤ most_pending

abbrev pub RunsStayBounded : Type 0
RunsStayBounded =
    (i : Inputs) (terms : Terms) → judge i.words ≡ Judged.Accepted → i.marks < 2 ^ width
    → Bounded (run terms i.budget (started i)).state
