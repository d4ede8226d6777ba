-- Sections 4, 6 and 8 of the rules: the whole answer of a call, and the trace afterwards.
use Rattle.std.specs.Prelude.{ℕ, ◌/◌, List, [], ◌∷◌, ◌++◌, false, ◌≡◌, length, drop, Result, Ok, Err}
use Rattle.rules.specs.declared.Fault.{Fault}
use Rattle.rules.specs.declared.Refusal.{Refusal}
use Rattle.rules.specs.declared.Ended.{Ended}
use Rattle.rules.specs.declared.Answer.{Answer}
use Rattle.rules.specs.declared.Checked.{Checked}
use Rattle.rules.specs.declared.Advice.{Advice}
use Rattle.rules.specs.Limits.{record_words}
use Rattle.rules.specs.Marks.{none}
use Rattle.rules.specs.Rows.{rows_of}
use Rattle.rules.specs.Trees.{recipe}
use Rattle.rules.specs.Judged.{Judged}
use Rattle.rules.specs.Judging.{or_else, judge, judge_trace}
use Rattle.rules.specs.Running.{Record, State, Terms, Outcome, start, run}
use Rattle.rules.specs.LevelCheck.{Walked, walk, checked_of}

-- What the rules say of an answer: accepted; refused, with its number and row; a run's verdict and place; the level check's
-- pass, or fail with the lowest failing row.
pub data Said : Type 0 where
  accepted : Said
  refused : ℕ → ℕ → Said
  verdict : ℕ → ℕ → Said
  pass : Said
  fail : ℕ → Said

-- The numbers of the refusals 1 to 6.
-- 10.11: Where a function answers with an enum, a definition gives these rules' numbers and values for each of its cases.
abbrev pub number_of : Fault → ℕ
number_of Fault.WrongCount = 1
number_of Fault.WrongWord = 2
number_of Fault.WrongChild = 3
number_of Fault.WrongParents = 4
number_of Fault.TooDeep = 5
number_of Fault.LongTrace = 6

abbrev pub judged_of : Result (Unit {0}) Refusal → Judged
judged_of (Ok done) = Judged.Accepted
judged_of (Err refusal) = Judged.Refused (number_of refusal.fault) refusal.row

abbrev pub said_of_judge : Judged → Said
said_of_judge Judged.Accepted = accepted
said_of_judge (Judged.Refused number row) = refused number row

-- 6.3: The verdict is 0 for done, 1 for stopped, 2 for spent and 3 for without room.
-- 6.4: The place is the output's row for verdicts 1 and 3, and 0 for the others.
abbrev pub said_of_run : Ended → Said
said_of_run Ended.Done = verdict 0 0
said_of_run (Ended.Stopped row because) = verdict 1 row
said_of_run Ended.Spent = verdict 2 0
said_of_run (Ended.NoRoom row) = verdict 3 row
said_of_run (Ended.Refused number row) = refused number row

-- 6.10: .. they are answered for verdict 1, and the empty set for the others and for a refusal.
abbrev pub because_of : Ended → ℕ
because_of Ended.Done = none
because_of (Ended.Stopped row because) = because
because_of Ended.Spent = none
because_of (Ended.NoRoom row) = none
because_of (Ended.Refused number row) = none

abbrev pub said_of_check : Checked → Said
said_of_check Checked.Pass = pass
said_of_check (Checked.Fail row) = fail row
said_of_check (Checked.Refused refusal) = refused (number_of refusal.fault) refusal.row

-- 4.9: The judge and the level check are lent no trace and so meet 1 to 5 alone; ..
unfoldable pub judgement : List ℕ → Said
judgement words = said_of_judge (judge words)

-- What a call of the judge answers: the contract of the function, and what the promises speak of.
-- 10.3: What the judge, a run and the level check answer, .. is what these rules say, and nothing else.
abbrev pub JudgeAnswers : List ℕ → Result (Unit {0}) Refusal → Type 0
JudgeAnswers words judged = said_of_judge (judged_of judged) ≡ judgement words

-- 6.5: Steps, records, memory and marks are answered as the run has reached them; sets that are still in the pile are not
-- added to the marks.
pub record Whole : Type 0 where
  pub said : Said
  pub because : ℕ
  pub steps : ℕ
  pub records : List Record
  pub memory : List ℕ
  pub marks : ℕ

abbrev pub reached : Outcome → Whole
reached o = record {
  said = said_of_run o.ended;
  because = because_of o.ended;
  steps = o.state.log.steps;
  records = o.state.log.records;
  memory = o.state.memory;
  marks = o.state.marks;
}

-- what a run from a state shows when it has ended
abbrev pub final : Terms → ℕ → State → Whole
final terms budget σ = reached (run terms budget σ)

-- The trace is as it is lent.
-- 1.4: A run is given a table, a memory, a mark set, a budget of steps and a trace to write records into; no memory, mark
-- set or budget from 0 to 4,294,967,295 is refused.
pub record Inputs : Type 0 where
  pub words : List ℕ
  pub memory : List ℕ
  pub marks : ℕ
  pub budget : ℕ
  pub trace : List ℕ

abbrev pub inputs : List ℕ → List ℕ → ℕ → ℕ → List ℕ → Inputs
inputs words memory marks budget trace = record { words = words; memory = memory; marks = marks; budget = budget; trace = trace }

-- 6.7: A trace has room for half as many records as it has words, rounded down.
unfoldable pub terms_of : ℕ → Terms
terms_of trace_words = record { room = trace_words / record_words }

-- the state from which its recipe starts
abbrev pub started : Inputs → State
started i = start (recipe (rows_of i.words)) i.memory i.marks

-- 4.8: A refused run answers the refusal's number and row in place of a verdict and a place, with 0 steps and 0 records,
-- and memory, mark set and trace are as they were given.
unfoldable pub answered : Judged → Inputs → Whole
answered Judged.Accepted i = final (terms_of (length i.trace)) i.budget (started i)
answered (Judged.Refused number row) i = record {
  said = refused number row;
  because = none;
  steps = 0;
  records = [];
  memory = i.memory;
  marks = i.marks;
}

-- 4.7: Of the refusals 1 to 6 that apply anywhere, the one with the lowest number is given, at the lowest row at which it
-- applies; where none applies the table is accepted.
abbrev pub admitted : Inputs → Judged
admitted i = or_else (judge i.words) (judge_trace (length i.trace))

-- 10.1: Whatever is given there is one answer, ..
unfoldable pub answer : Inputs → Whole
answer i = answered (admitted i) i

-- 6.6: A record takes two words of the trace, its channel and then its value.
unfoldable pub trace_words_of : List Record → List ℕ
trace_words_of [] = []
trace_words_of (r ∷ rs) = r.channel ∷ r.value ∷ trace_words_of rs

-- 6.8: The records stand at the front of the trace in their order, and the words after them keep what they held.
unfoldable pub trace_after : List Record → List ℕ → List ℕ
trace_after records trace = trace_words_of records ++ drop (length (trace_words_of records)) trace

-- What a run's answer tells, in the rules' numbers and values; its records are the first words of the trace.
pub record Told : Type 0 where
  pub said : Said
  pub because : ℕ
  pub steps : ℕ
  pub records : ℕ
  pub memory : List ℕ
  pub marks : ℕ

unfoldable pub told_of : Answer → Told
told_of a = record {
  said = said_of_run a.ended;
  because = because_of a.ended;
  steps = a.steps;
  records = a.records;
  memory = a.memory.words;
  marks = a.marks;
}

unfoldable pub telling : Whole → Told
telling w = record {
  said = w.said;
  because = w.because;
  steps = w.steps;
  records = length w.records;
  memory = w.memory;
  marks = w.marks;
}

-- The answer tells this, and the records are written over a trace.
pub record Tells (whole : Whole) (trace : List ℕ) (a : Answer) (after : List ℕ) : Type 0 where
  pub told : told_of a ≡ telling whole
  pub after_trace : after ≡ trace_after whole.records trace

-- What a call of the run answers, and what it leaves in the trace: the contract of the function, and what the promises
-- speak of.
-- 10.3: What the judge, a run and the level check answer, and what a run leaves in the trace, is what these rules say, and
-- nothing else.
abbrev pub RunAnswers : Inputs → Answer → List ℕ → Type 0
RunAnswers i = Tells (answer i) i.trace

-- The level check's whole answer.
-- 8.7: .. it answers the marks that the recipe leaves in both cases.
pub record Advised : Type 0 where
  pub said : Said
  pub marks : ℕ

-- 4.9: .. a refused check answers the mark set that it was given.
unfoldable pub advised : Judged → ℕ → Walked → Advised
advised Judged.Accepted marks w = record { said = said_of_check (checked_of w.failing); marks = w.marks }
advised (Judged.Refused number row) marks w = record { said = refused number row; marks = marks }

-- 8.1: The check starts with a mark set, in a settled context.
unfoldable pub advice : List ℕ → ℕ → Advised
advice words marks = advised (judge words) marks (walk (recipe (rows_of words)) false marks)

-- what the level check's answer says, in the rules' numbers and values
abbrev pub advised_of : Advice → Advised
advised_of a = record { said = said_of_check a.checked; marks = a.marks }

-- What a call of the level check answers: the contract of the function, and what the promises speak of.
-- 10.3: What the judge, a run and the level check answer, .. is what these rules say, and nothing else.
abbrev pub CheckAnswers : List ℕ → ℕ → Advice → Type 0
CheckAnswers words marks a = advised_of a ≡ advice words marks
