-- What a report leaves in a buffer that is lent for it, and what the writer answers.
use Rattle.std.specs.Prelude.{ℕ, zero, suc, ◌+◌, ◌*◌, ◌≤◌, Bool, true, false, ◌≡◌, List, [], ◌∷◌, ◌++◌, leb, length, drop, Result, Ok, Err}
use lib.Seq.{sets}
use Rattle.rules.specs.declared.Ended.{Ended}
use Rattle.rules.specs.declared.Answer.{Answer}
use Rattle.rules.specs.Limits.{width, record_words}
use Rattle.rules.specs.Running.{Record}
use Rattle.rules.specs.Answers.{said_of_run, because_of, Whole}
use Rattle.report.specs.declared.Unwritten.{Unwritten}
use Rattle.lines.specs.Limits.{most_digits}
use Rattle.lines.specs.Lines.{comma, line_end, levels_key}
use Rattle.report.specs.Reports.{refused_key, at_key, verdict_key, place_key, because_key, steps_key, marked_key, mem_key, records_key, out_key, refusal_text, report}

-- The bytes stand in the buffer from a place on, they are no more than most, and next is the place after them.
pub record Placed (out : List ℕ) (at : ℕ) (bytes : List ℕ) (most next : ℕ) (left : List ℕ) : Type 0 where
  pub place : next ≡ at + length bytes
  pub few : length bytes ≤ most
  pub kept : left ≡ sets out at bytes

-- ---- the most bytes that a report can have

abbrev pub most_field : List ℕ → ℕ
most_field key = length key + most_digits

abbrev pub most_line : List ℕ → ℕ
most_line key = most_field key + length line_end

abbrev pub most_head : ℕ
most_head = most_line verdict_key + most_line place_key + most_line because_key + most_line steps_key + most_line levels_key + most_line marked_key

abbrev pub most_memory : ℕ
most_memory = length mem_key + width * (most_digits + 1)

abbrev pub most_record : ℕ
most_record = most_field out_key + most_line comma

abbrev pub most_refusal : ℕ
most_refusal = most_line refused_key + most_line at_key

abbrev pub most_run : ℕ → ℕ
most_run records = most_head + most_memory + most_line records_key + most_record * records

-- ---- the writer's answer and the buffer afterwards

-- What is said of a report that was asked for: so many bytes; the buffer is too short for the longest such report; the trace
-- lacks records that the answer counts.
pub data WroteSaid : Type 0 where
  bytes : ℕ → WroteSaid
  too_short : WroteSaid
  lacking : WroteSaid

-- 10.11: Where a function answers with an enum, a definition gives these rules' numbers and values for each of its cases.
abbrev pub said_of_wrote : Result ℕ Unwritten → WroteSaid
said_of_wrote (Ok count) = bytes count
said_of_wrote (Err Unwritten.TooShort) = too_short
said_of_wrote (Err Unwritten.Lacking) = lacking

-- what is said, and the buffer afterwards
pub record Written : Type 0 where
  pub said : WroteSaid
  pub out : List ℕ

-- A buffer with room for the longest such report gets the text at its front, and keeps its other bytes; any other is kept as
-- it is.
unfoldable pub fitted : Bool → List ℕ → List ℕ → Written
fitted true text out = record { said = bytes (length text); out = text ++ drop (length text) out }
fitted false text out = record { said = too_short; out = out }

unfoldable pub placed_in : ℕ → List ℕ → List ℕ → Written
placed_in room text out = fitted (leb room (length out)) text out

unfoldable pub refusal_written : ℕ → ℕ → List ℕ → Written
refusal_written number at out = placed_in most_refusal (refusal_text number at) out

-- the records that an answer counts, from the words of the trace
unfoldable pub records_of : ℕ → List ℕ → List Record
records_of zero words = []
records_of (suc n) [] = []
records_of (suc n) (channel ∷ []) = []
records_of (suc n) (channel ∷ value ∷ words) = record { channel = channel; value = value } ∷ records_of n words

-- an answer and the trace with it, as the rules have it
unfoldable pub whole_of : Answer → List ℕ → Whole
whole_of a trace = record {
  said = said_of_run a.ended;
  because = because_of a.ended;
  steps = a.steps;
  records = records_of a.records trace;
  memory = a.memory.words;
  marks = a.marks;
}

-- A trace that has not the words of the records that the answer counts is no run's: nothing is written.
unfoldable pub counted : Bool → ℕ → List ℕ → List ℕ → Written
counted true records text out = placed_in (most_run records) text out
counted false records text out = record { said = lacking; out = out }

unfoldable pub run_written : ℕ → List ℕ → List ℕ → List ℕ → Written
run_written records text trace out = counted (leb (record_words * records) (length trace)) records text out

unfoldable pub ended_written : Ended → Answer → List ℕ → List ℕ → Written
ended_written Ended.Done a trace out = run_written a.records (report (whole_of a trace)) trace out
ended_written (Ended.Stopped row because) a trace out = run_written a.records (report (whole_of a trace)) trace out
ended_written Ended.Spent a trace out = run_written a.records (report (whole_of a trace)) trace out
ended_written (Ended.NoRoom row) a trace out = run_written a.records (report (whole_of a trace)) trace out
ended_written (Ended.Refused number row) a trace out = refusal_written number row out

unfoldable pub report_written : Answer → List ℕ → List ℕ → Written
report_written a trace out = ended_written a.ended a trace out
