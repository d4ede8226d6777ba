-- Section 11 of the rules: what a call from C or Rust answers, and what the buffers that it was lent hold afterwards.
use Rattle.std.specs.Prelude.{ℕ, ◌%◌, ◌^◌, ◌≤◌, ◌<◌, Bool, true, false, List, [], ◌∷◌, ◌++◌, ltb, length, take, drop}
use Rattle.rules.specs.Limits.{width, word_bits}
use Rattle.rules.specs.Answers.{Said, accepted, refused, verdict, pass, fail, Whole, Inputs, inputs, Advised, judgement, advice, answer, trace_after}
use Rattle.language.specs.Said as language
use Rattle.language.specs.Readings.{handed, Reading, Reads}
use Rattle.embed.specs.declared.Numbers.{Numbers}

-- 11.2: An answer begins with the refusal's number or 0, the verdict, and the refusal's row or the run's place; a check
-- that fails has verdict 1 and its failing row; a judge and a reading have verdict 0.
abbrev pub numbers_of : Said → Numbers
numbers_of accepted = record { refusal = 0; verdict = 0; row = 0 }
numbers_of (refused number row) = record { refusal = number; verdict = 0; row = row }
numbers_of (verdict number place) = record { refusal = 0; verdict = number; row = place }
numbers_of pass = record { refusal = 0; verdict = 0; row = 0 }
numbers_of (fail row) = record { refusal = 0; verdict = 1; row = row }

abbrev pub said_words : Numbers → List ℕ
said_words n = n.refusal ∷ n.verdict ∷ n.row ∷ []

-- 11.3: After these a run's answer has the steps, the number of records, the marks and the set of what it was stopped
-- because of, ..
abbrev pub run_words : Whole → List ℕ
run_words w = said_words (numbers_of w.said) ++ w.steps ∷ length w.records ∷ w.marks ∷ w.because ∷ []

-- 11.3: .. a check's answer the marks, ..
abbrev pub check_words : Advised → List ℕ
check_words a = said_words (numbers_of a.said) ++ a.marks ∷ []

-- 11.2: .. a judge and a reading have verdict 0.
-- 11.3: .. a reading's answer the number of rows, the start and the length of the part that is handed back, both modulo
-- 2^32, and the marks.
abbrev pub read_words : List ℕ → language.Said → List ℕ
read_words text s =
    said_words (record { refusal = s.refusal; verdict = 0; row = s.at })
    ++ s.rows ∷ s.part.start % 2 ^ word_bits ∷ length (handed text s.part) % 2 ^ word_bits ∷ s.marks ∷ []

-- Words laid over the first words of a buffer.
-- 11.4: The words of a buffer after those that a call writes keep what they held.
abbrev pub laid : List ℕ → List ℕ → List ℕ
laid words buffer = words ++ drop (length words) buffer

-- 11.1: A call returns 0 where it has answered, 1 where the buffer for the answer is too short, and else 2 where the memory
-- is; it changes nothing that it was lent where it does not return 0.
abbrev pub answered : ℕ
answered = 0

abbrev pub answer_too_short : ℕ
answer_too_short = 1

abbrev pub memory_too_short : ℕ
memory_too_short = 2

-- How many words an answer takes.
abbrev pub judge_length : ℕ
judge_length = 3

abbrev pub check_length : ℕ
check_length = 4

abbrev pub run_length : ℕ
run_length = 7

abbrev pub read_length : ℕ
read_length = 7

-- ---- the judge and the level check

-- what comes of a call that is lent nothing but the answer's buffer
pub record Call : Type 0 where
  pub status : ℕ
  pub answer : List ℕ

-- the Bool says that the answer's buffer is too short for its words
abbrev pub call_by : Bool → List ℕ → List ℕ → Call
call_by true words buffer = record { status = answer_too_short; answer = buffer }
call_by false words buffer = record { status = answered; answer = laid words buffer }

abbrev pub judge_call : List ℕ → List ℕ → Call
judge_call table buffer = call_by (ltb (length buffer) judge_length) (said_words (numbers_of (judgement table))) buffer

abbrev pub check_call : List ℕ → ℕ → List ℕ → Call
check_call table marks buffer = call_by (ltb (length buffer) check_length) (check_words (advice table marks)) buffer

-- ---- the run

pub record RunCall : Type 0 where
  pub status : ℕ
  pub memory : List ℕ
  pub trace : List ℕ
  pub answer : List ℕ

-- 11.5: A run is given the first 32 words of the memory that it is lent, and they are the memory that it has reached
-- afterwards.
abbrev pub first_words : Inputs → Inputs
first_words i = inputs i.words (take width i.memory) i.marks i.budget i.trace

-- a run that gave this answer: its memory, its records and its words are laid over what was lent
abbrev pub ran_call : Whole → Inputs → List ℕ → RunCall
ran_call whole i buffer = record {
  status = answered;
  memory = whole.memory ++ drop width i.memory;
  trace = trace_after whole.records i.trace;
  answer = laid (run_words whole) buffer;
}

-- the first Bool says that the answer's buffer is too short, the second that the memory is
abbrev pub run_call_by : Bool → Bool → Inputs → List ℕ → RunCall
run_call_by true short i buffer = record { status = answer_too_short; memory = i.memory; trace = i.trace; answer = buffer }
run_call_by false true i buffer = record { status = memory_too_short; memory = i.memory; trace = i.trace; answer = buffer }
run_call_by false false i buffer = ran_call (answer (first_words i)) i buffer

-- the inputs' memory is as it is lent, of any length
abbrev pub run_call : Inputs → List ℕ → RunCall
run_call i buffer = run_call_by (ltb (length buffer) run_length) (ltb (length i.memory) width) i buffer

-- ---- a reading

pub record ReadCall : Type 0 where
  pub status : ℕ
  pub table : List ℕ
  pub answer : List ℕ

-- The answer's buffer is too short; or the text reads as this.
-- 13.8: .. neither means settled.
pub data ReadCalls (text table buffer : List ℕ) : ReadCall → Type 0 where
  short :
      length buffer < read_length → ReadCalls text table buffer (record { status = answer_too_short; table = table; answer = buffer })
  reads :
      read_length ≤ length buffer → (r : Reading) → Reads false text table r
      → ReadCalls text table buffer (record { status = answered; table = r.table; answer = laid (read_words text r.said) buffer })
