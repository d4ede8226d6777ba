-- What the reader's answers say, in the words of the definitions: a place stands for the text from there on.
use Rattle.std.specs.Prelude.{ℕ, ◌-◌, ◌/◌, ◌≡◌, List, [], ◌∷◌, ◌++◌, length, take, drop, replicate, Option, Some, None, Result, Ok, Err}
use Rattle.rules.specs.Limits.{width, row_words, table_words}
use Rattle.rules.specs.declared.Memory.{Memory}
use Rattle.numbers.specs.declared.Parsed.{Parsed}
use Rattle.job.specs.declared.Fault.{Fault}
use Rattle.job.specs.declared.Refusal.{Refusal}
use Rattle.job.specs.declared.Head.{Head}
use Rattle.job.specs.declared.Job.{Job}
use Rattle.job.specs.Faults.{fault_number}
use Rattle.job.specs.Jobs.{Told, told, untold}
use Rattle.lines.specs.Lines as spec

abbrev pub key_said : List ℕ → Option ℕ → spec.After
key_said text None = spec.absent
key_said text (Some next) = spec.after (drop next text)

abbrev pub line_said : List ℕ → Result (Parsed ℕ) Fault → spec.Line
line_said text (Ok read) = spec.line (read.value ∷ []) (drop read.next text)
line_said text (Err fault) = spec.faulty (fault_number fault)

abbrev pub row_said : List ℕ → Result (Parsed (List ℕ)) Fault → spec.Line
row_said text (Ok read) = spec.line read.value (drop read.next text)
row_said text (Err fault) = spec.faulty (fault_number fault)

-- what is said of a line of one number, whose refusal is at that line
abbrev pub NumberRead : List ℕ → ℕ → Result (Parsed ℕ) Refusal → spec.Line → Type 0
NumberRead text line (Ok read) is = spec.line (read.value ∷ []) (drop read.next text) ≡ is
NumberRead text line (Err refusal) is = (spec.faulty (fault_number refusal.fault) ≡ is) × (refusal.line ≡ line)

abbrev pub RowRead : List ℕ → ℕ → Result (Parsed (List ℕ)) Refusal → spec.Line → Type 0
RowRead text line (Ok read) is = spec.line read.value (drop read.next text) ≡ is
RowRead text line (Err refusal) is = (spec.faulty (fault_number refusal.fault) ≡ is) × (refusal.line ≡ line)

abbrev pub refusal_said : Refusal → spec.Lines
refusal_said refusal = spec.broken (fault_number refusal.fault) refusal.line

-- the numbers of a head, in the order of its lines
abbrev pub numbers_of : Head → List ℕ
numbers_of head = head.budget ∷ head.room ∷ head.marks ∷ head.inputs ∷ []

abbrev pub head_said : List ℕ → Result (Parsed Head) Refusal → spec.Lines
head_said text (Ok read) = spec.lines (numbers_of read.value) (drop read.next text)
head_said text (Err refusal) = refusal_said refusal

-- so many inputs' values are the first words of the memory
abbrev pub inputs_said : List ℕ → ℕ → Result (Parsed Memory) Refusal → spec.Lines
inputs_said text count (Ok read) = spec.lines (take count read.value.words) (drop read.next text)
inputs_said text count (Err refusal) = refusal_said refusal

-- values is the buffer that the lines' numbers were put into, so many of them
abbrev pub lines_said : List ℕ → ℕ → List ℕ → Result ℕ Refusal → spec.Lines
lines_said text count values (Ok next) = spec.lines (take count values) (drop next text)
lines_said text count values (Err refusal) = refusal_said refusal

-- What reading lines into a buffer comes to: count numbers at most stand at its front, and the rest of it is kept.
pub record LinesRead (text : List ℕ) (count : ℕ) (before left : List ℕ) (answer : Result ℕ Refusal) (told : spec.Lines) : Type 0 where
  pub said : lines_said text count left answer ≡ told
  pub kept : drop count left ≡ drop count before
  pub same : length left ≡ length before

-- ---- the reader's whole answer

-- the values at the front of so many words, the others 0
unfoldable pub filled : ℕ → List ℕ → List ℕ
filled size values = values ++ replicate (size - length values) 0

-- What the rules say of a text: a job, with its budget, room, mark set and number of rows; refused, with its number and
-- line.
pub data ReadSaid : Type 0 where
  job : ℕ → ℕ → ℕ → ℕ → ReadSaid
  refused : ℕ → ℕ → ReadSaid

-- what is said, and the words of memory and table
pub record ReadingSaid : Type 0 where
  pub said : ReadSaid
  pub memory : List ℕ
  pub table : List ℕ

-- A refusal comes without memory and table: these are told as 0.
-- 10.11: Where a function answers with an enum, a definition gives these rules' numbers and values for each of its cases.
abbrev pub said_of_reading : Result Job Refusal → ReadingSaid
said_of_reading (Ok read) = record {
  said = job read.budget read.room read.marks read.rows;
  memory = read.memory.words;
  table = read.table;
}
said_of_reading (Err refusal) = record {
  said = refused (fault_number refusal.fault) refusal.line;
  memory = filled width [];
  table = filled table_words [];
}

-- A refused job leaves nothing: every word of memory and table is 0.
-- 9.5: .. the other variables are 0.
unfoldable pub reading : Told → ReadingSaid
reading (told j) = record {
  said = job j.budget j.room j.marks (length j.table / row_words);
  memory = filled width j.inputs;
  table = filled table_words j.table;
}
reading (untold refusal at) = record {
  said = refused refusal at;
  memory = filled width [];
  table = filled table_words [];
}
