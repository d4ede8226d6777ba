-- Section 9 of the rules: what a job's text reads as, and the text of a job.
use Rattle.std.specs.Prelude.{ℕ, zero, suc, ◌+◌, ◌-◌, ◌*◌, ◌≤◌, Bool, true, false, ◌≡◌, List, [], ◌∷◌, ◌++◌, ltb, length, get_or, take, drop}
use Rattle.rules.specs.Limits.{row_words, most_rows, most_job_bytes}
use Rattle.lines.specs.Limits.{most_word, lacks_form}
use Rattle.job.specs.Limits.{most_room, most_inputs, too_long}
use Rattle.lines.specs.Lines.{budget_key, room_key, levels_key, inputs_key, in_key, rows_key, row_keys, Line, line, faulty, in_range, line_of, Lines, lines, broken, on_line, lines_of, line_text, one_text}

-- What a job says: budget, room and mark set, the values of v0 onward, and the words of the table.
pub record Job : Type 0 where
  pub budget : ℕ
  pub room : ℕ
  pub marks : ℕ
  pub inputs : List ℕ
  pub table : List ℕ

-- What a text reads as: a job, or a refusal with its number and line.
pub data Told : Type 0 where
  told : Job → Told
  untold : ℕ → ℕ → Told

-- A line of one number; what follows is read with the number and the text after the line.
-- 9.10: .. the first line that is faulty decides, ..
unfoldable pub one : ℕ → Line → (ℕ → List ℕ → Told) → Told
one at (line values text) more = more (get_or values 0 0) text
one at (faulty refusal) more = untold refusal at

unfoldable pub many : Lines → (List ℕ → List ℕ → Told) → Told
many (lines values text) more = more values text
many (broken refusal at) more = untold refusal at

-- A further line is one too many.
-- 9.6: .. with these the job ends.
-- 9.7: Refusal 7, at the line: the line has not the form that belongs there, or lacks its LF, or is missing or one too
-- many; lines count from 1, and a missing one has the number that it would have.
unfoldable pub finish : ℕ → Job → List ℕ → Told
finish at job [] = told job
finish at job (byte ∷ text) = untold lacks_form at

-- A line of one number: its key, and the most that the number may be.
pub record Form : Type 0 where
  pub key : List ℕ
  pub most : ℕ

-- 9.4: First come the lines `budget=`, `room=` with at most 8,192 records, `levels=` with the mark set, and `inputs=` with
-- at most 32.
abbrev pub head : List Form
head =
    record { key = budget_key; most = most_word }
    ∷ record { key = room_key; most = most_room }
    ∷ record { key = levels_key; most = most_word }
    ∷ record { key = inputs_key; most = most_inputs }
    ∷ []

-- the line of the first `in=`
-- 9.7: .. lines count from 1, ..
abbrev pub first_input : ℕ
first_input = length head + 1

-- the form of the line of a number: the head's, and after them that of an input
-- 9.5: Then come as many lines `in=` as `inputs=` says, ..
unfoldable pub form_at : ℕ → Form
form_at at = get_or head (at - 1) (record { key = in_key; most = most_word })

unfoldable pub number_line : ℕ → List ℕ → Line
number_line at text = line_of ((form_at at).key ∷ []) (form_at at).most text

-- so many lines from line at on; before are the numbers of the lines before these
unfoldable pub number_lines : ℕ → ℕ → List ℕ → List ℕ → Lines
number_lines zero at before text = lines before text
number_lines (suc n) at before text = on_line (number_lines n (at + 1)) at before (number_line at text)

-- the job of a head's numbers, the values of the inputs and the words of a table
abbrev pub job_of : List ℕ → List ℕ → List ℕ → Job
job_of numbers values words =
    record { budget = get_or numbers 0 0; room = get_or numbers 1 0; marks = get_or numbers 2 0; inputs = values; table = words }

-- how many inputs a head says
abbrev pub inputs_of : List ℕ → ℕ
inputs_of numbers = get_or numbers 3 0

-- 9.3: .. a row's line has three more numbers, each after a comma.
unfoldable pub row_line : List ℕ → Line
row_line text = line_of row_keys most_word text

-- at is the line of `rows=`
-- 9.6: Then come the line `rows=` with at most 512, and as many lines `row=` with kind, p, q and r; with these the job
-- ends.
unfoldable pub read_table : ℕ → List ℕ → List ℕ → List ℕ → Told
read_table at numbers values text =
    one at (line_of (rows_key ∷ []) most_rows text)
    (λ rows after_rows.
    many (lines_of row_line rows (at + 1) [] after_rows) (λ words end. finish (at + 1 + rows) (job_of numbers values words) end))

-- the rest of a job after its head
-- 9.5: Then come as many lines `in=` as `inputs=` says, the values of v0 and onward; ..
unfoldable pub read_inputs : List ℕ → List ℕ → Told
read_inputs numbers text =
    many (number_lines (inputs_of numbers) first_input [] text) (read_table (first_input + inputs_of numbers) numbers)

-- a job's lines, the head's first
unfoldable pub read_lines : List ℕ → Told
read_lines text = many (number_lines (length head) 1 [] text) read_inputs

-- 9.9: Refusal 9, at 0: the job is longer than 32,768 bytes.
-- 9.10: Refusal 9 comes before 7 and 8; ..
unfoldable pub sized : Bool → List ℕ → Told
sized true text = untold too_long 0
sized false text = read_lines text

unfoldable pub read_job : List ℕ → Told
read_job text = sized (ltb most_job_bytes (length text)) text

-- ---- the text of a job

-- the numbers of a job's head
abbrev pub head_of : Job → List ℕ
head_of job = job.budget ∷ job.room ∷ job.marks ∷ length job.inputs ∷ []

-- lines of one number, from line at on
unfoldable pub numbers_text : ℕ → List ℕ → List ℕ
numbers_text at [] = []
numbers_text at (value ∷ values) = one_text (form_at at).key value ++ numbers_text (at + 1) values

unfoldable pub table_text : ℕ → List ℕ → List ℕ
table_text zero words = []
table_text (suc rows) words = line_text row_keys (take row_words words) ++ table_text rows (drop row_words words)

-- the lines of a job of so many rows, in the rules' order
unfoldable pub job_text : ℕ → Job → List ℕ
job_text rows job =
    numbers_text 1 (head_of job)
    ++ (numbers_text first_input job.inputs ++ (one_text rows_key rows ++ table_text rows job.table))

-- a job whose numbers are all in range
pub record Good (rows : ℕ) (job : Job) : Type 0 where
  pub budget : job.budget ≤ most_word
  pub room : job.room ≤ most_room
  pub marks : job.marks ≤ most_word
  pub inputs : length job.inputs ≤ most_inputs
  pub values : in_range most_word job.inputs ≡ true
  pub count : rows ≤ most_rows
  pub table : length job.table ≡ row_words * rows
  pub words : in_range most_word job.table ≡ true

-- The claim: the text of every such job reads as that job.
abbrev pub RoundTrip : Type 0
RoundTrip = (rows : ℕ) (job : Job) → Good rows job → read_job (job_text rows job) ≡ told job
