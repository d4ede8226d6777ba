-- Reading what was written gives it back: lines, and a whole job.
use Prim.Native.Nat.{ℕ, zero, suc, ◌+◌, ◌*◌, ◌≤◌}
use native.Mathlib.Omega.{arith}
use mathlib.Core.Bool.{true}
use mathlib.Core.List.{List, [], ◌∷◌, ◌++◌, append-nil, append_assoc}
use mathlib.Core.Path.{◌≡◌, sym, ap, ◌∙◌}
use lib.ListN.{length, length-append}
use Rattle.rules.specs.Limits.{row_words, most_rows, most_job_bytes}
use Rattle.lines.specs.Limits.{most_word, most_digits}
use Rattle.lines.specs.Lines.{budget_key, rows_key, row_key, row_keys, in_range, line_of, Lines, lines, on_line, lines_of, line_text, one_text}
use Rattle.lines.proofs.LineTrip.{range_parts, range_four, line_back, one_line, line_few, one_few}
use Rattle.job.specs.Jobs.{Job, Told, told, one, many, finish, Form, first_input, form_at, number_line, number_lines, job_of, row_line, read_table, read_inputs, read_lines, head_of, numbers_text, table_text, job_text, Good, RoundTrip}
use Rattle.job.proofs.JobLaws.{input_form, one_told, job_sized}

-- ---- lines

one_back : (at : ℕ) (key : List ℕ) (most value : ℕ) (text : List ℕ) (more : ℕ → List ℕ → Told) → most ≤ most_word → value ≤ most
    → one at (line_of (key ∷ []) most (one_text key value ++ text)) more ≡ more value text
one_back at key most value text more h within =
    sym (one_told at (line_of (key ∷ []) most (one_text key value ++ text)) more value text (sym (one_line key most value text h within)))

-- no key of one number is longer than `budget=`
abbrev most_key : ℕ
most_key = length budget_key

-- each number is in the range of its line, whose key is short
abbrev Fit : ℕ → List ℕ → Type 0
Fit at [] = Unit {0}
Fit at (value ∷ values) =
    (value ≤ (form_at at).most) × ((form_at at).most ≤ most_word) × (length (form_at at).key ≤ most_key) × Fit (at + 1) values

numbers_back : (values : List ℕ) (at : ℕ) (before text : List ℕ) → Fit at values
    → number_lines (length values) at before (numbers_text at values ++ text) ≡ lines (before ++ values) text
unfolding number_lines number_line on_line numbers_text
numbers_back [] at before text w = ap (λ (l : List ℕ). lines l text) (sym (append-nil before))
numbers_back (value ∷ values) at before text w =
    ap (λ (l : List ℕ). on_line (number_lines (length values) (at + 1)) at before (number_line at l))
    (append_assoc (one_text (form_at at).key value) (numbers_text (at + 1) values) text)
    ∙ ap (on_line (number_lines (length values) (at + 1)) at before)
    (one_line (form_at at).key (form_at at).most value (numbers_text (at + 1) values ++ text) w.1 w.0)
    ∙ numbers_back values (at + 1) (before ++ (value ∷ [])) text w.3
    ∙ ap (λ (l : List ℕ). lines l text) (append_assoc before (value ∷ []) values)

inputs_fit : (values : List ℕ) (at : ℕ) → first_input ≤ at → in_range most_word values ≡ true → Fit at values
inputs_fit [] at h e = tt
inputs_fit (value ∷ values) at h e =
    let parts = range_parts most_word value values e in
    let most = ap (λ (f : Form). f.most) (input_form at h) in
    let key = ap (λ (f : Form). length f.key) (input_form at h) in
    (omega (arith, parts.0, most), omega (arith, most), omega (arith, key), inputs_fit values (at + 1) (omega arith) parts.1)

table_back : (rows at : ℕ) (before words text : List ℕ) → length words ≡ row_words * rows → in_range most_word words ≡ true
    → lines_of row_line rows at before (table_text rows words ++ text) ≡ lines (before ++ words) text
unfolding lines_of on_line table_text row_line
table_back zero at before [] text n e = ap (λ (l : List ℕ). lines l text) (sym (append-nil before))
table_back zero at before (k ∷ words) text n e = absurd (omega arith)
table_back (suc rows) at before [] text n e = absurd (omega arith)
table_back (suc rows) at before (k ∷ []) text n e = absurd (omega arith)
table_back (suc rows) at before (k ∷ p ∷ []) text n e = absurd (omega arith)
table_back (suc rows) at before (k ∷ p ∷ q ∷ []) text n e = absurd (omega arith)
table_back (suc rows) at before (k ∷ p ∷ q ∷ r ∷ words) text n e =
    let parts = range_four k p q r words e in
    ap (λ (l : List ℕ). on_line (lines_of row_line rows (at + 1)) at before (line_of row_keys most_word l))
    (append_assoc (line_text row_keys (k ∷ p ∷ q ∷ r ∷ [])) (table_text rows words) text)
    ∙ ap (on_line (lines_of row_line rows (at + 1)) at before)
    (line_back row_key most_word k (p ∷ q ∷ r ∷ []) (table_text rows words ++ text) parts.0 parts.0)
    ∙ table_back rows (at + 1) (before ++ (k ∷ p ∷ q ∷ r ∷ [])) words text (omega arith) parts.1
    ∙ ap (λ (l : List ℕ). lines l text) (append_assoc before (k ∷ p ∷ q ∷ r ∷ []) words)

-- ---- the bytes of a job: never too many

numbers_few : (values : List ℕ) (at : ℕ) → Fit at values → length (numbers_text at values) ≤ (most_key + most_digits + 1) * length values
unfolding numbers_text
numbers_few [] at w = omega arith
numbers_few (value ∷ values) at w =
    omega (
      arith,
      length-append (one_text (form_at at).key value) (numbers_text (at + 1) values),
      one_few (form_at at).key value (omega (arith, w.0, w.1)),
      w.2,
      numbers_few values (at + 1) w.3,
    )

table_few : (rows : ℕ) (words : List ℕ) → length words ≡ row_words * rows → in_range most_word words ≡ true
    → length (table_text rows words) ≤ (length row_key + most_digits + (most_digits + 1) * 3 + 1) * rows
unfolding table_text
table_few zero words n e = omega arith
table_few (suc rows) [] n e = absurd (omega arith)
table_few (suc rows) (k ∷ []) n e = absurd (omega arith)
table_few (suc rows) (k ∷ p ∷ []) n e = absurd (omega arith)
table_few (suc rows) (k ∷ p ∷ q ∷ []) n e = absurd (omega arith)
table_few (suc rows) (k ∷ p ∷ q ∷ r ∷ words) n e =
    let parts = range_four k p q r words e in
    omega (
      arith,
      length-append (line_text row_keys (k ∷ p ∷ q ∷ r ∷ [])) (table_text rows words),
      line_few row_key k (p ∷ q ∷ r ∷ []) parts.0,
      table_few rows words (omega arith) parts.1,
    )

-- ---- a whole job

module _ (rows : ℕ) (job : Job) (good : Good rows job) where
  table_lines : List ℕ
  table_lines = one_text rows_key rows ++ table_text rows job.table

  head_fit : Fit 1 (head_of job)
  unfolding form_at
  head_fit =
      (good.budget, omega arith, omega arith, (good.room, omega arith, omega arith, (good.marks, omega arith, omega arith, (good.inputs, omega arith, omega arith, tt))))

  values_fit : Fit first_input job.inputs
  values_fit = inputs_fit job.inputs first_input (omega arith) good.values

  job_few : length (job_text rows job) ≤ most_job_bytes
  unfolding job_text table_lines
  job_few =
      let three = length-append (one_text rows_key rows) (table_text rows job.table) in
      let two = length-append (numbers_text first_input job.inputs) table_lines in
      let first = length-append (numbers_text 1 (head_of job)) (numbers_text first_input job.inputs ++ table_lines) in
      let h = numbers_few (head_of job) 1 head_fit in
      let v = numbers_few job.inputs first_input values_fit in
      let c = one_few rows_key rows (omega (arith, good.count)) in
      let t = table_few rows job.table good.table good.words in
      omega (arith, good.inputs, good.count)

  table_read : read_table (first_input + length job.inputs) (head_of job) job.inputs table_lines ≡ told job
  unfolding read_table table_lines many finish
  table_read =
      one_back at rows_key most_rows rows (table_text rows job.table) (λ n text. many (lines_of row_line n (at + 1) [] text) (ending n)) (omega arith) good.count
      ∙ ap (λ (l : List ℕ). many (lines_of row_line rows (at + 1) [] l) (ending rows)) (sym (append-nil (table_text rows job.table)))
      ∙ ap (λ (l : Lines). many l (ending rows)) (table_back rows (at + 1) [] job.table [] good.table good.words)
    where
      at : ℕ
      at = first_input + length job.inputs

      ending : ℕ → List ℕ → List ℕ → Told
      ending n table end = finish (at + 1 + n) (job_of (head_of job) job.inputs table) end

  job_read : read_lines (job_text rows job) ≡ told job
  unfolding read_lines read_inputs job_text table_lines many
  job_read =
      ap (λ (l : Lines). many l read_inputs) (numbers_back (head_of job) 1 [] (numbers_text first_input job.inputs ++ table_lines) head_fit)
      ∙ ap (λ (l : Lines). many l (read_table (first_input + length job.inputs) (head_of job))) (numbers_back job.inputs first_input [] table_lines values_fit)
      ∙ table_read

-- The text of every job whose numbers are in range reads as that job.
pub round_trip : RoundTrip
round_trip rows job good = sym (job_sized (job_text rows job) (job_few rows job good)) ∙ job_read rows job good
