-- Laws of a job that is read line by line: what each faulty line refuses, and what a whole job leaves.
use Prim.Native.Nat.{ℕ, zero, suc, ◌+◌, ◌-◌, ◌*◌, ◌/◌, ◌≤◌, ◌<◌}
use native.Mathlib.Omega.{arith}
use mathlib.Core.Bool.{Bool, cond}
use mathlib.Core.List.{List, [], ◌∷◌, ◌++◌}
use mathlib.Core.Path.{◌≡◌, refl, sym, ap, ◌∙◌}
use lib.Dec.{eqb}
use lib.ListN.{length, get_or, take, drop, replicate, take-append-drop, drop_of_length-le, get_or-eq_default}
use lib.Seq.{length-take-le}
use borrow.Author.Tests.{lt-ltb, le-ltb}
use Rattle.rules.specs.Limits.{width, row_words, most_rows, most_job_bytes, table_words}
use Rattle.std.specs.Prelude.{Result, Ok, Err}
use Rattle.job.specs.declared.Fault.{Fault}
use Rattle.job.specs.declared.Refusal.{Refusal}
use Rattle.job.specs.declared.Job.{Job}
use Rattle.job.specs.Faults.{fault_number}
use Rattle.lines.specs.Limits.{most_word, lacks_form, out_of_range}
use Rattle.job.specs.Limits.{too_long}
use Rattle.lines.specs.Lines.{in_key, rows_key, Line, line, faulty, line_of, Lines, lines, broken, lines_of}
use Rattle.job.specs.Jobs.{Told, told, untold, one, many, finish, Form, head, first_input, form_at, number_line, job_of, row_line, read_table, read_lines, sized, read_job}
use Rattle.job.specs.Read.{filled, ReadSaid, job, refused, ReadingSaid, said_of_reading, reading}
use Rattle.lines.proofs.NumberLaws.{drop_next}

-- ---- the form of a line of one number

pub input_form : (at : ℕ) → first_input ≤ at → form_at at ≡ record { key = in_key; most = most_word }
unfolding form_at
input_form at h = get_or-eq_default head _ {n = at - 1} (omega arith)

pub input_line : (at : ℕ) (text : List ℕ) → first_input ≤ at → line_of (in_key ∷ []) most_word text ≡ number_line at text
unfolding number_line
input_line at text h = sym (ap (λ (f : Form). line_of (f.key ∷ []) f.most text) (input_form at h))

-- each number is in the range of its line, from line at on
abbrev pub Within : ℕ → List ℕ → Type 0
Within at [] = Unit {0}
Within at (value ∷ values) = (value ≤ (form_at at).most) × Within (at + 1) values

pub within_at : (values : List ℕ) (at i line : ℕ) → Within at values → line ≡ at + i → get_or values i 0 ≤ (form_at line).most
within_at [] at i l w e = omega arith
within_at (value ∷ values) at zero l w e =
    let same : at ≡ l = omega arith in
    omega (arith, w.0, ap (λ (k : ℕ). (form_at k).most) same)
within_at (value ∷ values) at (suc i) l w e = within_at values (at + 1) i l w.1 (omega arith)

-- ---- lines, and what follows

pub one_refused : (at : ℕ) (l : Line) (more : ℕ → List ℕ → Told) (refusal : ℕ) → faulty refusal ≡ l → untold refusal at ≡ one at l more
unfolding one
one_refused at l more refusal e = ap (λ (x : Line). one at x more) e

pub one_told : (at : ℕ) (l : Line) (more : ℕ → List ℕ → Told) (value : ℕ) (rest : List ℕ) → line (value ∷ []) rest ≡ l
    → more value rest ≡ one at l more
unfolding one
one_told at l more value rest e = ap (λ (x : Line). one at x more) e

module _ (l : Lines) (more : List ℕ → List ℕ → Told) where
  pub many_broken : (refusal bad : ℕ) → broken refusal bad ≡ l → untold refusal bad ≡ many l more
  unfolding many
  many_broken refusal bad e = ap (λ (x : Lines). many x more) e

  pub many_told : (values rest : List ℕ) → lines values rest ≡ l → more values rest ≡ many l more
  unfolding many
  many_told values rest e = ap (λ (x : Lines). many x more) e

-- ---- the table

module _ (at : ℕ) (numbers values text : List ℕ) where
  pub table_uncounted : (refusal : ℕ) → faulty refusal ≡ line_of (rows_key ∷ []) most_rows text → untold refusal at ≡ read_table at numbers values text
  unfolding read_table
  table_uncounted refusal e = one_refused at (line_of (rows_key ∷ []) most_rows text) _ refusal e

  module _ (rows first : ℕ) (rest : List ℕ) (count : line (rows ∷ []) rest ≡ line_of (rows_key ∷ []) most_rows text) (next : first ≡ at + 1) where
    table_lines_lem : (l : Lines) → l ≡ lines_of row_line rows first [] rest
        → many l (λ words end. finish (at + 1 + rows) (job_of numbers values words) end) ≡ read_table at numbers values text
    unfolding read_table
    table_lines_lem l e =
        ap (λ (x : Lines). many x (λ words end. finish (at + 1 + rows) (job_of numbers values words) end)) (e ∙ ap (λ (k : ℕ). lines_of row_line rows k [] rest) next)
        ∙ one_told at (line_of (rows_key ∷ []) most_rows text) _ rows rest count

    pub table_broken : (refusal bad : ℕ) → broken refusal bad ≡ lines_of row_line rows first [] rest → untold refusal bad ≡ read_table at numbers values text
    unfolding many
    table_broken refusal bad e = table_lines_lem (broken refusal bad) e

    pub table_further : (words all : List ℕ) (end : ℕ) → lines words (drop end all) ≡ lines_of row_line rows first [] rest → end < length all
        → untold lacks_form (first + rows) ≡ read_table at numbers values text
    unfolding many finish
    table_further words all end e h =
        ap (λ (k : ℕ). untold lacks_form (k + rows)) next
        ∙ sym (ap (finish (at + 1 + rows) (job_of numbers values words)) (drop_next all end h))
        ∙ table_lines_lem (lines words (drop end all)) e

    pub table_told : (words all : List ℕ) (end : ℕ) → lines words (drop end all) ≡ lines_of row_line rows first [] rest → length all ≤ end
        → told (job_of numbers values words) ≡ read_table at numbers values text
    unfolding many finish
    table_told words all end e h =
        sym (ap (finish (at + 1 + rows) (job_of numbers values words)) (drop_of_length-le all h)) ∙ table_lines_lem (lines words (drop end all)) e

-- ---- the size of the text

pub job_long : (text : List ℕ) → most_job_bytes < length text → untold too_long 0 ≡ read_job text
unfolding read_job sized
job_long text h = ap (λ (b : Bool). sized b text) (sym (lt-ltb most_job_bytes (length text) h))

pub job_sized : (text : List ℕ) → length text ≤ most_job_bytes → read_lines text ≡ read_job text
unfolding read_job sized
job_sized text h = ap (λ (b : Bool). sized b text) (sym (le-ltb most_job_bytes (length text) h))

-- ---- what is left in memory and table

zeros : ℕ → List ℕ
zeros n = replicate n 0

drop_zeros : (n size : ℕ) → drop n (zeros size) ≡ zeros (size - n)
unfolding zeros
drop_zeros zero size =
    let k : size ≡ size - 0 = omega arith in
    ap zeros k
drop_zeros (suc n) zero =
    let k : 0 ≡ 0 - suc n = omega arith in
    ap zeros k
drop_zeros (suc n) (suc size) =
    let k : size - n ≡ suc size - suc n = omega arith in
    drop_zeros n size ∙ ap zeros k

-- words whose first n were put where all were 0
pub filled_front : (size n : ℕ) (words : List ℕ) → n ≤ size → length words ≡ size → drop n words ≡ drop n (replicate size 0)
    → words ≡ filled size (take n words)
unfolding filled zeros
filled_front size n words h same kept =
    let k : size - n ≡ size - length (take n words) = ap (λ (m : ℕ). size - m) (sym (length-take-le n words (omega arith))) in
    sym (take-append-drop n words)
    ∙ ap (λ (l : List ℕ). take n words ++ l) (kept ∙ drop_zeros n size ∙ ap zeros k)

pub rows_counted : (rows : ℕ) (words : List ℕ) → row_words * rows ≤ length words → rows ≡ length (take (row_words * rows) words) / row_words
rows_counted rows words h =
    let n = length-take-le (row_words * rows) words h in
    omega arith

pub reading_told : (numbers memory table values words : List ℕ) (rows : ℕ) → memory ≡ filled width values
    → table ≡ filled table_words words → rows ≡ length words / row_words
    → ◌≡◌ {A = ReadingSaid} (record { said = job (get_or numbers 0 0) (get_or numbers 1 0) (get_or numbers 2 0) rows; memory = memory; table = table })
    (reading (told (job_of numbers values words)))
unfolding reading
reading_told numbers memory table values words rows m t r =
    λ i. record { said = job (get_or numbers 0 0) (get_or numbers 1 0) (get_or numbers 2 0) (r i); memory = m i; table = t i }

pub reading_refused : (number at : ℕ) → ◌≡◌ {A = ReadingSaid} (record { said = refused number at; memory = filled width []; table = filled table_words [] })
    (reading (untold number at))
unfolding reading
reading_refused number at = refl

-- ---- two answers that say the same are the same: each is read back from what it says

fault_from : ℕ → Fault
fault_from number = cond (eqb number lacks_form) Fault.LacksForm (cond (eqb number out_of_range) Fault.OutOfRange Fault.TooLong)

fault_back : (fault : Fault) → fault_from (fault_number fault) ≡ fault
unfolding fault_from
fault_back Fault.LacksForm = refl
fault_back Fault.OutOfRange = refl
fault_back Fault.TooLong = refl

read_from : ReadSaid → List ℕ → List ℕ → Result Job Refusal
read_from (job budget room marks rows) memory table =
    Ok (record { budget = budget; room = room; marks = marks; rows = rows; memory = record { words = memory }; table = table })
read_from (refused number at) memory table = Err (record { fault = fault_from number; line = at })

reading_from : ReadingSaid → Result Job Refusal
reading_from s = read_from s.said s.memory s.table

reading_back : (a : Result Job Refusal) → reading_from (said_of_reading a) ≡ a
unfolding reading_from read_from
reading_back (Ok read) = refl
reading_back (Err refusal) = ap (λ (fault : Fault). Err (record { fault = fault; line = refusal.line })) (fault_back refusal.fault)

pub reading_unique : (a b : Result Job Refusal) → said_of_reading a ≡ said_of_reading b → a ≡ b
reading_unique a b e = sym (reading_back a) ∙ ap reading_from e ∙ reading_back b

-- what was read, with these words for those of memory and table
abbrev pub read_with : List ℕ → List ℕ → Result Job Refusal → Result Job Refusal
read_with memory table (Ok read) = Ok (record read { memory = record { words = memory }; table = table })
read_with memory table (Err refusal) = Err refusal

read_back : (memory table : List ℕ) (a : Result Job Refusal) → read_from (said_of_reading a).said memory table ≡ read_with memory table a
unfolding read_from
read_back memory table (Ok read) = refl
read_back memory table (Err refusal) = ap (λ (fault : Fault). Err (record { fault = fault; line = refusal.line })) (fault_back refusal.fault)

-- what is said alone, without memory and table, decides all else that was read
pub read_unique :
    (memory table : List ℕ) (a b : Result Job Refusal) → (said_of_reading a).said ≡ (said_of_reading b).said
    → read_with memory table a ≡ read_with memory table b
read_unique memory table a b e =
    sym (read_back memory table a) ∙ ap (λ (s : ReadSaid). read_from s memory table) e ∙ read_back memory table b
