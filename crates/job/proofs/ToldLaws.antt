-- Laws of a job that was read: its room is in range, and its table has whole rows, no more than there may be.
use Prim.Native.Nat.{ℕ, zero, suc, ◌+◌, ◌*◌, ◌/◌, ◌≤◌}
use native.Mathlib.Omega.{arith}
use mathlib.Core.Bool.{Bool, true, false}
use mathlib.Core.List.{List, [], ◌∷◌, ◌++◌, append-nil, append_assoc}
use mathlib.Core.Path.{◌≡◌, refl, sym, ap, ◌∙◌, subst}
use lib.Dec.{leb, ltb}
use lib.ListN.{length, get_or, length-append}
use borrow.Author.Tests.{leb-true}
use Rattle.rules.specs.Limits.{row_words, most_rows, most_job_bytes, table_words}
use Rattle.lines.specs.Limits.{most_word}
use Rattle.job.specs.Limits.{most_room}
use Rattle.lines.specs.Numbers.{Number, no_number, number}
use Rattle.lines.specs.Lines.{line_end, after_key, row_keys, Fields, no_fields, fields, field, put, onward, fields_of, Line, line, faulty, in_range, ended, line_of, Lines, lines, broken, on_line, lines_of}
use Rattle.job.specs.Jobs.{Job, Told, told, one, many, finish, head, form_at, number_line, number_lines, job_of, row_line, read_table, read_inputs, read_lines, sized, read_job}
use Rattle.lines.proofs.NumberLaws.{both_true}
use Rattle.lines.proofs.LineLaws.{closed_range, ended_range, line_within}
use Rattle.job.proofs.JobLaws.{Within, within_at}

-- ---- how a line must have been where a job was read

first_within : (most : ℕ) (values : List ℕ) → in_range most values ≡ true → get_or values 0 0 ≤ most
unfolding in_range
first_within most [] e = omega arith
first_within most (value ∷ values) e = leb-true value most (both_true (leb value most) (in_range most values) e).0

one_read : {Goal : Type 0} (at : ℕ) (keys : List (List ℕ)) (most : ℕ) (text : List ℕ) (more : ℕ → List ℕ → Told) (job : Job)
    → told job ≡ one at (line_of keys most text) more
    → ((value : ℕ) (rest : List ℕ) → value ≤ most → told job ≡ more value rest → Goal) → Goal
unfolding one line_of
one_read {Goal} at keys most text more job e go = by (line_of keys most text) refl e
  where
    by : (l : Line) → l ≡ line_of keys most text → told job ≡ one at l more → Goal
    by (line values rest) h t = go (get_or values 0 0) rest (first_within most values (ended_range most (fields_of keys text) values rest h)) t
    by (faulty refusal) h t = let z : ◌≡◌ {A = ℕ} 0 1 = cc in absurd (omega arith)

many_read : {Goal : Type 0} (l : Lines) (more : List ℕ → List ℕ → Told) (job : Job) → told job ≡ many l more
    → ((values rest : List ℕ) → l ≡ lines values rest → told job ≡ more values rest → Goal) → Goal
unfolding many
many_read (lines values rest) more job e go = go values rest refl e
many_read (broken refusal at) more job e go = let z : ◌≡◌ {A = ℕ} 0 1 = cc in absurd (omega arith)

-- ---- a line has as many numbers as keys

fields_counted : (keys : List (List ℕ)) (text values rest : List ℕ) → fields_of keys text ≡ fields values rest → length values ≡ length keys
unfolding fields_of onward put
fields_counted [] text values rest e = let v : values ≡ [] = cc in ap length v
fields_counted (key ∷ keys) text values rest e = by (field key text) (λ t vs r h. fields_counted keys t vs r h) e
  where
    after : (value : ℕ) (f : Fields) → ((vs r : List ℕ) → f ≡ fields vs r → length vs ≡ length keys) → put value f ≡ fields values rest
        → length values ≡ suc (length keys)
    after value no_fields ih h = let z : ◌≡◌ {A = ℕ} 0 1 = cc in absurd (omega arith)
    after value (fields vs r) ih h =
        let v : values ≡ value ∷ vs = cc in
        ap length v ∙ ap suc (ih vs r refl)

    by : (n : Number) → ((t vs r : List ℕ) → fields_of keys t ≡ fields vs r → length vs ≡ length keys)
        → onward (fields_of keys) n ≡ fields values rest → length values ≡ suc (length keys)
    by no_number ih h = let z : ◌≡◌ {A = ℕ} 0 1 = cc in absurd (omega arith)
    by (number value t) ih h = after value (fields_of keys t) (ih t) h

line_counted : (keys : List (List ℕ)) (most : ℕ) (text values rest : List ℕ) → line values rest ≡ line_of keys most text → length values ≡ length keys
unfolding line_of ended
line_counted keys most text values rest e = by (fields_of keys text) refl e
  where
    by : (f : Fields) → f ≡ fields_of keys text → line values rest ≡ ended most f → length values ≡ length keys
    by no_fields h l = let z : ◌≡◌ {A = ℕ} 0 1 = cc in absurd (omega arith)
    by (fields vs t) h l =
        ap length (closed_range (after_key line_end t) (in_range most vs) vs values rest l).1 ∙ fields_counted keys text vs t (sym h)

rows_counted : (rows at : ℕ) (before text values rest : List ℕ) → lines_of row_line rows at before text ≡ lines values rest
    → length values ≡ length before + row_words * rows
unfolding lines_of on_line row_line
rows_counted zero at before text values rest e =
    let v : values ≡ before = cc in
    ap length v ∙ omega arith
rows_counted (suc rows) at before text values rest e =
    by (row_line text) refl (λ vs t h. rows_counted rows (at + 1) (before ++ vs) t values rest h) e
  where
    by : (l : Line) → l ≡ row_line text
        → ((vs t : List ℕ) → lines_of row_line rows (at + 1) (before ++ vs) t ≡ lines values rest → length values ≡ length (before ++ vs) + row_words * rows)
        → on_line (lines_of row_line rows (at + 1)) at before l ≡ lines values rest → length values ≡ length before + row_words * suc rows
    by (line vs t) h ih l = omega (arith, ih vs t l, length-append before vs, line_counted row_keys most_word text vs t h)
    by (faulty refusal) h ih l = let z : ◌≡◌ {A = ℕ} 0 1 = cc in absurd (omega arith)

-- ---- lines of one number that were read: each number is in the range of its line

record Numbers (at : ℕ) (before values : List ℕ) : Type 0 where
  pub after : List ℕ
  pub all : values ≡ before ++ after
  pub within : Within at after

numbers_read : (n at : ℕ) (before text values rest : List ℕ) → lines values rest ≡ number_lines n at before text → Numbers at before values
unfolding number_lines on_line number_line
numbers_read zero at before text values rest e =
    let v : values ≡ before = cc in
    record { after = []; all = v ∙ sym (append-nil before); within = tt }
numbers_read (suc n) at before text values rest e =
    by (number_line at text) refl (λ vs t h. numbers_read n (at + 1) (before ++ vs) t values rest h) e
  where
    by : (l : Line) → l ≡ number_line at text
        → ((vs t : List ℕ) → lines values rest ≡ number_lines n (at + 1) (before ++ vs) t → Numbers (at + 1) (before ++ vs) values)
        → lines values rest ≡ on_line (number_lines n (at + 1)) at before l → Numbers at before values
    by (faulty refusal) h ih l = let z : ◌≡◌ {A = ℕ} 0 1 = cc in absurd (omega arith)
    by (line [] t) h ih l = absurd (omega (arith, line_counted _ _ text [] t h))
    by (line (v ∷ w ∷ vs) t) h ih l = absurd (omega (arith, line_counted _ _ text (v ∷ w ∷ vs) t h))
    by (line (v ∷ []) t) h ih l =
        let others = ih (v ∷ []) t l in
        record {
          after = v ∷ others.after;
          all = others.all ∙ append_assoc before (v ∷ []) others.after;
          within = (line_within _ _ v text t h, others.within);
        }

pub numbers_within : (n at : ℕ) (text values rest : List ℕ) → lines values rest ≡ number_lines n at [] text → Within at values
numbers_within n at text values rest e =
    let read = numbers_read n at [] text values rest e in
    subst (Within at) (sym read.all) read.within

-- ---- a job that was read

pub record Fits (job : Job) : Type 0 where
  pub room : job.room ≤ most_room
  pub words : length job.table ≤ table_words
  pub whole : length job.table ≡ row_words * (length job.table / row_words)

module _ (job : Job) (numbers : List ℕ) (within : get_or numbers 1 0 ≤ most_room) where
  table_fits : (at : ℕ) (values text : List ℕ) → told job ≡ read_table at numbers values text → Fits job
  unfolding read_table finish
  table_fits at values text e =
      one_read at _ most_rows text _ job e
      (λ rows after_rows few counted.
      many_read (lines_of row_line rows (at + 1) [] after_rows) _ job counted
      (λ table end read ending. by rows table end few (rows_counted rows (at + 1) [] after_rows table end read) ending))
    where
      by : (rows : ℕ) (table end : List ℕ) → rows ≤ most_rows → length table ≡ 0 + row_words * rows
          → told job ≡ finish (at + 1 + rows) (job_of numbers values table) end → Fits job
      by rows table [] few n ending =
          let r : job.room ≡ get_or numbers 1 0 = cc in
          let t : job.table ≡ table = cc in
          let l : length job.table ≡ 0 + row_words * rows = ap length t ∙ n in
          record { room = omega arith; words = omega arith; whole = omega arith }
      by rows table (byte ∷ end) few n ending = let z : ◌≡◌ {A = ℕ} 0 1 = cc in absurd (omega arith)

  inputs_fit : (text : List ℕ) → told job ≡ read_inputs numbers text → Fits job
  unfolding read_inputs
  inputs_fit text e = many_read _ _ job e (λ values rest read more. table_fits _ values rest more)

-- The room and the table of a job that was read are within what a job may have.
pub told_fits : (text : List ℕ) (job : Job) → told job ≡ read_job text → Fits job
unfolding read_job sized read_lines form_at
told_fits text job e = by (ltb most_job_bytes (length text)) e
  where
    by : (b : Bool) → told job ≡ sized b text → Fits job
    by true h = let z : ◌≡◌ {A = ℕ} 0 1 = cc in absurd (omega arith)
    by false h =
        many_read _ _ job h
        (λ numbers rest read more. inputs_fit job numbers (within_at numbers 1 1 2 (numbers_within (length head) 1 text numbers rest (sym read)) refl) rest more)
