-- Laws of a job that is answered: the records of a trace, the report of a run, and what the reader hands on.
use Prim.Native.Nat.{ℕ, suc, ◌-◌, ◌*◌, ◌/◌, ◌≤◌}
use native.Mathlib.Omega.{arith}
use mathlib.Core.List.{List, [], ◌∷◌, ◌++◌}
use mathlib.Core.Path.{◌≡◌, refl, sym, ap, ap₂, ◌∙◌}
use lib.ListN.{length, take, drop, replicate, length-append, length-drop, length-replicate}
use lib.Seq.{take_at, length-take-le}
use Rattle.rules.specs.declared.Answer.{Answer}
use Rattle.rules.specs.Limits.{width, row_words, record_words, most_trace_words, table_words}
use Rattle.rules.specs.Running.{Record}
use Rattle.rules.specs.Answers.{Whole, Inputs, inputs, answer, told_of, telling, trace_words_of, trace_after, RunAnswers}
use Rattle.rules.proofs.AnswerLaws.{trace_words_none, trace_words_cons, trace_after_law, told_said, told_because, told_steps, told_records, told_memory, told_marks}
use Rattle.job.specs.Limits.{most_room}
use Rattle.std.specs.Prelude.{Ok, Err}
use Rattle.job.specs.declared.Job.{Job}
use Rattle.job.specs.declared.Refusal.{Refusal}
use Rattle.job.specs.Faults.{fault_number}
use Rattle.job.specs.Jobs.{Told, told, untold, read_job}
use Rattle.job.specs.Read.{filled, job, refused, ReadingSaid, said_of_reading, reading}
use Rattle.report.specs.Reports.{refusal_text, report}
use Rattle.report.specs.Written.{placed_in, records_of, whole_of, report_written}
use Rattle.report.proofs.ReportLaws.{report_placed}
use Rattle.job.proofs.ToldLaws.{told_fits}
use Rattle.desk.specs.Read.{inputs_with}
use Rattle.desk.specs.Desk.{most_report, job_answer, told_report, job_report}

-- ---- the records of a trace

words_counted : (records : List Record) → length (trace_words_of records) ≡ record_words * length records
words_counted [] = ap length trace_words_none
words_counted (r ∷ records) = ap length (trace_words_cons r records) ∙ omega (arith, words_counted records)

records_back : (records : List Record) (rest : List ℕ) → records_of (length records) (trace_words_of records ++ rest) ≡ records
unfolding records_of
records_back [] rest = refl
records_back (r ∷ records) rest =
    ap (λ (words : List ℕ). records_of (suc (length records)) (words ++ rest)) (trace_words_cons r records)
    ∙ ap (λ (rs : List Record). r ∷ rs) (records_back records rest)

-- ---- the report of a run

module _ (a : Answer) (i : Inputs) (trace : List ℕ) (answered : RunAnswers i a trace) where
  abbrev w : Whole
  w = answer i

  abbrev before : List ℕ
  before = i.trace

  says : told_of a ≡ telling (answer i)
  says = answered.told

  left : trace ≡ trace_after (answer i).records i.trace
  left = answered.after_trace

  records_told : records_of a.records trace ≡ w.records
  records_told =
      ap₂ records_of (told_records a w says) (left ∙ trace_after_law w.records before) ∙ records_back w.records _

  whole_told : whole_of a trace ≡ w
  unfolding whole_of
  whole_told = λ i. record {
    said = told_said a w says i;
    because = told_because a w says i;
    steps = told_steps a w says i;
    records = records_told i;
    memory = told_memory a w says i;
    marks = told_marks a w says i;
  }

  records_fit : length trace ≡ length before → record_words * a.records ≤ length trace
  records_fit same =
      let n = ap length (left ∙ trace_after_law w.records before) in
      let l = length-append (trace_words_of w.records) (drop (length (trace_words_of w.records)) before) in
      let d = length-drop (length (trace_words_of w.records)) before in
      omega (arith, words_counted w.records, told_records a w says)

  -- what is written is the report of the rules' answer
  pub run_written_lem : (out : List ℕ) → length trace ≡ length before → length before ≤ most_trace_words → most_report ≤ length out
      → report_written a trace out ≡ placed_in most_report (report w) out
  run_written_lem out same few fits =
      let n = records_fit same in
      report_placed most_report out fits a trace n (omega arith)
      ∙ ap (λ (x : Whole). placed_in most_report (report x) out) whole_told

-- ---- the room of a job, as words of a trace

abbrev trace : List ℕ
trace = replicate most_trace_words 0

pub room_lent : (room : ℕ) → room ≤ most_room → length (take (record_words * room) trace) ≡ record_words * room
room_lent room h = length-take-le (record_words * room) trace (omega (arith, length-replicate {A = ℕ} most_trace_words 0))

pub room_same : (room : ℕ) → room ≤ most_room → length (take (record_words * room) trace) ≡ length {A = ℕ} (replicate (record_words * room) 0)
room_same room h = room_lent room h ∙ sym (length-replicate {A = ℕ} (record_words * room) 0)

-- ---- what the reader hands on

-- the parts of a job that was read: its room and its table are there, and its run's report is the text's
pub record Handed (text : List ℕ) (r : Job) : Type 0 where
  pub within : r.room ≤ most_room
  pub words : row_words * r.rows ≤ length r.table
  pub reported : report (answer (inputs_with r (replicate (record_words * r.room) 0))) ≡ job_report text

pub handed_on : (text : List ℕ) (r : Job) → said_of_reading (Ok r) ≡ reading (read_job text) → Handed text r
unfolding reading filled job_report told_report job_answer
handed_on text r read = by (read_job text) refl read
  where
    by : (t : Told) → t ≡ read_job text → said_of_reading (Ok r) ≡ reading t → Handed text r
    by (untold refusal at) e same =
        let i : job r.budget r.room r.marks r.rows ≡ refused refusal at = ap (λ (x : ReadingSaid). x.said) same in
        let z : ◌≡◌ {A = ℕ} 0 1 = cc in
        absurd (omega arith)
    by (told j) e same =
        let fits = told_fits text j e in
        let i : job r.budget r.room r.marks r.rows ≡ job j.budget j.room j.marks (length j.table / row_words) = ap (λ (x : ReadingSaid). x.said) same in
        let b : r.budget ≡ j.budget = cc in
        let o : r.room ≡ j.room = cc in
        let m : r.marks ≡ j.marks = cc in
        let n : r.rows ≡ length j.table / row_words = cc in
        let count : length j.table ≡ row_words * r.rows = fits.whole ∙ ap (λ (k : ℕ). row_words * k) (sym n) in
        let table : r.table ≡ j.table ++ replicate (table_words - length j.table) 0 = ap (λ (x : ReadingSaid). x.table) same in
        let part : take (row_words * r.rows) r.table ≡ j.table =
        ap (take (row_words * r.rows)) table ∙ take_at j.table (replicate (table_words - length j.table) 0) (row_words * r.rows) count in
        let memory : r.memory.words ≡ filled width j.inputs = ap (λ (x : ReadingSaid). x.memory) same in
        record {
          within = omega (arith, fits.room);
          words = omega (arith, ap length table, length-append j.table (replicate (table_words - length j.table) 0));
          reported = ap₂ (λ (ws ms : List ℕ). report (answer (inputs ws ms r.marks r.budget (replicate (record_words * r.room) 0)))) part memory
              ∙ ap₂ (λ (k l : ℕ). report (answer (inputs j.table (filled width j.inputs) k l (replicate (record_words * r.room) 0)))) m b
              ∙ ap (λ (k : ℕ). report (answer (inputs j.table (filled width j.inputs) j.marks j.budget (replicate (record_words * k) 0)))) o
              ∙ ap told_report e;
        }

pub refused_report_lem : (text : List ℕ) (refusal : Refusal) → said_of_reading (Err refusal) ≡ reading (read_job text)
    → refusal_text (fault_number refusal.fault) refusal.line ≡ job_report text
unfolding reading job_report told_report
refused_report_lem text refusal read = by (read_job text) refl read
  where
    by : (t : Told) → t ≡ read_job text → said_of_reading (Err refusal) ≡ reading t → refusal_text (fault_number refusal.fault) refusal.line ≡ job_report text
    by (told j) e same =
        let i : refused (fault_number refusal.fault) refusal.line ≡ job j.budget j.room j.marks (length j.table / row_words) = ap (λ (x : ReadingSaid). x.said) same in
        let z : ◌≡◌ {A = ℕ} 0 1 = cc in
        absurd (omega arith)
    by (untold number at) e same =
        let i : refused (fault_number refusal.fault) refusal.line ≡ refused number at = ap (λ (x : ReadingSaid). x.said) same in
        let n : fault_number refusal.fault ≡ number = cc in
        let l : refusal.line ≡ at = cc in
        ap₂ refusal_text n l ∙ ap told_report e
