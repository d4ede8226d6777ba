-- Laws of a report that is written piece by piece: the pieces of a field, a line, the head, the memory and the records.
use Prim.Native.Nat.{ℕ, zero, suc, ◌+◌, ◌-◌, ◌*◌, ◌≤◌, ◌<◌}
use native.Mathlib.Nat.{zero-add}
use native.Mathlib.Numerals.{add-one}
use native.Mathlib.Omega.{arith}
use mathlib.Core.Bool.{Bool, true, false}
use mathlib.Core.List.{List, [], ◌∷◌, ◌++◌, append-nil, append_assoc}
use mathlib.Core.Path.{◌≡◌, refl, sym, ap, ap₂, ◌∙◌}
use lib.Dec.{leb}
use lib.ListN.{length, get_or, take, drop, replicate, length-append, length-drop}
use lib.Seq.{sets-eq, take_all}
use borrow.Author.Tests.{lt-leb, le-leb}
use Rattle.rules.specs.declared.Answer.{Answer}
use Rattle.rules.specs.declared.Ended.{Ended}
use Rattle.rules.specs.Answers.{Said, verdict, said_of_run, because_of}
use Rattle.rules.specs.Limits.{width, record_words}
use Rattle.rules.specs.Marks.{marked}
use Rattle.rules.specs.Running.{Record}
use Rattle.std.specs.Prelude.{Result, Ok, Err}
use Rattle.report.specs.declared.Unwritten.{Unwritten}
use Rattle.report.specs.declared.Writer.{Writer}
use Rattle.report.specs.Putting.{Puts}
use Rattle.lines.specs.Numbers.{decimal}
use Rattle.lines.specs.Lines.{line_end, comma, levels_key, field_text, fields_text, line_text, one_text}
use Rattle.report.specs.Reports.{refused_key, at_key, verdict_key, place_key, because_key, steps_key, marked_key, mem_key, records_key, out_key, refusal_text, head_text, memory_text, record_text, records_text, run_text, said_text, report}
use Rattle.lines.specs.Limits.{most_digits}
use Rattle.report.specs.Written.{Placed, most_field, most_line, most_head, most_memory, most_record, most_refusal, most_run, WroteSaid, bytes, too_short, lacking, said_of_wrote, Written, fitted, placed_in, records_of, whole_of, counted, refusal_written, run_written, ended_written, report_written}
use Rattle.lines.proofs.NumberLaws.{drop_next}
use Rattle.report.proofs.WriteLaws.{puts_then, puts_as}

-- ---- the texts, as they are put together

pub one_text_lem : (key : List ℕ) (n : ℕ) → field_text key n ++ line_end ≡ one_text key n
unfolding one_text line_text fields_text
one_text_lem key n = ap (λ (l : List ℕ). l ++ line_end) (sym (append-nil (field_text key n)))

pub record_text_lem : (channel value : ℕ) → field_text out_key channel ++ (field_text comma value ++ line_end) ≡ record_text (record { channel = channel; value = value })
unfolding record_text line_text fields_text
record_text_lem channel value =
    sym (append_assoc (field_text out_key channel) (field_text comma value) line_end)
    ∙ ap (λ (l : List ℕ). (field_text out_key channel ++ l) ++ line_end) (sym (append-nil (field_text comma value)))

pub memory_text_lem : (values : List ℕ) → length values ≡ width
    → field_text mem_key (get_or values 0 0) ++ (fields_text (replicate (width - 1) comma) (drop 1 values) ++ line_end) ≡ memory_text values
unfolding memory_text line_text fields_text
memory_text_lem values h =
    sym (append_assoc (field_text mem_key (get_or values 0 0)) (fields_text (replicate (width - 1) comma) (drop 1 values)) line_end)
    ∙ sym (ap₂ (λ (n : ℕ) (vs : List ℕ). fields_text (mem_key ∷ replicate (n - 1) comma) vs ++ line_end) h (drop_next values 0 (omega arith)))

-- ---- pieces that are put

pub puts_field : {w₀ w₁ w₂ : Writer} (key : List ℕ) (n : ℕ) → Puts w₀ w₁ key (length key) → Puts w₁ w₂ (decimal n) most_digits
    → Puts w₀ w₂ (field_text key n) (most_field key)
unfolding field_text
puts_field key n p q = puts_then key (decimal n) p q

pub puts_line : {w₀ w₁ w₂ : Writer} (key : List ℕ) (n : ℕ) → Puts w₀ w₁ (field_text key n) (most_field key)
    → Puts w₁ w₂ line_end (length line_end) → Puts w₀ w₂ (one_text key n) (most_line key)
puts_line key n p q = puts_as (one_text_lem key n) refl (puts_then (field_text key n) line_end p q)

pub puts_record : {w₀ w₁ w₂ w₃ : Writer} (channel value : ℕ) → Puts w₀ w₁ (field_text out_key channel) (most_field out_key)
    → Puts w₁ w₂ (field_text comma value) (most_field comma) → Puts w₂ w₃ line_end (length line_end)
    → Puts w₀ w₃ (record_text (record { channel = channel; value = value })) most_record
puts_record channel value p q e =
    puts_as (record_text_lem channel value) refl
    (puts_then (field_text out_key channel) (field_text comma value ++ line_end) p (puts_then (field_text comma value) line_end q e))

pub puts_memory : {w₀ w₁ w₂ w₃ : Writer} (values : List ℕ) → length values ≡ width
    → Puts w₀ w₁ (field_text mem_key (get_or values 0 0)) (most_field mem_key)
    → Puts w₁ w₂ (fields_text (replicate (width - 1) comma) (drop 1 values)) (most_field comma * (width - 1))
    → Puts w₂ w₃ line_end (length line_end) → Puts w₀ w₃ (memory_text values) most_memory
puts_memory values h p q e =
    puts_as (memory_text_lem values h) refl
    (puts_then (field_text mem_key (get_or values 0 0)) (fields_text (replicate (width - 1) comma) (drop 1 values) ++ line_end) p
    (puts_then (fields_text (replicate (width - 1) comma) (drop 1 values)) line_end q e))

pub puts_head : {w₀ w₁ w₂ w₃ w₄ w₅ w₆ : Writer} (number place because steps marks ones : ℕ) → marked marks ≡ ones
    → Puts w₀ w₁ (one_text verdict_key number) (most_line verdict_key)
    → Puts w₁ w₂ (one_text place_key place) (most_line place_key)
    → Puts w₂ w₃ (one_text because_key because) (most_line because_key)
    → Puts w₃ w₄ (one_text steps_key steps) (most_line steps_key)
    → Puts w₄ w₅ (one_text levels_key marks) (most_line levels_key)
    → Puts w₅ w₆ (one_text marked_key ones) (most_line marked_key)
    → Puts w₀ w₆ (head_text number place because steps marks) most_head
unfolding head_text
puts_head number place because steps marks ones e p₁ p₂ p₃ p₄ p₅ p₆ =
    puts_then _ (one_text marked_key (marked marks))
    (puts_then _ (one_text levels_key marks)
    (puts_then _ (one_text steps_key steps)
    (puts_then _ (one_text because_key because)
    (puts_then (one_text verdict_key number) (one_text place_key place) p₁ p₂) p₃) p₄) p₅)
    (puts_as (ap (one_text marked_key) (sym e)) refl p₆)

pub puts_refusal : {w₀ w₁ w₂ : Writer} (number at : ℕ) → Puts w₀ w₁ (one_text refused_key number) (most_line refused_key)
    → Puts w₁ w₂ (one_text at_key at) (most_line at_key) → Puts w₀ w₂ (refusal_text number at) most_refusal
unfolding refusal_text
puts_refusal number at p q = puts_then (one_text refused_key number) (one_text at_key at) p q

-- ---- so many values, a comma before each

abbrev pub first_values : List ℕ → ℕ → List ℕ
first_values values k = fields_text (replicate k comma) (take k values)

values_more : (values : List ℕ) (k : ℕ) → k < length values
    → first_values values k ++ field_text comma (get_or values k 0) ≡ first_values values (suc k)
unfolding fields_text
values_more [] k h = absurd (omega arith)
values_more (value ∷ values) zero h = sym (append-nil (field_text comma value))
values_more (value ∷ values) (suc k) h =
    append_assoc (field_text comma value) (first_values values k) (field_text comma (get_or values k 0))
    ∙ ap (λ (text : List ℕ). field_text comma value ++ text) (values_more values k (omega arith))

pub puts_value : {w₀ w₁ w₂ : Writer} (values : List ℕ) (k : ℕ) → k < length values → Puts w₀ w₁ (first_values values k) (most_field comma * k)
    → Puts w₁ w₂ (field_text comma (get_or values k 0)) (most_field comma)
    → Puts w₀ w₂ (first_values values (k + 1)) (most_field comma * (k + 1))
puts_value values k h p q =
    puts_as (values_more values k h ∙ ap (first_values values) (sym (add-one k))) (omega arith)
    (puts_then (first_values values k) (field_text comma (get_or values k 0)) p q)

-- the values after v0
pub puts_values : {w₀ w₁ : Writer} (values : List ℕ) (k : ℕ) → length values ≡ width → k ≡ width - 1
    → Puts w₀ w₁ (first_values (take (width - 1) (drop 1 values)) k) (most_field comma * k)
    → Puts w₀ w₁ (fields_text (replicate (width - 1) comma) (drop 1 values)) (most_field comma * (width - 1))
puts_values values k h e p =
    let few : length (drop 1 values) ≤ width - 1 = omega (arith, length-drop 1 values) in
    let all : take (width - 1) (drop 1 values) ≡ drop 1 values = take_all (width - 1) (drop 1 values) few in
    puts_as
    (ap (first_values (take (width - 1) (drop 1 values))) e
    ∙ ap (λ (vs : List ℕ). fields_text (replicate (width - 1) comma) vs) (ap (take (width - 1)) all ∙ all))
    (ap (λ (n : ℕ). most_field comma * n) e) p

-- ---- so many records of the trace

abbrev pub record_at : List ℕ → ℕ → Record
record_at trace k = record { channel = get_or trace (record_words * k) 0; value = get_or trace (record_words * k + 1) 0 }

abbrev pub first_records : List ℕ → ℕ → List ℕ
first_records trace k = records_text (records_of k trace)

records_more : (trace : List ℕ) (k : ℕ) → record_words * suc k ≤ length trace
    → first_records trace k ++ record_text (record_at trace k) ≡ first_records trace (suc k)
unfolding records_of records_text
records_more [] k h = absurd (omega arith)
records_more (channel ∷ []) k h = absurd (omega arith)
records_more (channel ∷ value ∷ trace) zero h = sym (append-nil (record_text (record { channel = channel; value = value })))
records_more (channel ∷ value ∷ trace) (suc k) h =
    let here : record_words * suc k ≡ suc (suc (record_words * k)) = omega arith in
    let there : record_words * suc k + 1 ≡ suc (suc (record_words * k + 1)) = omega arith in
    let first : Record = record { channel = channel; value = value } in
    append_assoc (record_text first) (first_records trace k) (record_text (record_at (channel ∷ value ∷ trace) (suc k)))
    ∙ ap (λ (text : List ℕ). record_text first ++ text)
    (ap₂ (λ (i j : ℕ). first_records trace k ++ record_text (record { channel = get_or (channel ∷ value ∷ trace) i 0; value = get_or (channel ∷ value ∷ trace) j 0 })) here there
    ∙ records_more trace k (omega arith))

pub puts_one_more : {w₀ w₁ w₂ : Writer} (trace : List ℕ) (k : ℕ) → record_words * (k + 1) ≤ length trace
    → Puts w₀ w₁ (first_records trace k) (most_record * k) → Puts w₁ w₂ (record_text (record_at trace k)) most_record
    → Puts w₀ w₂ (first_records trace (k + 1)) (most_record * (k + 1))
puts_one_more trace k h p q =
    puts_as (records_more trace k (omega arith) ∙ ap (first_records trace) (sym (add-one k))) (omega arith)
    (puts_then (first_records trace k) (record_text (record_at trace k)) p q)

-- ---- a run's report, and what is left in a buffer

records_counted : (n : ℕ) (trace : List ℕ) → record_words * n ≤ length trace → length (records_of n trace) ≡ n
unfolding records_of
records_counted zero trace h = refl
records_counted (suc n) [] h = absurd (omega arith)
records_counted (suc n) (channel ∷ []) h = absurd (omega arith)
records_counted (suc n) (channel ∷ value ∷ trace) h = ap suc (records_counted n trace (omega arith))

pub puts_run : {w₀ w₁ w₂ w₃ w₄ : Writer} (number place because : ℕ) (a : Answer) (trace : List ℕ)
    → record_words * a.records ≤ length trace → Puts w₀ w₁ (head_text number place because a.steps a.marks) most_head
    → Puts w₁ w₂ (memory_text a.memory.words) most_memory
    → Puts w₂ w₃ (one_text records_key a.records) (most_line records_key)
    → Puts w₃ w₄ (records_text (records_of a.records trace)) (most_record * a.records)
    → Puts w₀ w₄ (run_text number place because (whole_of a trace)) (most_run a.records)
unfolding run_text whole_of
puts_run number place because a trace h p₁ p₂ p₃ p₄ =
    puts_then _ (records_text (records_of a.records trace))
    (puts_then _ (one_text records_key (length (records_of a.records trace)))
    (puts_then (head_text number place because a.steps a.marks) (memory_text a.memory.words) p₁ p₂)
    (puts_as (ap (one_text records_key) (sym (records_counted a.records trace h))) refl p₃))
    p₄

pub written_short : (room : ℕ) (text out : List ℕ) → length out < room
    → ◌≡◌ {A = Written} (record { said = too_short; out = out }) (placed_in room text out)
unfolding placed_in fitted
written_short room text out h = ap (λ (b : Bool). fitted b text out) (sym (lt-leb room (length out) h))

pub written_whole : (room : ℕ) (text out : List ℕ) (next : ℕ) (left : List ℕ) → room ≤ length out → Placed out 0 text room next left
    → ◌≡◌ {A = Written} (record { said = bytes next; out = left }) (placed_in room text out)
unfolding placed_in fitted
written_whole room text out next left h p =
    let n : next ≡ length text = p.place ∙ zero-add (length text) in
    let l : left ≡ text ++ drop (length text) out =
    p.kept
    ∙ sets-eq text out 0 (omega (arith, p.few))
    ∙ ap (λ (k : ℕ). text ++ drop k out) (zero-add (length text)) in
    ap₂ whole n l ∙ sym (ap (λ (b : Bool). fitted b text out) (le-leb room (length out) h))
  where
    whole : ℕ → List ℕ → Written
    whole k o = record { said = bytes k; out = o }

-- ---- the report of an answer

module _ (records : ℕ) (text trace out : List ℕ) where
  pub run_lacking : length trace < record_words * records
      → ◌≡◌ {A = Written} (record { said = lacking; out = out }) (run_written records text trace out)
  unfolding run_written counted
  run_lacking h = ap (λ (b : Bool). counted b records text out) (sym (lt-leb (record_words * records) (length trace) h))

  pub run_counted : record_words * records ≤ length trace → placed_in (most_run records) text out ≡ run_written records text trace out
  unfolding run_written counted
  run_counted h = ap (λ (b : Bool). counted b records text out) (sym (le-leb (record_words * records) (length trace) h))

-- an answer that says a verdict: the text is a run's
report_verdict : (a : Answer) (trace : List ℕ) (number place because : ℕ) → said_of_run a.ended ≡ verdict number place → because_of a.ended ≡ because
    → run_text number place because (whole_of a trace) ≡ report (whole_of a trace)
unfolding report said_text whole_of
report_verdict a trace number place because e f =
    ap (λ (set : ℕ). run_text number place set (whole_of a trace)) (sym f) ∙ sym (ap (λ (said : Said). said_text said (whole_of a trace)) e)

-- each way to end that says a verdict writes the report
ended_verdict : (e : Ended) (number place : ℕ) → said_of_run e ≡ verdict number place → (a : Answer) (trace out : List ℕ)
    → run_written a.records (report (whole_of a trace)) trace out ≡ ended_written e a trace out
unfolding ended_written
ended_verdict Ended.Done number place said a trace out = refl
ended_verdict (Ended.Stopped row because) number place said a trace out = refl
ended_verdict Ended.Spent number place said a trace out = refl
ended_verdict (Ended.NoRoom row) number place said a trace out = refl
ended_verdict (Ended.Refused refusal row) number place said a trace out = let z : ◌≡◌ {A = ℕ} 0 1 = cc in absurd (omega arith)

module _ (a : Answer) (trace out : List ℕ) where
  pub written_verdict : (e : Ended) (number place because : ℕ) → a.ended ≡ e → said_of_run e ≡ verdict number place → because_of e ≡ because
      → run_written a.records (run_text number place because (whole_of a trace)) trace out ≡ report_written a trace out
  unfolding report_written
  written_verdict e number place because h said set =
      let s = ap said_of_run h ∙ said in
      ap (λ (text : List ℕ). run_written a.records text trace out) (report_verdict a trace number place because s (ap because_of h ∙ set))
      ∙ ended_verdict a.ended number place s a trace out

  pub written_refused : (number row : ℕ) → a.ended ≡ Ended.Refused number row → refusal_written number row out ≡ report_written a trace out
  unfolding report_written ended_written
  written_refused number row h = sym (ap (λ (e : Ended). ended_written e a trace out) h)

-- ---- a buffer with room for the longest report

placed_alike : (room most : ℕ) (text out : List ℕ) → room ≤ length out → most ≤ length out → placed_in room text out ≡ placed_in most text out
unfolding placed_in
placed_alike room most text out h k =
    ap (λ (b : Bool). fitted b text out) (le-leb room (length out) h ∙ sym (le-leb most (length out) k))

report_refused : (a : Answer) (trace : List ℕ) (number row : ℕ) → a.ended ≡ Ended.Refused number row
    → refusal_text number row ≡ report (whole_of a trace)
unfolding report said_text whole_of
report_refused a trace number row e = sym (ap (λ (said : Said). said_text said (whole_of a trace)) (ap said_of_run e))

module _ (room : ℕ) (out : List ℕ) (fits : room ≤ length out) where
  -- what a refusal leaves in it
  pub refusal_placed : (number at : ℕ) → most_refusal ≤ room → refusal_written number at out ≡ placed_in room (refusal_text number at) out
  unfolding refusal_written
  refusal_placed number at h = placed_alike most_refusal room (refusal_text number at) out (omega arith) fits

  -- what an answer leaves in it, whose records the trace has
  pub report_placed : (a : Answer) (trace : List ℕ) → record_words * a.records ≤ length trace → most_run a.records ≤ room
      → report_written a trace out ≡ placed_in room (report (whole_of a trace)) out
  unfolding report_written ended_written
  report_placed a trace counted h = by a.ended refl
    where
      ran : run_written a.records (report (whole_of a trace)) trace out ≡ placed_in room (report (whole_of a trace)) out
      ran =
          sym (run_counted a.records (report (whole_of a trace)) trace out counted)
          ∙ placed_alike (most_run a.records) room (report (whole_of a trace)) out (omega arith) fits

      by : (e : Ended) → a.ended ≡ e → ended_written e a trace out ≡ placed_in room (report (whole_of a trace)) out
      by Ended.Done e = ran
      by (Ended.Stopped row because) e = ran
      by Ended.Spent e = ran
      by (Ended.NoRoom row) e = ran
      by (Ended.Refused number row) e =
          refusal_placed number row (omega arith) ∙ ap (λ (text : List ℕ). placed_in room text out) (report_refused a trace number row e)

-- ---- two answers that say the same are the same: each is read back from what it says

wrote_back : WroteSaid → Result ℕ Unwritten
wrote_back (bytes count) = Ok count
wrote_back too_short = Err Unwritten.TooShort
wrote_back lacking = Err Unwritten.Lacking

wrote_back_lem : (a : Result ℕ Unwritten) → wrote_back (said_of_wrote a) ≡ a
unfolding wrote_back
wrote_back_lem (Ok count) = refl
wrote_back_lem (Err Unwritten.TooShort) = refl
wrote_back_lem (Err Unwritten.Lacking) = refl

pub wrote_unique : (a b : Result ℕ Unwritten) → said_of_wrote a ≡ said_of_wrote b → a ≡ b
wrote_unique a b e = sym (wrote_back_lem a) ∙ ap wrote_back e ∙ wrote_back_lem b

-- the bytes that were written stand in the buffer
pub written_within : (room : ℕ) (text out left : List ℕ) (wrote : Result ℕ Unwritten) (count : ℕ) → wrote ≡ Ok count
    → ◌≡◌ {A = Written} (record { said = said_of_wrote wrote; out = left }) (placed_in room text out) → count ≤ length left
unfolding placed_in fitted
written_within room text out left wrote count e w = by (leb room (length out)) w
  where
    by : (b : Bool) → ◌≡◌ {A = Written} (record { said = said_of_wrote wrote; out = left }) (fitted b text out) → count ≤ length left
    by true h =
        let b : wrote ≡ Ok (length text) = wrote_unique wrote (Ok (length text)) (ap (λ (x : Written). x.said) h) in
        let n : count ≡ length text = cc in
        omega (arith, ap (λ (x : Written). length x.out) h, length-append text (drop (length text) out))
    by false h =
        let b : wrote ≡ (Err Unwritten.TooShort) = wrote_unique wrote (Err Unwritten.TooShort) (ap (λ (x : Written). x.said) h) in
        let z : ◌≡◌ {A = ℕ} 0 1 = cc in
        absurd (omega arith)
