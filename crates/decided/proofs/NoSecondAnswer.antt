-- No second answer meets a contract. In each proof e is what the first answer meets, and f what the second meets.
use mathlib.Core.Bool.{Bool, true, false}
use mathlib.Core.Path.{◌≡◌, refl, sym, ◌∙◌}
use Rattle.std.specs.Prelude.{IsTrue, ◌↔◌, Result}
use Rattle.rules.specs.declared.Refusal.{Refusal}
use Rattle.rules.specs.declared.Answer.{Answer}
use Rattle.rules.specs.declared.Advice.{Advice}
use Rattle.rules.specs.Answers.{Said, Advised, Whole, judged_of, said_of_judge, advised_of, told_of, telling}
use Rattle.rules.proofs.AnswerLaws.{judge_unique, checked_unique, ended_unique, told_said, told_because, told_steps, told_records, told_memory, told_marks}
use Rattle.expression.proofs.SaidLaws.{evaluation_unique, assigned_unique}
use Rattle.step.proofs.OpenLaws.{machine_unique}
use Rattle.numbers.proofs.FieldLaws.{field_unique}
use Rattle.job.proofs.JobLaws.{reading_unique}
use Rattle.report.proofs.ReportLaws.{wrote_unique}
use Rattle.spans.proofs.WordLaws.{begun_once, cut_once}
use Rattle.language.proofs.OneAnswer.{one_answer}
use Rattle.language.proofs.SaidLaws.{said_once}
use Rattle.embed.proofs.CallLaws.{read_once}
use Rattle.decided.specs.NoSecondAnswer.{NoSecondAnswer}

-- two that are equal to a third
same : {A : Type 0} {x y z : A} → x ≡ z → y ≡ z → x ≡ y
same e f = e ∙ sym f

-- tests of one fact
tested_once : {P : Type 0} (a b : Bool) → (IsTrue a ↔ P) → (IsTrue b ↔ P) → a ≡ b
tested_once true true e f = refl
tested_once true false e f = sym (f.1 (e.0 refl))
tested_once false true e f = e.1 (f.0 refl)
tested_once false false e f = refl

-- ---- answers that are equated through what they say

judged_once :
    {a b : Result (Unit {0}) Refusal} {said : Said} → said_of_judge (judged_of a) ≡ said → said_of_judge (judged_of b) ≡ said → a ≡ b
judged_once {a} {b} e f = judge_unique a b (same e f)

advised_once : {a b : Advice} {advised : Advised} → advised_of a ≡ advised → advised_of b ≡ advised → a ≡ b
advised_once {a} {b} e f =
    let checked = checked_unique a.checked b.checked (λ i. (same e f i).said) in
    λ i. record { checked = checked i; marks = (same e f i).marks }

told_once : {a b : Answer} (whole : Whole) → told_of a ≡ telling whole → told_of b ≡ telling whole → a ≡ b
told_once {a} {b} whole e f =
    let ended =
    ended_unique a.ended b.ended (same (told_said a whole e) (told_said b whole f)) (same (told_because a whole e) (told_because b whole f))
    in
    let steps = same (told_steps a whole e) (told_steps b whole f) in
    let records = same (told_records a whole e) (told_records b whole f) in
    let words = same (told_memory a whole e) (told_memory b whole f) in
    let marks = same (told_marks a whole e) (told_marks b whole f) in
    λ i. record { ended = ended i; steps = steps i; records = records i; memory = record { words = words i }; marks = marks i }

pub no_second_answer : NoSecondAnswer
no_second_answer = record {
  has_row = λ _ _ _ _ _ _ e f. (same e f, refl);
  row_at = λ _ _ _ _ _ _ e f. (same e f, refl);
  read_row = λ _ _ _ _ _ _ e f. (same e f, refl);
  judge = λ _ _ _ _ _ _ e f. (judged_once e f, refl);
  judged_table_new = λ _ _ _ _ _ _ e f. (same e f, refl);
  judged_table_row = λ _ _ _ _ _ _ e f. (same e.0 f.0, refl);
  only_mark = λ _ _ _ _ _ _ e f. (same e f, refl);
  has_mark = λ _ _ _ _ _ _ e f. (same e f, refl);
  mark_as = λ _ _ _ _ _ _ e f. (same e f, refl);
  joined = λ _ _ _ _ _ _ e f. (same e f, refl);
  operated = λ _ _ _ _ _ _ e f. (same e f, refl);
  read_lent = λ _ _ _ _ _ _ e f. (same e f, refl);
  store_lent = λ _ _ _ _ _ _ e f. (refl, λ i. (same e f i, (tt, (tt, tt))));
  copy_words = λ _ _ _ _ _ _ e f. (refl, λ i. (tt, (tt, (same e f i, tt))));
  value_at = λ _ _ _ _ _ _ e f. (evaluation_unique _ _ (same e f), refl);
  evaluate = λ _ _ _ _ _ _ e f. (same e f, refl);
  assigned_at = λ _ _ _ _ _ _ e f. (assigned_unique _ _ (same e f), refl);
  may_assign = λ _ _ _ _ _ _ e f. (same e f, refl);
  machine_new = λ _ _ _ _ _ _ e f. (
    machine_unique _ _ (same e.words f.words) (same e.marks f.marks) (same e.first f.first) (same e.one f.one) (same e.sets f.sets)
        (same e.no_sets f.no_sets) (same e.no_records f.no_records),
    refl,
  );
  machine_is_done = λ _ _ _ _ _ _ e f. (tested_once _ _ e f, refl);
  run = λ _ _ _ _ _ _ e f. (told_once _ e.told f.told, λ i. (tt, (tt, (tt, (tt, (same e.after_trace f.after_trace i, tt))))));
  check = λ _ _ _ _ _ _ e f. (advised_once e f, refl);
  number_at = λ _ _ _ _ _ _ e f. (field_unique _ _ _ e.1 f.1 (same e.0 f.0), refl);
  read_job = λ _ _ _ _ _ _ e f. (reading_unique _ _ (same e f), refl);
  write_refusal = λ _ _ _ _ _ _ e f. (wrote_unique _ _ (λ i. (same e f i).said), λ i. (tt, (tt, ((same e f i).out, tt))));
  write_report = λ _ _ _ _ _ _ e f. (wrote_unique _ _ (λ i. (same e f i).said), λ i. (tt, (tt, ((same e f i).out, tt))));
  answer_job = λ _ _ _ _ _ _ e f. (wrote_unique _ _ (λ i. (same e f i).said), λ i. (tt, ((same e f i).out, tt)));
  start_at = λ _ _ _ _ _ _ e f. (begun_once e f, refl);
  word_at = λ _ _ _ _ _ _ e f. (cut_once e f, refl);
  is_joined = λ _ _ _ _ _ _ e f. (same e f, refl);
  is_key = λ _ _ _ _ _ _ e f. (same e f, refl);
  read_text = λ _ _ _ _ _ _ e f. let r = one_answer _ _ _ _ _ e f in (said_once _ _ _ (λ i. (r i).said), λ i. (tt, ((r i).table, tt)));
  buzorinde_judge = λ _ _ _ _ _ _ e f. let c = same (sym e) (sym f) in (λ i. (c i).status, λ i. (tt, ((c i).answer, tt)));
  buzorinde_check = λ _ _ _ _ _ _ e f. let c = same (sym e) (sym f) in (λ i. (c i).status, λ i. (tt, (tt, ((c i).answer, tt))));
  buzorinde_run = λ _ _ _ _ _ _ e f. let c = same (sym e) (sym f) in (λ i. (c i).status, λ i. (tt, ((c i).memory, (tt, (tt, ((c i).trace, ((c i).answer, tt)))))));
  buzorinde_read = λ _ _ _ _ _ _ e f. let c = read_once e f in (λ i. (c i).status, λ i. (tt, ((c i).table, ((c i).answer, tt))));
}
