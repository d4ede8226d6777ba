-- The demands over calls, from the demands over the rules' answers: what is read off a call is the rules' answer.
use Prim.Native.Nat.{ℕ, suc, ◌≤◌}
use native.Mathlib.Omega.{arith}
use mathlib.Core.Bool.{true, false}
use mathlib.Core.List.{List, [], ◌∷◌, ◌++◌}
use mathlib.Core.Path.{◌≡◌, refl, sym, ap, ap₂, ◌∙◌, subst, subst₂}
use lib.ListN.{length}
use Rattle.std.specs.Prelude.{Result, Ok, Err}
use Rattle.rules.specs.declared.Refusal.{Refusal}
use Rattle.rules.specs.declared.Answer.{Answer}
use Rattle.rules.specs.declared.Ended.{Ended}
use Rattle.rules.specs.declared.Checked.{Checked}
use Rattle.rules.specs.declared.Advice.{Advice}
use Rattle.rules.specs.Rows.{rows_of}
use Rattle.rules.specs.Trees.{recipe}
use Rattle.rules.specs.Marks.{◌⊆◌, provisional}
use Rattle.rules.specs.Running.{Record, State, Terms, context, run}
use Rattle.rules.specs.LevelRules.{failing}
use Rattle.rules.specs.LevelCheck.{checked_of}
use Rattle.rules.specs.Answers.{number_of, refused, said_of_run, because_of, said_of_check, Whole, Inputs, terms_of, answer, trace_words_of, JudgeAnswers, RunAnswers, Advised, advised_of, CheckAnswers}
use Rattle.rules.proofs.RunInvariants.{run_unrefused}
use Rattle.rules.proofs.AnswerLaws.{start_of, start_law, Call, ran, away, call, answer_refused, answer_oversized, answer_ran, shown_law, told_said, told_because, told_steps, told_records, told_memory, told_marks, trace_after_law, trace_words_cons, advice_refused, judge_unique, ended_unique, checked_unique, said_judged, judged_as}
use Rattle.safety.specs.Demands.{Names, SameRun, unwatched, EitherBegins, SameToTheStations}
use Rattle.safety.specs.Calls.{records_in, whole_of, CallIsTheAnswer, CallJudges, Returned, CallEnds, CallIsRefusedAsJudged, CheckIsLeast, CheckIsRefusedAsJudged, CallIsUnwatched, CallsShowTheSame, CallIsNeverStopped, StopExplained, CallIsExplained}
use Rattle.safety.proofs.Demand1.{ends_within_budget, refusals_touch_nothing}
use Rattle.safety.proofs.Demand3.{one_begins_the_other, both_done_are_the_same}
use Rattle.safety.proofs.Transparent.{done_is_unwatched}
use Rattle.safety.proofs.Least.{level_check_is_least, lowest_is_named}
use Rattle.safety.proofs.Permissive.{passed_is_never_stopped}
use Rattle.safety.proofs.Explained.{stops_are_explained}

-- ---- what a caller reads off

-- the records that were written are read back
written_back : (records : List Record) (rest : List ℕ) → records_in (trace_words_of records ++ rest) (length records) ≡ records
unfolding records_in
written_back [] rest = refl
written_back (r ∷ records) rest =
    ap (λ (k : List ℕ). records_in (k ++ rest) (suc (length records))) (trace_words_cons r records)
    ∙ ap (λ (k : List Record). r ∷ k) (written_back records rest)

module _ (i : Inputs) (a : Answer) (after : List ℕ) (called : RunAnswers i a after) where
  found : records_in after a.records ≡ (answer i).records
  found =
      ap₂ records_in (called.after_trace ∙ trace_after_law (answer i).records i.trace) (told_records a (answer i) called.told)
      ∙ written_back (answer i).records _

  whole : whole_of a after ≡ answer i
  whole =
      let said = told_said a (answer i) called.told in
      let because = told_because a (answer i) called.told in
      let steps = told_steps a (answer i) called.told in
      let memory = told_memory a (answer i) called.told in
      let marks = told_marks a (answer i) called.told in
      λ x. record { said = said x; because = because x; steps = steps x; records = found x; memory = memory x; marks = marks x }

  -- how the call ended is what the answer says, and the other way round
  answer_said : (ended : Ended) → a.ended ≡ ended → (answer i).said ≡ said_of_run ended
  answer_said ended e = sym (told_said a (answer i) called.told) ∙ ap said_of_run e

  ended_as : (ended : Ended) (w : Whole) → answer i ≡ w → w.said ≡ said_of_run ended → w.because ≡ because_of ended → a.ended ≡ ended
  ended_as ended w e said because =
      ended_unique a.ended ended (told_said a (answer i) called.told ∙ ap (λ (x : Whole). x.said) e ∙ said)
      (told_because a (answer i) called.told ∙ ap (λ (x : Whole). x.because) e ∙ because)

pub call_is_the_answer : CallIsTheAnswer
call_is_the_answer = whole

pub call_judges : CallJudges
call_judges words judged said = said_judged words said

-- ---- Demand 1

returned : (i : Inputs) (a : Answer) (after : List ℕ) → RunAnswers i a after → (number row : ℕ) → a.ended ≡ Ended.Refused number row → Returned i a after
returned i a after called number row e =
    let kept = refusals_touch_nothing i number row (answer_said i a after called (Ended.Refused number row) e) in
    record {
      no_step = told_steps a (answer i) called.told ∙ kept.no_step;
      no_record = told_records a (answer i) called.told ∙ ap length kept.no_record;
      memory_kept = told_memory a (answer i) called.told ∙ kept.memory_kept;
      marks_kept = told_marks a (answer i) called.told ∙ kept.marks_kept;
      trace_kept = called.after_trace ∙ kept.trace_kept;
    }

pub call_ends : CallEnds
call_ends i a after called = (
  subst (λ (w : Whole). w.steps ≤ i.budget) (sym (whole i a after called)) (ends_within_budget i),
  returned i a after called,
)

pub call_is_refused_as_judged : CallIsRefusedAsJudged
call_is_refused_as_judged i judged a after said called = record {
  bad_table = λ refusal e.
      ended_as i a after called (Ended.Refused (number_of refusal.fault) refusal.row) _
      (answer_refused i (number_of refusal.fault) refusal.row (judged_as i.words said e)) refl refl;
  oversized = λ e over. ended_as i a after called (Ended.Refused 6 0) _ (answer_oversized i (judged_as i.words said e) over) refl refl;
  admitted = λ e fits number row f.
      run_unrefused (terms_of (length i.trace)) i.budget (start_of i.words i.memory i.marks) number row
      (sym (ap (λ (x : Whole). x.said) (answer_ran i (judged_as i.words said e) fits ∙ shown_law i)) ∙ answer_said i a after called (Ended.Refused number row) f);
}

-- ---- Demand 2

pub check_is_least : CheckIsLeast
check_is_least words marks check said checks =
    let least = level_check_is_least words marks (judged_as words {answer = Ok tt} said refl) in
    let rows : List ℕ = failing (recipe (rows_of words)) least.0 false marks in
    let word = checked_unique check.checked (checked_of rows) (ap (λ (x : Advised). x.said) checks ∙ least.3) in (
      least.0,
      least.1,
      ap (λ (x : Advised). x.marks) checks ∙ least.2,
      subst (λ (c : Checked). Names c rows) (sym word) (lowest_is_named rows),
    )

-- a call of the level check where a call of the judge refuses
refused_alike :
    (words : List ℕ) (marks : ℕ) (judged : Result (Unit {0}) Refusal) (check : Advice) → JudgeAnswers words judged
    → CheckAnswers words marks check → (refusal : Refusal) → judged ≡ Err refusal
    → advised_of check ≡ record { said = refused (number_of refusal.fault) refusal.row; marks = marks }
refused_alike words marks judged check said checks refusal e =
    checks ∙ advice_refused words marks (number_of refusal.fault) refusal.row (judged_as words said e)

pub check_is_refused_as_judged : CheckIsRefusedAsJudged
check_is_refused_as_judged words marks judged check said checks refusal = (
  (by judged said, back),
  λ e. ap (λ (x : Advised). x.marks) (refused_alike words marks judged check said checks refusal (by judged said e)),
)
  where
    back : judged ≡ Err refusal → check.checked ≡ Checked.Refused refusal
    back e =
        checked_unique check.checked (Checked.Refused refusal)
        (ap (λ (x : Advised). x.said) (refused_alike words marks judged check said checks refusal e))

    by : (j : Result (Unit {0}) Refusal) → JudgeAnswers words j → check.checked ≡ Checked.Refused refusal → j ≡ Err refusal
    by (Ok done) judges e = absurd ((check_is_least words marks check judges checks).3.unrefused refusal e)
    by (Err other) judges e =
        judge_unique (Err other) (Err refusal)
        (sym (ap (λ (x : Advised). x.said) (refused_alike words marks (Err other) check judges checks other refl)) ∙ ap said_of_check e)

pub call_is_unwatched : CallIsUnwatched
call_is_unwatched i a after called done =
    subst (λ (w : Whole). SameRun w (unwatched i)) (sym (whole i a after called))
    (done_is_unwatched i (answer_said i a after called Ended.Done done))

-- ---- Demand 3

pub calls_show_the_same : CallsShowTheSame
calls_show_the_same i j two a b after after' called called' = (
  subst₂ EitherBegins (sym (whole i a after called)) (sym (whole j b after' called')) (one_begins_the_other i j two),
  λ done done'.
      subst₂ SameToTheStations (sym (whole i a after called)) (sym (whole j b after' called'))
      (both_done_are_the_same i j two (answer_said i a after called Ended.Done done) (answer_said j b after' called' Ended.Done done')),
)

pub call_is_never_stopped : CallIsNeverStopped
call_is_never_stopped i check a after row because checks passed called stopped =
    passed_is_never_stopped i row (sym (ap (λ (x : Advised). x.said) checks) ∙ ap said_of_check passed)
    (answer_said i a after called (Ended.Stopped row because) stopped)

-- ---- What a run is stopped because of

pub call_is_explained : CallIsExplained
call_is_explained i a after row because called stopped = by (call i)
  where
    terms : Terms
    terms = terms_of (length i.trace)

    from : State
    from = start_of i.words i.memory i.marks

    by : Call i → StopExplained i a because
    by (ran accepted shown) =
        let stops : (run terms i.budget from).ended ≡ Ended.Stopped row because =
        ended_unique (run terms i.budget from).ended (Ended.Stopped row because)
        (sym (ap (λ (x : Whole). x.said) shown) ∙ answer_said i a after called (Ended.Stopped row because) stopped)
        (sym (ap (λ (x : Whole). x.because) shown) ∙ sym (told_because a (answer i) called.told) ∙ ap because_of stopped)
        in
        let explained = stops_are_explained terms i.budget from row because stops in
        record {
          all_marked =
              subst (λ (marks : ℕ). because ⊆ marks) (sym (told_marks a (answer i) called.told ∙ ap (λ (x : Whole). x.marks) shown))
              explained.all_marked;
          some =
              subst (λ (σ : State). context (run terms i.budget σ).state.pile ≡ false → provisional because ≡ true)
              (sym (start_law i.words i.memory i.marks))
              explained.some;
        }
    by (away number at shown) =
        absurd
        (let clash : refused number at ≡ said_of_run (Ended.Stopped row because) =
        sym (ap (λ (x : Whole). x.said) shown) ∙ answer_said i a after called (Ended.Stopped row because) stopped
        in
        let z : ◌≡◌ {A = ℕ} 0 1 = cc in
        omega arith)
