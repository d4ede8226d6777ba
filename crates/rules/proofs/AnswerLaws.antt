-- Laws of the whole answers: a call either runs or is refused, and what it answers then; each answer enum is told apart by
-- what it says.
use Prim.Native.Nat.{ℕ, ◌/◌, ◌≤◌, ◌<◌}
use mathlib.Core.Bool.{Bool, true, false, cond}
use mathlib.Core.List.{List, [], ◌∷◌, ◌++◌}
use Rattle.std.specs.Prelude.{Result, Ok, Err}
use mathlib.Core.Path.{◌≡◌, refl, sym, ap, ap₂, ◌∙◌}
use lib.Dec.{eqb, ltb}
use lib.ListN.{length, drop}
use borrow.Author.Tests.{lt-ltb, le-ltb}
use denote.Enum.Declared.{tag_of}
use types.Run.{OneOf, miss}
use Rattle.rules.specs.contracts.Ended as ended-type
use Rattle.rules.specs.declared.Fault.{Fault}
use Rattle.rules.specs.declared.Refusal.{Refusal}
use Rattle.rules.specs.declared.Ended.{Ended}
use Rattle.rules.specs.declared.Checked.{Checked}
use Rattle.rules.specs.declared.Answer.{Answer}
use Rattle.rules.specs.Limits.{record_words, most_trace_words}
use Rattle.rules.specs.Marks.{none}
use Rattle.rules.specs.Rows.{rows_of}
use Rattle.rules.specs.Trees.{recipe}
use Rattle.rules.specs.Judged.{Judged}
use Rattle.rules.specs.Judging.{or_else, judge, judge_trace}
use Rattle.rules.specs.Running.{statement, State, state, blank, start, Record}
use Rattle.rules.specs.LevelCheck.{walk, checked_of}
use Rattle.rules.specs.Answers.{Told, Said, accepted, refused, verdict, pass, fail, number_of, judged_of, said_of_judge, said_of_run, because_of, said_of_check, Whole, Inputs, inputs, final, admitted, answered, terms_of, answer, trace_words_of, trace_after, advised, advice, judgement, told_of, telling}
use Rattle.rules.specs.Sound.{Sound}
use Rattle.rules.proofs.MarkLaws.{none_zero}
use Rattle.rules.proofs.JudgeLaws.{or_else_accepted, accepted_sound}

-- the state from which a recipe starts, by its parts
abbrev pub start_of : List ℕ → List ℕ → ℕ → State
start_of words memory marks = state (statement (recipe (rows_of words)) ∷ []) memory marks [] blank

pub start_law : (words m : List ℕ) (l : ℕ) → start (recipe (rows_of words)) m l ≡ start_of words m l
unfolding start
start_law words m l = refl

-- what the run of an accepted table shows
abbrev pub shown_of : Inputs → Whole
shown_of i = final (terms_of (length i.trace)) i.budget (start_of i.words i.memory i.marks)

pub shown_law : (i : Inputs) → answered Judged.Accepted i ≡ shown_of i
unfolding answered start
shown_law i = refl

-- what a refused run answers
abbrev pub turned_away : ℕ → ℕ → Inputs → Whole
turned_away number row i = record {
  said = refused number row;
  because = none;
  steps = 0;
  records = [];
  memory = i.memory;
  marks = i.marks;
}

-- A call runs, on an accepted table, or is refused.
pub data Call (i : Inputs) : Type 0 where
  ran : judge i.words ≡ Judged.Accepted → answer i ≡ shown_of i → Call i
  away : (number row : ℕ) → answer i ≡ turned_away number row i → Call i

pub call : (i : Inputs) → Call i
unfolding answer answered
call i = by (admitted i) refl
  where
    by : (j : Judged) → admitted i ≡ j → Call i
    by Judged.Accepted e =
        ran (or_else_accepted (judge i.words) (judge_trace (length i.trace)) e).0 (ap (λ (j : Judged). answered j i) e ∙ shown_law i)
    by (Judged.Refused number row) e = away number row (ap (λ (j : Judged). answered j i) e)

-- ---- the three ways of a call

pub answer_refused : (i : Inputs) (number row : ℕ) → judge i.words ≡ Judged.Refused number row → answer i ≡ turned_away number row i
unfolding answer answered or_else
answer_refused i number row e = ap (λ (j : Judged). answered (or_else j (judge_trace (length i.trace))) i) e

module _ (i : Inputs) (accepted : judge i.words ≡ Judged.Accepted) where
  -- an accepted table is judged by its trace
  by_trace : (oversized : Bool) → ltb most_trace_words (length i.trace) ≡ oversized
      → answer i ≡ answered (cond oversized (Judged.Refused 6 0) Judged.Accepted) i
  unfolding answer or_else judge_trace
  by_trace oversized e =
      ap (λ (j : Judged). answered (or_else j (judge_trace (length i.trace))) i) accepted
      ∙ ap (λ (c : Bool). answered (cond c (Judged.Refused 6 0) Judged.Accepted) i) e

  pub answer_oversized : most_trace_words < length i.trace → answer i ≡ turned_away 6 0 i
  unfolding answered
  answer_oversized over = by_trace true (lt-ltb most_trace_words (length i.trace) over)

  pub answer_ran : length i.trace ≤ most_trace_words → answer i ≡ answered Judged.Accepted i
  answer_ran fits = by_trace false (le-ltb most_trace_words (length i.trace) fits)

-- the answer depends on the trace by its length alone
module _ (words m : List ℕ) (l b : ℕ) (t t' : List ℕ) (e : length t ≡ length t') where
  by_length : (j : Judged) → answered j (inputs words m l b t) ≡ answered j (inputs words m l b t')
  unfolding answered
  by_length Judged.Accepted = ap (λ (n : ℕ). final (terms_of n) b (start (recipe (rows_of words)) m l)) e
  by_length (Judged.Refused number row) = refl

  pub answer_room : answer (inputs words m l b t) ≡ answer (inputs words m l b t')
  unfolding answer
  answer_room =
      ap (λ (n : ℕ). answered (or_else (judge words) (judge_trace n)) (inputs words m l b t)) e
      ∙ by_length (or_else (judge words) (judge_trace (length t')))

-- ---- what a run is stopped because of

-- however else it ended, of no variable
pub because_none : (e : Ended) → OneOf (0 ∷ 2 ∷ 3 ∷ 4 ∷ []) (tag_of ended-type.the_type e) → because_of e ≡ 0
because_none Ended.Done among = none_zero
because_none (Ended.Stopped row because) among = absurd (miss (0 ∷ 2 ∷ 3 ∷ 4 ∷ []) 1 tt among)
because_none Ended.Spent among = none_zero
because_none (Ended.NoRoom row) among = none_zero
because_none (Ended.Refused number row) among = none_zero

-- ---- what an answer tells

pub telling_law : (a : Answer) (w : Whole) → said_of_run a.ended ≡ w.said → because_of a.ended ≡ w.because → a.steps ≡ w.steps → a.records ≡ length w.records → a.memory.words ≡ w.memory → a.marks ≡ w.marks → told_of a ≡ telling w
unfolding told_of telling
telling_law a w es eb en er em el = λ i. record { said = es i; because = eb i; steps = en i; records = er i; memory = em i; marks = el i }

-- ---- the trace afterwards

pub trace_words_none : trace_words_of [] ≡ []
unfolding trace_words_of
trace_words_none = refl

pub trace_words_cons : (r : Record) (rs : List Record) → trace_words_of (r ∷ rs) ≡ r.channel ∷ r.value ∷ trace_words_of rs
unfolding trace_words_of
trace_words_cons r rs = refl

pub trace_words_snoc : (rs : List Record) (r : Record) → trace_words_of (rs ++ (r ∷ [])) ≡ trace_words_of rs ++ (r.channel ∷ r.value ∷ [])
unfolding trace_words_of
trace_words_snoc [] r = refl
trace_words_snoc (x ∷ rs) r = ap (λ (k : List ℕ). x.channel ∷ x.value ∷ k) (trace_words_snoc rs r)

pub trace_after_law : (records : List Record) (trace : List ℕ) → trace_after records trace ≡ trace_words_of records ++ drop (length (trace_words_of records)) trace
unfolding trace_after
trace_after_law records trace = refl

-- room is half the trace's words
pub room_law : (trace_words : ℕ) → (terms_of trace_words).room ≡ trace_words / record_words
unfolding terms_of
room_law trace_words = refl

-- with no record the trace is as it was lent
pub trace_kept : (trace : List ℕ) → trace_after [] trace ≡ trace
unfolding trace_after trace_words_of
trace_kept trace = refl

-- the level check of an accepted table, and of one that is refused
pub advice_accepted :
    (words : List ℕ) (marks : ℕ) → judge words ≡ Judged.Accepted
    → advice words marks
    ≡ record {
      said = said_of_check (checked_of (walk (recipe (rows_of words)) false marks).failing);
      marks = (walk (recipe (rows_of words)) false marks).marks;
    }
unfolding advice advised
advice_accepted words marks e = ap (λ (j : Judged). advised j marks (walk (recipe (rows_of words)) false marks)) e

pub advice_refused :
    (words : List ℕ) (marks number row : ℕ) → judge words ≡ Judged.Refused number row
    → advice words marks ≡ record { said = refused number row; marks = marks }
unfolding advice advised
advice_refused words marks number row e = ap (λ (j : Judged). advised j marks (walk (recipe (rows_of words)) false marks)) e

-- ---- two answers that say the same are the same: each is read back from what it says

judged_back : Said → Judged
judged_back accepted = Judged.Accepted
judged_back (refused number row) = Judged.Refused number row
judged_back (verdict number place) = Judged.Accepted
judged_back pass = Judged.Accepted
judged_back (fail row) = Judged.Accepted

judged_back_lem : (a : Judged) → judged_back (said_of_judge a) ≡ a
unfolding judged_back
judged_back_lem Judged.Accepted = refl
judged_back_lem (Judged.Refused number row) = refl

judged_unique : (a b : Judged) → said_of_judge a ≡ said_of_judge b → a ≡ b
judged_unique a b e = sym (judged_back_lem a) ∙ ap judged_back e ∙ judged_back_lem b

fault_back : ℕ → Fault
fault_back number =
    cond (eqb number 1) Fault.WrongCount
    (cond (eqb number 2) Fault.WrongWord
    (cond (eqb number 3) Fault.WrongChild
    (cond (eqb number 4) Fault.WrongParents (cond (eqb number 5) Fault.TooDeep Fault.LongTrace))))

fault_back_lem : (fault : Fault) → fault_back (number_of fault) ≡ fault
unfolding fault_back
fault_back_lem Fault.WrongCount = refl
fault_back_lem Fault.WrongWord = refl
fault_back_lem Fault.WrongChild = refl
fault_back_lem Fault.WrongParents = refl
fault_back_lem Fault.TooDeep = refl
fault_back_lem Fault.LongTrace = refl

pub refusal_back : ℕ → ℕ → Refusal
refusal_back number row = record { fault = fault_back number; row = row }

pub refusal_back_lem : (refusal : Refusal) → refusal_back (number_of refusal.fault) refusal.row ≡ refusal
unfolding refusal_back
refusal_back_lem refusal = λ i. record { fault = fault_back_lem refusal.fault i; row = refusal.row }

judge_back : Judged → Result (Unit {0}) Refusal
judge_back Judged.Accepted = Ok tt
judge_back (Judged.Refused number row) = Err (refusal_back number row)

judge_back_lem : (a : Result (Unit {0}) Refusal) → judge_back (judged_of a) ≡ a
unfolding judge_back
judge_back_lem (Ok done) = refl
judge_back_lem (Err refusal) = ap Err (refusal_back_lem refusal)

pub judge_unique : (a b : Result (Unit {0}) Refusal) → said_of_judge (judged_of a) ≡ said_of_judge (judged_of b) → a ≡ b
judge_unique a b e =
    sym (judge_back_lem a) ∙ ap judge_back (judged_unique (judged_of a) (judged_of b) e) ∙ judge_back_lem b

ended_back : Said → ℕ → Ended
ended_back accepted because = Ended.Done
ended_back (refused number row) because = Ended.Refused number row
ended_back (verdict number place) because =
    cond (eqb number 0) Ended.Done
    (cond (eqb number 1) (Ended.Stopped place because) (cond (eqb number 2) Ended.Spent (Ended.NoRoom place)))
ended_back pass because = Ended.Done
ended_back (fail row) because = Ended.Done

ended_back_lem : (a : Ended) → ended_back (said_of_run a) (because_of a) ≡ a
unfolding ended_back
ended_back_lem Ended.Done = refl
ended_back_lem (Ended.Stopped row because) = refl
ended_back_lem Ended.Spent = refl
ended_back_lem (Ended.NoRoom row) = refl
ended_back_lem (Ended.Refused number row) = refl

pub ended_unique : (a b : Ended) → said_of_run a ≡ said_of_run b → because_of a ≡ because_of b → a ≡ b
ended_unique a b e f = sym (ended_back_lem a) ∙ ap₂ ended_back e f ∙ ended_back_lem b

checked_back : Said → Checked
checked_back accepted = Checked.Pass
checked_back (refused number row) = Checked.Refused (refusal_back number row)
checked_back (verdict number place) = Checked.Pass
checked_back pass = Checked.Pass
checked_back (fail row) = Checked.Fail row

checked_back_lem : (a : Checked) → checked_back (said_of_check a) ≡ a
unfolding checked_back
checked_back_lem Checked.Pass = refl
checked_back_lem (Checked.Fail row) = refl
checked_back_lem (Checked.Refused refusal) = ap Checked.Refused (refusal_back_lem refusal)

pub checked_unique : (a b : Checked) → said_of_check a ≡ said_of_check b → a ≡ b
checked_unique a b e = sym (checked_back_lem a) ∙ ap checked_back e ∙ checked_back_lem b

-- ---- the judge's answer and what is said of it

pub judged_said : (words : List ℕ) {answer : Judged} → answer ≡ judge words → said_of_judge answer ≡ judgement words
unfolding judgement
judged_said words e = ap said_of_judge e

pub said_judged : (words : List ℕ) {answer : Judged} → said_of_judge answer ≡ judgement words → answer ≡ judge words
unfolding judgement
said_judged words {answer} e = judged_unique answer (judge words) e

-- what the judge's answer was found to be is the judgement
pub judged_as :
    (words : List ℕ) {answer given : Result (Unit {0}) Refusal} → said_of_judge (judged_of answer) ≡ judgement words → answer ≡ given
    → judge words ≡ judged_of given
judged_as words said e = sym (said_judged words said) ∙ ap judged_of e

pub judged_ok :
    (words : List ℕ) {answer : Result (Unit {0}) Refusal} → said_of_judge (judged_of answer) ≡ judgement words → answer ≡ Ok tt
    → judge words ≡ Judged.Accepted
judged_ok words said e = judged_as words said e

-- from an answer "accepted" follows all that the crates above use of a table
pub accepted_answer :
    (words : List ℕ) {answer : Result (Unit {0}) Refusal} → said_of_judge (judged_of answer) ≡ judgement words → answer ≡ Ok tt
    → Sound (rows_of words)
accepted_answer words said e = accepted_sound words (judged_as words said e)

-- ---- what an answer that tells this is

module _ (a : Answer) (w : Whole) (told : told_of a ≡ telling w) where
  pub told_said : said_of_run a.ended ≡ w.said
  unfolding told_of telling
  told_said = ap (λ (x : Told). x.said) told

  pub told_because : because_of a.ended ≡ w.because
  unfolding told_of telling
  told_because = ap (λ (x : Told). x.because) told

  pub told_steps : a.steps ≡ w.steps
  unfolding told_of telling
  told_steps = ap (λ (x : Told). x.steps) told

  pub told_records : a.records ≡ length w.records
  unfolding told_of telling
  told_records = ap (λ (x : Told). x.records) told

  pub told_memory : a.memory.words ≡ w.memory
  unfolding told_of telling
  told_memory = ap (λ (x : Told). x.memory) told

  pub told_marks : a.marks ≡ w.marks
  unfolding told_of telling
  told_marks = ap (λ (x : Told). x.marks) told
