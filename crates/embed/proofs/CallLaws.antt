-- What a call answers, from whether a buffer is too short and from what the proved functions answered.
use Prim.Native.Nat.{ℕ, ◌≤◌}
use mathlib.Core.Bool.{Bool, false}
use mathlib.Core.List.{List, [], ◌∷◌, ◌++◌}
use mathlib.Core.Path.{◌≡◌, refl, sym, ap, ap₂, subst, ◌∙◌}
use native.Mathlib.Omega.{arith}
use lib.ListN.{length, take, drop}
use borrow.Author.Tests.{le-ltb}
use Rattle.rules.specs.declared.Answer.{Answer}
use Rattle.rules.specs.Limits.{width}
use Rattle.rules.specs.Answers.{Whole, Inputs, inputs, answer, trace_after, said_of_run, because_of, told_of, telling, RunAnswers}
use Rattle.rules.proofs.AnswerLaws.{told_said, told_because, told_steps, told_records, told_memory, told_marks}
use Rattle.language.specs.Said as language
use Rattle.language.specs.Readings.{Reading, Reads}
use Rattle.language.proofs.OneAnswer.{one_answer}
use Rattle.embed.specs.declared.Numbers.{Numbers}
use Rattle.embed.specs.Calls.{numbers_of, said_words, laid, answered, run_length, ran_call, run_call_by, run_call, first_words, read_words, read_length, ReadCall, ReadCalls, short, reads}

-- ---- the run

-- a run that was given the first words of the memory has answered: its memory, its trace and its words, told by what is known by
-- equations
pub run_answered : (i : Inputs) (buffer given trace' : List ℕ) (a : Answer) (n : Numbers) (because : ℕ)
    → run_length ≤ length buffer → width ≤ length i.memory → given ≡ take width i.memory
    → RunAnswers (inputs i.words given i.marks i.budget i.trace) a trace' → n ≡ numbers_of (said_of_run a.ended) → because ≡ because_of a.ended
    → run_call i buffer ≡ record {
      status = answered;
      memory = a.memory.words ++ drop width i.memory;
      trace = trace';
      answer = laid (said_words n ++ a.steps ∷ a.records ∷ a.marks ∷ because ∷ []) buffer;
    }
run_answered i buffer given trace' a n because h m e x f g =
    let ran : RunAnswers (first_words i) a trace' = subst (λ (m : List ℕ). RunAnswers (inputs i.words m i.marks i.budget i.trace) a trace') e x in
    ap₂ (λ (x y : Bool). run_call_by x y i buffer) (le-ltb (length buffer) run_length h) (le-ltb (length i.memory) width m)
    ∙ ran_call_told (answer (first_words i)) ran.told (sym ran.after_trace)
  where
    ran_call_told : (w : Whole) → told_of a ≡ telling w → trace_after w.records i.trace ≡ trace'
        → ran_call w i buffer ≡ record {
          status = answered;
          memory = a.memory.words ++ drop width i.memory;
          trace = trace';
          answer = laid (said_words n ++ a.steps ∷ a.records ∷ a.marks ∷ because ∷ []) buffer;
        }
    ran_call_told w told left =
        let s = ap numbers_of (sym (told_said a w told)) ∙ sym f in
        let steps = sym (told_steps a w told) in
        let records = sym (told_records a w told) in
        let marks = sym (told_marks a w told) in
        let b = sym (told_because a w told) ∙ sym g in
        let words = sym (told_memory a w told) in
        λ j. record {
          status = answered;
          memory = words j ++ drop width i.memory;
          trace = left j;
          answer = laid (said_words (s j) ++ steps j ∷ records j ∷ marks j ∷ b j ∷ []) buffer;
        }

-- ---- a reading

pub read_answered :
    (text table buffer left after : List ℕ) (s : language.Said) → read_length ≤ length buffer → Reads false text table (record { said = s; table = left })
    → after ≡ laid (read_words text s) buffer → ReadCalls text table buffer (record { status = answered; table = left; answer = after })
read_answered text table buffer left after s h r told =
    subst (λ (l : List ℕ). ReadCalls text table buffer (record { status = answered; table = left; answer = l })) (sym told) (reads h _ r)

-- a call comes to one end
pub read_once : {text table buffer : List ℕ} {a b : ReadCall} → ReadCalls text table buffer a → ReadCalls text table buffer b → a ≡ b
read_once (short h) (short k) = refl
read_once (short h) (reads k r x) = absurd (omega arith)
read_once (reads h r x) (short k) = absurd (omega arith)
read_once {text} {table} {buffer} (reads h r x) (reads k s y) =
    ap (λ (z : Reading). record { status = answered; table = z.table; answer = laid (read_words text z.said) buffer })
    (one_answer false text table r s x y)
