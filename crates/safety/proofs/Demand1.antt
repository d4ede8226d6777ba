-- Demand 1: a run ends within its budget, a refusal touches nothing, and a run is done when nothing is pending.
use Prim.Native.Nat.{ℕ, ◌+◌, ◌≤◌}
use native.Mathlib.Omega.{arith}
use mathlib.Core.Path.{refl, sym, ap, ◌∙◌, subst}
use lib.ListN.{length}
use Rattle.rules.specs.Answers.{Whole, Inputs, answer, terms_of}
use Rattle.rules.proofs.RunInvariants.{run_steps, run_done_idle, run_unrefused}
use Rattle.rules.proofs.AnswerLaws.{start_of, shown_of, turned_away, Call, ran, away, call, trace_kept}
use Rattle.safety.specs.Demands.{EndsWithinBudget, Untouched, RefusalsTouchNothing, DoneWhenNothingIsPending}

pub ends_within_budget : EndsWithinBudget
ends_within_budget i = by (call i)
  where
    by : Call i → (answer i).steps ≤ i.budget
    by (ran e w) =
        let most : (shown_of i).steps ≤ 0 + i.budget =
        run_steps (terms_of (length i.trace)) i.budget (start_of i.words i.memory i.marks)
        in
        omega (arith, ap (λ (a : Whole). a.steps) w)
    by (away number row w) = omega (arith, ap (λ (a : Whole). a.steps) w)

untouched : (i : Inputs) (number row : ℕ) → Untouched i (turned_away number row i)
untouched i number row = record {
  no_step = refl;
  no_record = refl;
  memory_kept = refl;
  marks_kept = refl;
  trace_kept = trace_kept i.trace;
}

pub refusals_touch_nothing : RefusalsTouchNothing
refusals_touch_nothing i number row said = by (call i)
  where
    by : Call i → Untouched i (answer i)
    by (ran e w) =
        absurd
        (run_unrefused (terms_of (length i.trace)) i.budget (start_of i.words i.memory i.marks) number row
        (sym (ap (λ (a : Whole). a.said) w) ∙ said))
    by (away number' row' w) = subst (Untouched i) (sym w) (untouched i number' row')

pub done_when_nothing_is_pending : DoneWhenNothingIsPending
done_when_nothing_is_pending terms budget σ = run_done_idle terms budget σ
