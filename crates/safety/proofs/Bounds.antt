-- What the code's arrays need: in every state that a run of an accepted table reaches, marks and pushed sets are in range,
-- the pile has at most as many sets as the nesting allows, and at most one item is pending for each row and each level of nesting.
use native.Mathlib.Omega.{arith}
use mathlib.Core.Path.{sym, subst}
use Rattle.rules.specs.Running.{State, run}
use Rattle.rules.specs.Answers.{started}
use Rattle.rules.specs.Bounds.{Bounds}
use Rattle.rules.proofs.RunInvariants.{run_keeps}
use Rattle.rules.proofs.BoundLaws.{bounds_kept, few_closes, few_pending, each_small, bounds_start}
use Rattle.rules.proofs.AnswerLaws.{start_law}
use Rattle.safety.specs.Demands.{Bounded, RunsStayBounded}

bounded : (σ : State) → Bounds σ.pending σ.marks σ.pile → Bounded σ
bounded σ f = record {
  marks_small = f.marks;
  pile_low = omega (arith, f.pile, few_closes σ.pending f.roomy);
  pile_small = each_small σ.pile f.sets;
  pending_few = few_pending σ.pending f.roomy;
}

pub runs_stay_bounded : RunsStayBounded
runs_stay_bounded i terms e small =
    bounded (run terms i.budget (started i)).state
    (run_keeps (λ k m l p g. Bounds k l p) bounds_kept terms i.budget (started i)
    (subst (λ (σ : State). Bounds σ.pending σ.marks σ.pile) (sym (start_law i.words i.memory i.marks))
    (bounds_start i.words i.marks e small)))
