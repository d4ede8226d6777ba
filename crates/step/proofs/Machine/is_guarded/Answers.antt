-- `step::Machine::is_guarded` meets its contract.
use mathlib.Core.Bool.{Bool, not, ◌||◌}
use mathlib.Core.Path.{sym, ap, ◌∙◌}
use lib.Dec.{eqb}
use borrow.Author.Tests.{ne_eqb}
use Rattle.rules.proofs.MarkLaws.{provisional_zero, provisional_some}
use Rattle.step.proofs.Machine.is_guarded.Goals as goal

pub returns-then-level-ne0 : goal.returns-then-level-ne0
returns-then-level-ne0 c =
    ap not (ne_eqb c.args.level 0 c.if-level-ne0.true)
    ∙ sym (ap (λ (b : Bool). b || not (eqb c.args.self.now.pile.len 0)) (provisional_some c.args.level c.if-level-ne0.true))

pub returns-else-level-ne0 : goal.returns-else-level-ne0
returns-else-level-ne0 c =
    ap not c.is_empty.ensures
    ∙ sym (ap (λ (b : Bool). b || not (eqb c.args.self.now.pile.len 0)) (provisional_zero c.args.level c.if-level-ne0.false))
