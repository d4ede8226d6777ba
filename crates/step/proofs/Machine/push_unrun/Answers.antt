-- `step::Machine::push_unrun` meets its contract.
use mathlib.Core.Path.{sym, refl, ap, ◌∙◌}
use lib.ListN.{length, set, length-set}
use borrow.Author.Rules.{rules}
use native.Mathlib.Omega.{arith}
use Rattle.step.proofs.ArrayLaws.{pushed_law, unpushed_law}
use Rattle.step.proofs.Machine.push_unrun.Goals as goal

pub returns-then-is_guarded : goal.returns-then-is_guarded
returns-then-is_guarded c =
    let m = c.args.self.now in
    record {
      sets =
          pushed_law m.pile.items m.pile.len c.args.level _ (sym c.if-is_guarded.true ∙ c.is_guarded.ensures) (search (rules, arith)) _ _
          (c.push.ensures.items ∙ ap (set m.pile.items m.pile.len) c.may_assign.ensures) c.push.ensures.len;
      pile_long = ap length c.push.ensures.items ∙ length-set m.pile.items m.pile.len _ ∙ search rules;
      rest = refl;
    }

pub returns-else-is_guarded : goal.returns-else-is_guarded
returns-else-is_guarded c =
    let m = c.args.self.now in
    record {
      sets = unpushed_law m.pile.items m.pile.len c.args.level _ (sym c.if-is_guarded.false ∙ c.is_guarded.ensures);
      pile_long = search rules;
      rest = refl;
    }
