-- `step::Machine::turn_loop` meets its contract.
use mathlib.Core.Path.{sym, refl, ap, ◌∙◌}
use Prim.Native.Nat.{◌+◌}
use lib.ListN.{length, set, length-set}
use borrow.Author.Rules.{rules}
use native.Mathlib.Omega.{arith}
use Rattle.rules.specs.Rows.{rows_of}
use Rattle.step.proofs.ArrayLaws.{pushed_law, unpushed_law, opened_turn}
use Rattle.step.proofs.Machine.turn_loop.Goals as goal

pub returns-then-is_guarded : goal.returns-then-is_guarded
returns-then-is_guarded c =
    let m = c.args.self.now in
    let opened =
    opened_turn (rows_of c.args.table.now) m (search rules) (record m { pending = c.push-2.new.self }) c.args.body c.requires.0 c.requires.1.0
    (c.push-2.ensures.items ∙ (λ i. set (c.push.ensures.items i) (c.push.ensures.len i) (c.entry_of.ensures i)))
    (c.push-2.ensures.len ∙ (λ i. c.push.ensures.len i + 1))
    in
    record {
      items = opened.0;
      named = opened.1;
      entries_long = opened.2;
      pile_long = ap length c.push-then-is_guarded.ensures.items ∙ length-set m.pile.items m.pile.len 0 ∙ search rules;
      sets =
          pushed_law m.pile.items m.pile.len c.args.level 0 (sym c.if-is_guarded.true ∙ c.is_guarded.ensures) (search (rules, arith)) _ _
          c.push-then-is_guarded.ensures.items c.push-then-is_guarded.ensures.len;
      words = refl;
      marks = refl;
      records = refl;
    }

pub returns-else-is_guarded : goal.returns-else-is_guarded
returns-else-is_guarded c =
    let m = c.args.self.now in
    let opened =
    opened_turn (rows_of c.args.table.now) m (search rules) (record m { pending = c.push-2.new.self }) c.args.body c.requires.0 c.requires.1.0
    (c.push-2.ensures.items ∙ (λ i. set (c.push.ensures.items i) (c.push.ensures.len i) (c.entry_of.ensures i)))
    (c.push-2.ensures.len ∙ (λ i. c.push.ensures.len i + 1))
    in
    record {
      items = opened.0;
      named = opened.1;
      entries_long = opened.2;
      pile_long = search rules;
      sets = unpushed_law m.pile.items m.pile.len c.args.level 0 (sym c.if-is_guarded.false ∙ c.is_guarded.ensures);
      words = refl;
      marks = refl;
      records = refl;
    }
