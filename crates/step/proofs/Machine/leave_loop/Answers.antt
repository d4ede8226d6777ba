-- `step::Machine::leave_loop` meets its contract.
use mathlib.Core.Path.{ap, ◌∙◌}
use borrow.Author.Rules.{rules}
use Rattle.rules.specs.Rows.{rows_of}
use Rattle.step.specs.declared.Machine.{Machine}
use Rattle.step.proofs.ArrayLaws.{opened_leave}
use Rattle.step.proofs.Machine.leave_loop.Goals as goal

pub returns : goal.returns
returns c =
    let after = c.push_unrun.ensures in
    let opened =
    opened_leave (rows_of c.args.table.now) c.args.self.now (search rules) c.push_unrun.new.self c.requires.0
    (ap (λ (m : Machine). m.pending.items) after.rest ∙ c.set_top.ensures.items)
    (ap (λ (m : Machine). m.pending.len) after.rest ∙ c.set_top.ensures.len)
    in
    record {
      items = opened.0;
      named = opened.1;
      entries_long = opened.2;
      pile_long = after.pile_long;
      sets = after.sets;
      words = ap (λ (m : Machine). m.words) after.rest;
      marks = ap (λ (m : Machine). m.marks) after.rest;
      records = ap (λ (m : Machine). m.records) after.rest;
    }
