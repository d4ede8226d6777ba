-- `step::Machine::open_branch` meets its contract.
use mathlib.Core.Path.{ap, ◌∙◌}
use Prim.Native.Nat.{◌+◌}
use lib.ListN.{set}
use borrow.Author.Rules.{rules}
use Rattle.rules.specs.Rows.{rows_of}
use Rattle.step.specs.declared.Machine.{Machine}
use Rattle.step.proofs.ArrayLaws.{opened_branch}
use Rattle.step.proofs.Machine.open_branch.Goals as goal

pub returns : goal.returns
returns c =
    let after = c.push_unrun.ensures in
    let opened =
    opened_branch (rows_of c.args.table.now) c.args.self.now (search rules) c.push_unrun.new.self c.args.taken c.requires.0 c.requires.1.0
    (ap (λ (m : Machine). m.pending.items) after.rest ∙ c.push.ensures.items
    ∙ (λ i. set (c.set_top.ensures.items i) (c.set_top.ensures.len i) (c.entry_of.ensures i)))
    (ap (λ (m : Machine). m.pending.len) after.rest ∙ c.push.ensures.len ∙ (λ i. c.set_top.ensures.len i + 1))
    in
    record {
      items = opened.0;
      named = opened.1;
      entries_long = opened.2;
      pile_long = after.pile_long;
      sets = after.sets;
      words = ap (λ (m : Machine). m.words) after.rest;
      marks = ap (λ (m : Machine). m.marks) after.rest;
      records = ap (λ (m : Machine). m.records) after.rest;
    }
