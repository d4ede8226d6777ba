-- `step::Machine::new` meets its contract.
use lib.ListN.{set}
use mathlib.Core.Path.{refl, ◌∙◌}
use Prim.Native.Nat.{◌+◌}
use Rattle.step.proofs.Machine.new.Goals as goal

pub returns : goal.returns
returns c =
    let filled = c.new-pending.ensures in
    record {
      words = refl;
      marks = refl;
      first = c.push.ensures.items ∙ (λ i. set (filled.items i) (filled.len i) (c.entry_of.ensures i));
      one = c.push.ensures.len ∙ (λ i. filled.len i + 1);
      sets = c.new.ensures.items;
      no_sets = c.new.ensures.len;
      no_records = refl;
    }
