-- A run that has ended can be gone on with.
use native.Mathlib.Omega.{arith}
use mathlib.Core.List.{List}
use mathlib.Core.Path.{sym, ap, ◌∙◌}
use Rattle.rules.specs.Running.{Record, Outcome, state}
use Rattle.step.specs.Denoted.{items_of, sets_of}
use Rattle.step.proofs.ArrayLaws.{records_none}
use Rattle.monitor.specs.Again.{afresh, GoesOnAgain}

pub goes_on_again : GoesOnAgain
goes_on_again rows a h budget e p t r went trace = (
  record {
    sound = went.holds.sound;
    words_long = went.holds.words_long;
    entries_long = went.holds.entries_long;
    pile_long = went.holds.pile_long;
    named = went.holds.named;
    bounds = went.holds.bounds;
    written = omega arith;
  },
  ap
      (λ (k : List Record). state (items_of rows e r.held.pending) r.memory.words r.held.marks (sets_of p r.held.pile) (record { records = k; steps = 0 }))
      (records_none trace)
      ∙ sym (ap (λ (o : Outcome). afresh o.state) went.ran),
)
