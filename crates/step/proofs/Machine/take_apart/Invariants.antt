use mathlib.Core.Path.{◌≡◌}
use Rattle.rules.specs.Rows.{rows_of}
use Rattle.step.specs.declared.Machine.{Machine}
use Rattle.step.specs.Turns.{Apart, Found}
use Rattle.step.proofs.Machine.take_apart.Given as goal

abbrev pub invariant-loop-row : goal.invariant-loop-row
invariant-loop-row l = record {
  apart : Apart (rows_of l.table) l.initial.self.pending.items l.initial.self.pending.len l.self.pending.items l.self.pending.len;
  found : Found (rows_of l.table) l.self.pending.items l.self.pending.len l.at l.row;
  rest : ◌≡◌ {A = Machine} l.self (record l.initial.self { pending = l.self.pending });
}

abbrev pub decreases-loop-row : goal.decreases-loop-row
decreases-loop-row l = l.at
