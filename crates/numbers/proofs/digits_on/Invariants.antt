-- The loop's invariant: the digits that are left go on from the value so far as all of them do from the first value.
use Prim.Native.Nat.{◌≤◌}
use mathlib.Core.Path.{◌≡◌}
use lib.ListN.{drop}
use Rattle.lines.specs.Numbers.{beyond, digits_on}
use Rattle.numbers.proofs.digits_on.Given as goal

abbrev pub invariant-loop-next : goal.invariant-loop-next
invariant-loop-next l = (l.value ≤ beyond) × (digits_on (drop l.next l.text) l.value ≡ digits_on (drop l.at l.text) l.first)
