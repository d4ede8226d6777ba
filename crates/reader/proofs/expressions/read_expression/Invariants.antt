-- The loop's invariant: the expression is read as far as the state says. The measure is what is left of the text.
use Prim.Native.Nat.{◌-◌}
use lib.ListN.{length}
use Rattle.reader.specs.Frames.{Ready, Reached}
use Rattle.reader.proofs.expressions.read_expression.Given as goal

abbrev pub invariant-loop-s : goal.invariant-loop-s
invariant-loop-s l =
    Ready l.text l.s × Reached l.text l.fn.from.at l.fn.from.count l.initial.arrays.rows l.s l.arrays.rows l.arrays.held

abbrev pub decreases-loop-s : goal.decreases-loop-s
decreases-loop-s l = length l.text - l.s.at
