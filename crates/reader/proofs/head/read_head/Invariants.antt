-- The loop's invariant: these declarations stand at the front of the text. The measure is what is left of the text.
use Prim.Native.Nat.{◌-◌}
use lib.ListN.{length}
use Rattle.reader.specs.Heads.{Declarations}
use Rattle.reader.proofs.head.read_head.Given as goal

abbrev pub invariant-loop-next : goal.invariant-loop-next
invariant-loop-next l = Declarations l.text l.s

abbrev pub decreases-loop-next : goal.decreases-loop-next
decreases-loop-next l = length l.text - l.s.at
