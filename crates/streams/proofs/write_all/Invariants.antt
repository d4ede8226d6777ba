-- `streams::write_all` meets its contract. What was written is the buffer's front, and is what the stream has gained; the measure is
-- what is left of the buffer.
use Rattle.std.proofs.Common.{length, take, ◌-◌, ◌≤◌}
use Rattle.std.specs.Io.KnownBytes.{Appends}
use Rattle.streams.proofs.write_all.Given as goal

abbrev pub invariant-loop-taken : goal.invariant-loop-taken
invariant-loop-taken g l = record {
  within : l.taken ≤ length l.buf;
  bytes : Appends (g.W.Write.contents l.fn.to) (g.W.Write.contents l.to) (take l.taken l.buf);
}

abbrev pub decreases-loop-taken : goal.decreases-loop-taken
decreases-loop-taken g l = length l.buf - l.taken
