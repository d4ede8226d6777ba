-- `write` of `Uninterrupted` meets its contract: a call that was interrupted gave the stream no byte.
use Rattle.std.specs.Io.KnownBytes.{Keeps}
use Rattle.streams.proofs.UninterruptedWrite.write.Given as goal

abbrev pub invariant-loop : goal.invariant-loop
invariant-loop g l = Keeps (g.W.Write.contents l.fn.self.0) (g.W.Write.contents l.self.0)
