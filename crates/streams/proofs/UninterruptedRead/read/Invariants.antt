-- `read` of `Uninterrupted` meets its contract: a call that was interrupted took no byte from the stream.
use Rattle.std.specs.Io.KnownBytes.{Keeps}
use Rattle.streams.proofs.UninterruptedRead.read.Given as goal

abbrev pub invariant-loop : goal.invariant-loop
invariant-loop g l = Keeps (g.R.Read.remaining l.fn.self.0) (g.R.Read.remaining l.self.0)
