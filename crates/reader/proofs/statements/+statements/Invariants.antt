-- the text that remains falls; a block is read by a statement's reading at the same place
use Prim.Native.Nat.{◌+◌, ◌*◌, ◌-◌}
use lib.ListN.{length}
use Rattle.reader.proofs.statements.+statements.Given as goal

abbrev pub decreases-read_block : goal.decreases-read_block
decreases-read_block l = 2 * (length l.text.now - l.from.at) + 1

abbrev pub decreases-read_if : goal.decreases-read_if
decreases-read_if l = 2 * (length l.text.now - l.from.at)

abbrev pub decreases-read_statement : goal.decreases-read_statement
decreases-read_statement l = 2 * (length l.text.now - l.from.at)

abbrev pub decreases-read_while : goal.decreases-read_while
decreases-read_while l = 2 * (length l.text.now - l.from.at)
