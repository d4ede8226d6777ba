-- `leaves::marks::joined` meets its contract.
use Rattle.std.proofs.Common.{sym}
use Rattle.rules.proofs.MarkLaws.{union_or}
use Rattle.leaves.proofs.marks.joined.Goals as goal

pub returns : goal.returns
returns c = sym (union_or c.args.a c.args.b)
