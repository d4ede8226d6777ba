-- `expression::values::pack` meets its contract.
use Rattle.expression.proofs.ValuedLaws.{valued_in_lem}
use borrow.Author.Rules.{rules}
use Rattle.expression.proofs.values.pack.Goals as goal

pub returns : goal.returns
returns c = rw (c.from.ensures, c.from-2.ensures) (valued_in_lem c.args.value c.args.level (search rules))
