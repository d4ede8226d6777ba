-- `expression::values::evaluate` meets its contract.
use mathlib.Core.Path.{◌∙◌}
use Rattle.expression.proofs.values.evaluate.Goals as goal

pub returns : goal.returns
returns c = c.unpack.ensures ∙ rw c.new.ensures at c.evaluate_lent.ensures
