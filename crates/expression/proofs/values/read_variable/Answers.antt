-- `expression::values::read_variable` meets its contract.
use Prim.Native.Nat.{◌%◌}
use mathlib.Core.Path.{ap, ◌∙◌}
use lib.Bits.{bit_and}
use Rattle.rules.specs.Limits.{width}
use Rattle.expression.proofs.ValuedLaws.{valued_variable}
use Rattle.expression.proofs.values.read_variable.Goals as goal

pub returns : goal.returns
returns c =
    c.pack.ensures
    ∙ valued_variable c.args.words.now c.args.marks (c.args.v % width) c.read_lent.ensures
    (ap (bit_and c.args.marks) c.only_mark.ensures)
