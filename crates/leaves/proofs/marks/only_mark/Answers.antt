-- `leaves::marks::only_mark` meets its contract.
use Rattle.std.proofs.Common.{◌%◌, sym, ◌∙◌, arith}
use Rattle.rules.specs.Limits.{width}
use Rattle.rules.proofs.MarkLaws.{only_power, shift_one}
use Rattle.leaves.proofs.marks.only_mark.Goals as goal

pub returns : goal.returns
returns c =
    let i = c.args.variable % width in
    shift_one width i (omega arith) ∙ sym (only_power i)
