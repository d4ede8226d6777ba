-- `leaves::marks::has_mark` meets its contract.
use Rattle.std.proofs.Common.{ℕ, ◌%◌, not, eqb, sym, ap, ◌∙◌}
use lib.Bits.{bit_and}
use Rattle.rules.specs.Limits.{width}
use Rattle.rules.proofs.MarkLaws.{has_bit, only_power}
use Rattle.leaves.proofs.marks.has_mark.Goals as goal

pub returns : goal.returns
returns c =
    let m = c.args.marks in
    let i = c.args.variable % width in
    ap (λ (n : ℕ). not (eqb (bit_and m n) 0)) (c.only_mark.ensures ∙ only_power i) ∙ sym (has_bit m i)
