-- `leaves::marks::mark_as` meets its contract.
use Rattle.std.proofs.Common.{ℕ, ◌-◌, ◌%◌, ◌^◌, Bool, sym, ap, ◌∙◌, arith}
use lib.Bits.{bit_and, bit_or}
use Rattle.rules.specs.Limits.{width}
use Rattle.rules.specs.Marks.{put}
use Rattle.rules.proofs.MarkLaws.{put_true, put_false, only_power}
use Rattle.leaves.proofs.marks.mark_as.Goals as goal

pub returns-then-bit : goal.returns-then-bit
returns-then-bit c =
    let m = c.args.marks in
    let i = c.args.variable % width in
    ap (bit_or m) (c.only_mark.ensures ∙ only_power i) ∙ sym (put_true m i) ∙ ap (λ (b : Bool). put i b m) (sym c.if-bit.true)

pub returns-else-bit : goal.returns-else-bit
returns-else-bit c =
    let m = c.args.marks in
    let i = c.args.variable % width in
    ap (λ (n : ℕ). bit_and m ((2 ^ width - 1) - n)) (c.only_mark-else-bit.ensures ∙ only_power i)
    ∙ sym (put_false width m i (omega arith) (omega arith))
    ∙ ap (λ (b : Bool). put i b m) (sym c.if-bit.false)
