-- `report::Writer::values` meets its contract. Assumes nothing.
use Prim.Native.Nat.{◌-◌}
use native.Mathlib.Omega.{arith}
use lib.ListN.{take, drop, length-drop}
use lib.Seq.{length-take-le}
use Rattle.rules.specs.Limits.{width}
use Rattle.lines.specs.Lines.{fields_text}
use Rattle.report.proofs.WriteLaws.{puts_none}
use Rattle.report.proofs.ReportLaws.{puts_value, puts_values}
use Rattle.report.proofs.Writer.values.Goals as goal

pub loop-value-init : goal.loop-value-init
unfolding fields_text
loop-value-init c = puts_none c.args.self.now

pub loop-value-preserved : goal.loop-value-preserved
loop-value-preserved c =
    puts_value (take (width - 1) (drop 1 c.args.values.now)) c.loop-value.value-index c.loop-value-test.true c.loop-value.invariant c.field.ensures

pub returns : goal.returns
returns c =
    let values = c.args.values.now in
    let after_first = length-drop 1 values in
    let all = length-take-le (width - 1) (drop 1 values) (omega (arith, after_first, c.told-values)) in
    puts_values values c.loop-value.value-index c.told-values (omega (arith, all)) c.loop-value.invariant
