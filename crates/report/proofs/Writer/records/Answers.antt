-- `report::Writer::records` meets its contract. Assumes nothing.
use Prim.Native.Nat.{ℕ, ◌*◌}
use native.Mathlib.Omega.{arith}
use mathlib.Core.Path.{◌≡◌, ap}
use Rattle.report.specs.Reports.{records_text}
use Rattle.report.specs.Written.{most_record, records_of}
use Rattle.report.proofs.WriteLaws.{puts_none, puts_as}
use Rattle.report.proofs.ReportLaws.{first_records, puts_one_more}
use Rattle.report.proofs.Writer.records.Goals as goal

pub loop-i-init : goal.loop-i-init
unfolding records_text records_of
loop-i-init c = puts_none c.args.self.now

pub loop-i-preserved : goal.loop-i-preserved
loop-i-preserved c = puts_one_more c.args.trace.now c.loop-i.i (omega (arith, c.requires.0)) c.loop-i.invariant c.record.ensures

pub returns : goal.returns
returns c =
    let all : c.loop-i.i ≡ c.args.records = omega arith in
    puts_as (ap (first_records c.args.trace.now) all) (ap (λ (k : ℕ). most_record * k) all) c.loop-i.invariant
