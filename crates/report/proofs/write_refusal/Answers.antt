-- `report::write_refusal` meets its contract. Assumes nothing.
use mathlib.Core.Path.{sym}
use Rattle.report.specs.Reports.{refusal_text}
use Rattle.report.specs.Written.{most_refusal, refusal_written}
use Rattle.report.proofs.ReportLaws.{puts_refusal, written_short, written_whole}
use Rattle.report.proofs.write_refusal.Goals as goal

pub returns-then-out-lt-REFUSAL_BYTES : goal.returns-then-out-lt-REFUSAL_BYTES
unfolding refusal_written
returns-then-out-lt-REFUSAL_BYTES c =
    let args = c.args in
    written_short most_refusal (refusal_text args.number args.at) args.out.now c.if-out-lt-REFUSAL_BYTES.true

pub returns : goal.returns
unfolding refusal_written
returns c =
    let args = c.args in
    let puts = puts_refusal args.number args.at c.line.ensures c.line-2.ensures in
    rw (c.out-1.given.1.1 (sym puts.same))
    (written_whole most_refusal (refusal_text args.number args.at) args.out.now _ _ c.if-out-lt-REFUSAL_BYTES.false puts.placed)
