-- `report::write_run` meets its contract. Assumes nothing.
use mathlib.Core.Path.{sym, ◌∙◌}
use Rattle.report.specs.Reports.{run_text}
use Rattle.report.specs.Written.{most_run, whole_of}
use Rattle.report.proofs.ReportLaws.{written_short, written_whole, run_lacking, run_counted}
use Rattle.report.proofs.write_run.Goals as goal

pub returns-then-trace-records : goal.returns-then-trace-records
returns-then-trace-records c =
    let args = c.args in
    let text = run_text args.verdict.number args.verdict.place args.verdict.because (whole_of args.answer args.trace.now) in
    run_lacking args.answer.records text args.trace.now args.out.now c.if-trace-records.true

pub returns-then-out-records : goal.returns-then-out-records
returns-then-out-records c =
    let args = c.args in
    let text = run_text args.verdict.number args.verdict.place args.verdict.because (whole_of args.answer args.trace.now) in
    written_short (most_run args.answer.records) text args.out.now c.if-out-records.true
    ∙ run_counted args.answer.records text args.trace.now args.out.now c.if-trace-records.false

pub returns : goal.returns
returns c =
    let args = c.args in
    let text = run_text args.verdict.number args.verdict.place args.verdict.because (whole_of args.answer args.trace.now) in
    rw (c.out-1.given.1.1 (sym c.run.ensures.same))
    (written_whole (most_run args.answer.records) text args.out.now _ _ c.if-out-records.false c.run.ensures.placed
    ∙ run_counted args.answer.records text args.trace.now args.out.now c.if-trace-records.false)
