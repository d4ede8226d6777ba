-- `monitor::run` meets its contract.
use native.Mathlib.Omega.{arith}
use borrow.Author.Rules.{rules}
use Rattle.rules.specs.declared.Fault.{Fault}
use Rattle.rules.proofs.AnswerLaws.{judged_as, judged_ok, answer_refused, answer_oversized}
use Rattle.rules.specs.Answers.{inputs}
use Rattle.monitor.proofs.CallLaws.{run_told, away_told}
use Rattle.monitor.proofs.run.Goals as goal

pub returns-in-Err : goal.returns-in-Err
returns-in-Err c =
    let a = c.args in
    let i = inputs a.table.now a.memory.words a.marks a.budget a.trace.now in
    away_told i c.in-Err.refusal (answer_refused i _ _ (judged_as a.table.now c.judge.ensures c.in-Err.is))
    c.turned_away.result c.turned_away.ensures

pub returns-then-trace-gt-MOST_TRACE_WORDS : goal.returns-then-trace-gt-MOST_TRACE_WORDS
returns-then-trace-gt-MOST_TRACE_WORDS c =
    let a = c.args in
    let i = inputs a.table.now a.memory.words a.marks a.budget a.trace.now in
    away_told i (record { fault = Fault.LongTrace; row = 0 }) (answer_oversized i (judged_ok a.table.now c.judge.ensures (search rules)) c.if-trace-gt-MOST_TRACE_WORDS.true)
    c.turned_away-then-trace-gt-MOST_TRACE_WORDS.result c.turned_away-then-trace-gt-MOST_TRACE_WORDS.ensures

pub run_accepted-requires : goal.run_accepted-requires
run_accepted-requires c =
    (judged_ok c.args.table.now c.judge.ensures (search rules), omega (arith, c.if-trace-gt-MOST_TRACE_WORDS.false))

pub returns : goal.returns
returns c =
    let a = c.args in
    let i = inputs a.table.now a.memory.words a.marks a.budget a.trace.now in
    run_told i (judged_ok a.table.now c.judge.ensures (search rules)) c.if-trace-gt-MOST_TRACE_WORDS.false _ _
    c.run_accepted.ensures
