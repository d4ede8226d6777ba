-- `levels::check` meets its contract: refused as judged, else what the walk over the whole recipe finds.
use native.Mathlib.Omega.{arith}
use borrow.Author.Rules.{rules}
use mathlib.Core.Path.{sym}
use Rattle.rules.proofs.AnswerLaws.{judged_as, judged_ok, advice_refused}
use Rattle.rules.proofs.JudgeLaws.{accepted_sound}
use Rattle.levels.proofs.AdviceLaws.{some_rows, few_rows, last_within, advice_found}
use Rattle.levels.proofs.check.Goals as goal

pub returns-in-Err : goal.returns-in-Err
returns-in-Err c =
    let a = c.args in
    sym (advice_refused a.table.now a.marks _ _ (judged_as a.table.now c.judge.ensures c.in-Err.is))

pub overflow_sub-last : goal.overflow_sub-last
overflow_sub-last c = some_rows c.args.table.now (judged_ok c.args.table.now c.judge.ensures (search rules))

pub overflow_cast-last : goal.overflow_cast-last
overflow_cast-last c =
    record { fits = omega (arith, few_rows c.args.table.now (judged_ok c.args.table.now c.judge.ensures (search rules))) }

pub new-requires : goal.new-requires
new-requires c = accepted_sound c.args.table.now (judged_ok c.args.table.now c.judge.ensures (search rules))

pub walk-found-requires : goal.walk-found-requires
walk-found-requires c =
    let table = c.args.table.now in
    rw c.new.ensures (last_within table (judged_ok table c.judge.ensures (search rules)))

pub returns : goal.returns
returns c =
    let a = c.args in
    advice_found a.table.now (judged_ok c.args.table.now c.judge.ensures (search rules)) a.marks (rw c.new.ensures at c.walk-found.ensures) c.checked_at.ensures
