-- `expression::assigned::assigned_at` meets its contract: refused as judged, none for a row that is not there, else what `may_assign` finds.
use Prim.Native.Nat.{◌<◌}
use mathlib.Core.Path.{refl, sym, ap, ap₂, ◌∙◌}
use Rattle.std.proofs.lemmas.Result.{err_from_is_err_and}
use native.Mathlib.Omega.{arith}
use lib.ListN.{length}
use borrow.Author.Rules.{rules}
use borrow.Author.Tests.{ltb-true, ltb-false}
use Rattle.rules.specs.Rows.{rows_of}
use Rattle.rules.specs.Values.{may_assign}
use Rattle.rules.proofs.JudgeLaws.{accepted_sound}
use Rattle.rules.proofs.AnswerLaws.{judged_as, judged_ok}
use Rattle.rules.proofs.TreeLaws.{stmt_absent}
use Rattle.rules.proofs.ValueLaws.{may_skip}
use Rattle.expression.specs.Assigned.{variables_or}
use Rattle.expression.proofs.assigned.assigned_at.Goals as goal

pub returns-in_err-judge : goal.returns-in_err-judge
returns-in_err-judge c =
    let p = err_from_is_err_and c.from_residual.result c.from_residual.ensures.1 in
    rw (p.1, p.2) (sym (ap₂ variables_or (judged_as c.args.table.now c.judge.ensures c.in_err-judge.was) refl))

pub returns-then-not-has_row : goal.returns-then-not-has_row
returns-then-not-has_row c =
    let a = c.args in
    sym
    (ap₂ variables_or (judged_ok c.args.table.now c.judge.ensures (search rules))
    (ap may_assign (stmt_absent (rows_of a.table.now) a.row (ltb-false _ _ (sym c.has_row.ensures ∙ c.if-not-has_row.true))) ∙ may_skip))

pub may_assign-requires : goal.may_assign-requires
may_assign-requires c =
    let a = c.args in
    let known : a.row < length (rows_of a.table.now) = ltb-true _ _ (sym c.has_row.ensures ∙ c.if-not-has_row.false) in
    (accepted_sound a.table.now (judged_ok c.args.table.now c.judge.ensures (search rules)), omega (arith, known))

pub returns : goal.returns
returns c = sym (ap₂ variables_or (judged_ok c.args.table.now c.judge.ensures (search rules)) (sym c.may_assign.ensures))
