-- `expression::values::value_at` meets its contract: refused as judged, the constant 0 for a row that is not there, else what `evaluate` finds.
use Prim.Native.Nat.{◌<◌}
use mathlib.Core.Path.{refl, sym, ap, ap₂, ◌∙◌}
use lib.ListN.{length}
use Rattle.std.proofs.lemmas.Result.{err_from_is_err_and}
use native.Mathlib.Omega.{arith}
use borrow.Author.Tests.{ltb-true, ltb-false}
use Rattle.rules.specs.Rows.{rows_of}
use Rattle.rules.proofs.JudgeLaws.{accepted_sound}
use Rattle.rules.proofs.AnswerLaws.{judged_as, judged_ok}
use Rattle.rules.proofs.TreeLaws.{expr_absent}
use Rattle.expression.specs.Valued.{valued_of, found_or}
use Rattle.expression.proofs.ValuedLaws.{valued_constant}
use borrow.Author.Rules.{rules}
use Rattle.expression.proofs.values.value_at.Goals as goal

pub returns-in_err-judge : goal.returns-in_err-judge
returns-in_err-judge c =
    let p = err_from_is_err_and c.from_residual.result c.from_residual.ensures.1 in
    rw (p.1, p.2) (sym (ap₂ found_or (judged_as c.args.table.now c.judge.ensures c.in_err-judge.was) refl))

pub returns-then-not-has_row : goal.returns-then-not-has_row
returns-then-not-has_row c =
    let a = c.args in
    sym
    (ap₂ found_or (judged_ok c.args.table.now c.judge.ensures (search rules))
    (ap (valued_of a.memory.words a.marks) (expr_absent (rows_of a.table.now) a.row (ltb-false _ _ (sym c.has_row.ensures ∙ c.if-not-has_row.true)))
    ∙ sym (valued_constant a.memory.words a.marks 0)))

pub evaluate-requires : goal.evaluate-requires
evaluate-requires c =
    let known : c.args.row < length (rows_of c.args.table.now) = ltb-true _ _ (sym c.has_row.ensures ∙ c.if-not-has_row.false) in
    (accepted_sound c.args.table.now (judged_ok c.args.table.now c.judge.ensures (search rules)), omega (arith, known))

pub returns : goal.returns
returns c = sym (ap₂ found_or (judged_ok c.args.table.now c.judge.ensures (search rules)) (sym c.evaluate.ensures))
