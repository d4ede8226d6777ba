-- `reader::expressions::begin` meets its contract. Assumes nothing.
use native.Mathlib.Omega.{arith}
use Rattle.reader.proofs.ErrLaws.{err_missing}
use Rattle.reader.proofs.TurnLaws.{begun_opening, begun_variable, begun_constant, begun_nothing}
use Rattle.reader.proofs.expressions.begin.Goals as goal

pub is_word-requires : goal.is_word-requires
is_word-requires c = c.start_at-start.ensures.inside

pub overflow_add-result : goal.overflow_add-result
overflow_add-result c = omega (arith, c.is_word.ensures.1 c.if-is_word.true)

pub returns-then-is_word : goal.returns-then-is_word
returns-then-is_word c =
    begun_opening c.requires.0 c.start_at-start.ensures c.requires.1 (omega arith) c.is_word.ensures.0 c.if-is_word.true

pub returns-in-Some : goal.returns-in-Some
returns-in-Some c =
    begun_variable c.requires.0 c.start_at-start.ensures c.requires.1 c.variable_at.ensures c.in-Some.is c.put_row.ensures

pub returns-in_err-value : goal.returns-in_err-value
returns-in_err-value c =
    rw (err_missing _ _ c.from_residual.ensures.1 c.in_err-value.ensures.ok_part c.in_err-value.ensures.value)
    (begun_nothing c.requires.0 c.start_at-start.ensures c.requires.1 c.is_word.ensures.0 c.if-is_word.false
    c.variable_at.ensures c.in_default.is c.constant_at.ensures c.in_err-value.ensures.ok_part)

pub returns : goal.returns
returns c =
    begun_constant c.requires.0 c.start_at-start.ensures c.requires.1 c.constant_at.ensures c.in_ok-value.ensures.ok_part
    c.put_row-2.ensures
