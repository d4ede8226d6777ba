-- `reader::expressions::go_on` meets its contract. Assumes nothing.
use Prim.Native.Nat.{ℕ, ◌-◌}
use native.Mathlib.Omega.{arith}
use mathlib.Core.Path.{refl, ap₂, ◌∙◌}
use Rattle.reader.specs.Rows.{row_put}
use Rattle.reader.proofs.ErrLaws.{err_missing}
use Rattle.reader.proofs.TurnLaws.{over_sign, over_unsigned, over_closing, over_unclosed}
use Rattle.reader.proofs.expressions.go_on.Goals as goal

pub returns-in_err-sign : goal.returns-in_err-sign
returns-in_err-sign c =
    rw (err_missing _ _ c.from_residual.ensures.1 c.in_err-sign.ensures.ok_part c.in_err-sign.ensures.value)
    (over_unsigned c.requires.0 c.start_at-start.ensures c.requires.1 c.requires.2 c.if-entry-eq0.true c.sign_at.ensures c.in_err-sign.ensures.ok_part)

pub returns-then-entry-eq0 : goal.returns-then-entry-eq0
returns-then-entry-eq0 c =
    over_sign c.requires.0 c.start_at-start.ensures c.requires.1 c.requires.2 (omega arith)
    c.if-entry-eq0.true c.sign_at.ensures c.in_ok-sign.ensures.ok_part c.entry_of.ensures

pub is_word-requires : goal.is_word-requires
is_word-requires c = c.start_at-start.ensures.inside

pub returns-then-not-is_word : goal.returns-then-not-is_word
returns-then-not-is_word c =
    over_unclosed c.requires.0 c.start_at-start.ensures c.requires.1 c.requires.2
    c.if-entry-eq0.false c.is_word.ensures.0 (c.if-not-is_word.true)

pub returns : goal.returns
returns c =
    let count = c.args.s.count in
    over_closing c.requires.0 c.start_at-start.ensures c.requires.1 c.requires.2
    (c.put_row.ensures ∙ ap₂ (λ (a b : ℕ). row_put count (10, a, b, count - 1) c.args.arrays.now.rows) c.sign_in.ensures c.row_in.ensures)
    refl c.if-entry-eq0.false c.is_word.ensures.0 (c.if-not-is_word.false)
