-- `reader::expressions::read_expression` meets its contract. Assumes nothing.
use native.Mathlib.Omega.{arith}
use mathlib.Core.Bool.{true≢false}
use mathlib.Core.Logic.{inl, inr}
use mathlib.Core.Path.{sym, ◌∙◌}
use Rattle.numbers.proofs.ErrLaws.{handed_on}
use Rattle.reader.proofs.TurnLaws.{at_first, read_over}
use Rattle.reader.proofs.expressions.read_expression.Goals as goal

pub loop-s-init : goal.loop-s-init
loop-s-init c = at_first c.args.text.now c.args.from c.args.arrays.now.rows c.args.arrays.now.held c.requires

pub read_word-requires : goal.read_word-requires
read_word-requires c = (
  c.loop-s.invariant.0,
  λ whole. elim c.if-not-s.either [ inl inner ↦ inner.1 | inr begins ↦ absurd (true≢false (sym whole ∙ begins)) ],
)

pub returns-in_err-s : goal.returns-in_err-s
returns-in_err-s c =
    let faulty = c.in_err-s.ensures in
    rw (handed_on _ c.from_residual.ensures.1, faulty.0)
    (faulty.1 c.args.from.at c.args.from.count c.args.arrays.now.rows c.loop-s.invariant.1)

pub loop-s-smaller : goal.loop-s-smaller
loop-s-smaller c =
    let went = c.in_ok-s.ensures in
    omega (arith, went.0, went.1.inside)

pub loop-s-preserved : goal.loop-s-preserved
loop-s-preserved c =
    let went = c.in_ok-s.ensures in
    (went.1, went.2 c.args.from.at c.args.from.count c.args.arrays.now.rows c.loop-s.invariant.1)

pub returns : goal.returns
returns c =
    let inv = c.loop-s.invariant in
    read_over inv.0 inv.1 c.if-not-s.false.0 c.if-not-s.false.1
