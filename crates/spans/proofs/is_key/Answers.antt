-- `spans::is_key` meets its contract. Assumes nothing.
use native.Mathlib.Omega.{arith}
use mathlib.Core.Path.{refl, ◌∙◌}
use Rattle.spans.proofs.WordLaws.{same_again, same_differs, same_end, same_lengths}
use Rattle.spans.proofs.is_key.Goals as goal

pub returns-then-word-key : goal.returns-then-word-key
returns-then-word-key c = same_lengths c.args.key.now c.args.word.now (λ e. omega arith)

pub loop-i-init : goal.loop-i-init
loop-i-init c = refl

pub returns-then-key-i : goal.returns-then-key-i
returns-then-key-i c =
    let args = c.args in
    same_differs args.key.now args.word.now c.loop-i.i (omega arith) (omega arith) (λ e. omega arith) ∙ c.loop-i.invariant

pub loop-i-preserved : goal.loop-i-preserved
loop-i-preserved c =
    let args = c.args in
    same_again args.key.now args.word.now c.loop-i.i (omega arith) (omega arith) c.if-key-i.false ∙ c.loop-i.invariant

pub returns : goal.returns
returns c =
    let args = c.args in
    same_end args.key.now args.word.now c.loop-i.i (omega arith) (omega arith) ∙ c.loop-i.invariant
