-- `spans::word_at` meets its contract. Assumes nothing.
use Rattle.std.proofs.Common.{rules, ◌≡◌, ℕ, length, subst, arith}
use Rattle.spans.specs.Cut.{Cut}
use Rattle.spans.proofs.WordLaws.{cut_end, cut_begun}
use Rattle.spans.proofs.word_at.Goals as goal

pub word_from-requires : goal.word_from-requires
word_from-requires c = (search rules, c.start_at-start.ensures.shown c.if-start-text.true)

pub returns-then-start-text : goal.returns-then-start-text
returns-then-start-text c = cut_begun c.start_at-start.ensures c.word_from.ensures

pub returns-else-start-text : goal.returns-else-start-text
returns-else-start-text c =
    let text = c.args.text.now in
    let start = c.start_at-start.result in
    let ends : length text ≡ start = omega (arith, c.start_at-start.ensures.inside) in
    cut_begun c.start_at-start.ensures (subst (λ (n : ℕ). Cut text start (record { start = n; end = n })) ends (cut_end text start c.if-start-text.false))
