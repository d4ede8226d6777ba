-- `spans::word_from` meets its contract. Assumes nothing.
use mathlib.Core.Path.{sym, ◌∙◌}
use Rattle.spans.proofs.WordLaws.{cut_run, cut_one}
use Rattle.spans.proofs.word_from.Goals as goal

pub returns-then-is_joining : goal.returns-then-is_joining
returns-then-is_joining c =
    let args = c.args in
    cut_run args.text.now args.start c.joined_to-end.result (sym c.is_joining.ensures ∙ c.if-is_joining.true)
    c.joined_to-end.ensures

pub returns-else-is_joining : goal.returns-else-is_joining
returns-else-is_joining c =
    let args = c.args in
    let pre = c.requires in
    cut_one args.text.now args.start pre.0 pre.1 (sym c.is_joining.ensures ∙ c.if-is_joining.false)
