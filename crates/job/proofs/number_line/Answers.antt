-- `job::number_line` meets its contract. Assumes nothing.
use mathlib.Core.List.{[], ◌∷◌}
use mathlib.Core.Path.{◌∙◌}
use lib.ListN.{drop}
use Rattle.lines.proofs.LineLaws.{line_none, line_number, end_absent, end_within, end_over, range_none, range_within, range_over}
use Rattle.numbers.proofs.ErrLaws.{handed_on}
use Rattle.job.proofs.number_line.Goals as goal

pub returns-in_err-read : goal.returns-in_err-read
returns-in_err-read c =
    let fault = c.in_err-read.ensures in
    rw (handed_on _ c.from_residual.ensures.1, fault.0)
    (line_none c.args.key.now c.args.most (drop c.args.at c.args.text.now) fault.1)

pub returns-in_err-next : goal.returns-in_err-next
returns-in_err-next c =
    let fault = c.in_err-next.ensures in
    let text = c.args.text.now in
    let read = c.in_ok-read.read in
    rw (handed_on _ c.from_residual-in_err-next.ensures.1, fault.0)
    (end_absent c.args.most (read.value ∷ []) (drop read.next text) fault.1
    ∙ line_number c.args.key.now c.args.most (drop c.args.at text) (drop read.next text) read.value c.in_ok-read.ensures)

pub returns-in_err-value : goal.returns-in_err-value
returns-in_err-value c =
    let fault = c.in_err-value.ensures in
    let text = c.args.text.now in
    let read = c.in_ok-read.read in
    rw (handed_on _ c.from_residual-in_err-value.ensures.1, fault.0)
    (end_over c.args.most (read.value ∷ []) (drop read.next text) (drop c.in_ok-next.next text) c.in_ok-next.ensures
    (range_over c.args.most read.value [] [] fault.1)
    ∙ line_number c.args.key.now c.args.most (drop c.args.at text) (drop read.next text) read.value c.in_ok-read.ensures)

pub returns : goal.returns
returns c =
    let word = c.in_ok-value.ensures in
    let text = c.args.text.now in
    let read = c.in_ok-read.read in
    rw word.0
    (end_within c.args.most (read.value ∷ []) (drop read.next text) (drop c.in_ok-next.next text) c.in_ok-next.ensures
    (range_within c.args.most read.value [] word.1 (range_none c.args.most))
    ∙ line_number c.args.key.now c.args.most (drop c.args.at text) (drop read.next text) read.value c.in_ok-read.ensures)
