-- `reader::finish` meets its contract. Assumes nothing.
use native.Mathlib.Omega.{arith}
use Prim.Native.Nat.{◌*◌, ◌≤◌}
use mathlib.Core.Path.{refl, sym, ap, ◌∙◌}
use lib.ListN.{length, take}
use lib.Seq.{length-take-le}
use Rattle.rules.proofs.AnswerLaws.{judged_as, judged_ok}
use Rattle.leaves.proofs.CopyLaws.{copied_all}
use Rattle.language.specs.Limits.{declared_again}
use Rattle.language.specs.Readings.{refused}
use Rattle.reader.proofs.WholeLaws.{made_as, made_again, made_many, made_judged, made_short, made_laid, said_flaw}
use Rattle.reader.proofs.finish.Goals as goal

pub returns-in-Some : goal.returns-in-Some
returns-in-Some c =
    let a = c.args in
    made_as a.text.now a.s a.rows.now a.count a.table.now (ap (refused declared_again 0) c.from.ensures) refl
    (made_again a.text.now a.s a.rows.now a.count a.table.now c.in-Some.is)

pub returns-then-count-gt-MOST_ROWS : goal.returns-then-count-gt-MOST_ROWS
returns-then-count-gt-MOST_ROWS c =
    let a = c.args in
    made_as a.text.now a.s a.rows.now a.count a.table.now (said_flaw c.at_end.ensures) refl
    (made_many a.text.now a.s a.rows.now a.count a.table.now c.in_default.is c.if-count-gt-MOST_ROWS.true)

pub slice_bounds-judge-end : goal.slice_bounds-judge-end
slice_bounds-judge-end c =
    let a = c.args in
    let long = c.told-rows in
    sym (length-take-le (a.count * 4) a.rows.now (omega (arith, long, c.if-count-gt-MOST_ROWS.false)))

pub returns-in-Err : goal.returns-in-Err
returns-in-Err c =
    let a = c.args in
    let refusal = judged_as (take (a.count * 4) a.rows.now) c.judge.ensures c.in-Err.is in
    made_as a.text.now a.s a.rows.now a.count a.table.now (said_flaw c.at_end-in-Err.ensures) refl
    (made_judged a.text.now a.s a.rows.now a.count a.table.now _ _ c.in_default.is c.if-count-gt-MOST_ROWS.false refusal)

pub returns-then-table-words : goal.returns-then-table-words
returns-then-table-words c =
    let a = c.args in
    let accepted = judged_ok (take (a.count * 4) a.rows.now) c.judge.ensures c.in_default-judge.is in
    made_as a.text.now a.s a.rows.now a.count a.table.now (said_flaw c.at_end-then-table-words.ensures) refl
    (made_short a.text.now a.s a.rows.now a.count a.table.now c.in_default.is c.if-count-gt-MOST_ROWS.false accepted c.if-table-words.true)

pub returns : goal.returns
returns c =
    let a = c.args in
    let long = c.told-rows in
    let within : a.count * 4 ≤ length a.rows.now = omega (arith, long, c.if-count-gt-MOST_ROWS.false) in
    let accepted = judged_ok (take (a.count * 4) a.rows.now) c.judge.ensures c.in_default-judge.is in
    made_as a.text.now a.s a.rows.now a.count a.table.now refl
    (c.copy_words.ensures ∙ copied_all (a.count * 4) a.rows.now a.table.now within c.if-table-words.false)
    (made_laid a.text.now a.s a.rows.now a.count a.table.now c.in_default.is c.if-count-gt-MOST_ROWS.false accepted c.if-table-words.false)
