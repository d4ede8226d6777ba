-- `table::judge` meets its contract: the first refusal that is given decides.
use Prim.Native.Nat.{ℕ, ◌/◌, ◌≤◌}
use native.Mathlib.Omega.{arith}
use mathlib.Core.List.{List}
use mathlib.Core.Bool.{false}
use mathlib.Core.Path.{◌≡◌, refl, sym, ap, ◌∙◌}
use lib.ListN.{length}
use Rattle.std.proofs.lemmas.Result.{err_from_is_err_and}
use Rattle.rules.specs.declared.Row.{Row}
use Rattle.rules.specs.Judged.{Judged}
use Rattle.rules.specs.Rows.{rows_of}
use Rattle.rules.specs.Answers.{said_of_judge, judgement}
use Rattle.table.specs.Refused.{refused_words, refused_children, refused_parents, refused_depths}
use Rattle.rules.specs.Judging.{wrong_count, or_else}
use Rattle.rules.proofs.JudgeLaws.{rows_length, right_count, judge_count, judge_first}
use Rattle.rules.proofs.AnswerLaws.{judged_said}
use Rattle.table.proofs.judge.Goals as goal

-- where refusal 1 does not apply, the rows are counted
counted : (words : List ℕ) → wrong_count words ≡ false
    → (length words / 4 ≤ 512) × (length words / 4 ≡ length (rows_of words))
counted words right = (omega (arith, rows_length words, (right_count words right).2), sym (rows_length words))

-- the passes over these rows decide
decided :
    (words : List ℕ) (rows : List Row) (two three four five : Judged) → wrong_count words ≡ false → rows ≡ rows_of words
    → two ≡ refused_words rows → three ≡ refused_children rows → four ≡ refused_parents rows → five ≡ refused_depths rows
    → said_of_judge (or_else two (or_else three (or_else four five))) ≡ judgement words
decided words rows two three four five right same e₂ e₃ e₄ e₅ =
    judged_said words
    (judge_first words two three four five right (e₂ ∙ ap refused_words same) (e₃ ∙ ap refused_children same)
    (e₄ ∙ ap refused_parents same) (e₅ ∙ ap refused_depths same))

pub returns-then-wrong_count : goal.returns-then-wrong_count
returns-then-wrong_count c =
    let words = c.args.table.now in
    judged_said words (judge_count words (sym c.if-wrong_count.ensures))

pub overflow_cast-table : goal.overflow_cast-table
overflow_cast-table c = omega (arith, (counted c.args.table.now (sym c.if-wrong_count.ensures)).0)

pub new-counted-requires : goal.new-counted-requires
new-counted-requires c =
    let known = counted c.args.table.now (sym c.if-wrong_count.ensures) in
    record { counted = known.1; few = known.0 }

pub returns-in_err-judge_words : goal.returns-in_err-judge_words
unfolding or_else
returns-in_err-judge_words c =
    let p = err_from_is_err_and c.from_residual.result c.from_residual.ensures.1 in
    rw (p.1, p.2)
    (decided c.args.table.now _ _ _ _ _ (sym c.if-wrong_count.ensures) c.new-counted.ensures c.in_err-judge_words.ensures refl refl refl)

pub returns-in_err-judge_children : goal.returns-in_err-judge_children
unfolding or_else
returns-in_err-judge_children c =
    let p = err_from_is_err_and c.from_residual-in_err-judge_children.result c.from_residual-in_err-judge_children.ensures.1 in
    rw (p.1, p.2)
    (decided c.args.table.now _ _ _ _ _ (sym c.if-wrong_count.ensures) c.new-counted.ensures c.in_ok-judge_words.ensures c.in_err-judge_children.ensures refl refl)

pub returns-in_err-judge_parents : goal.returns-in_err-judge_parents
unfolding or_else
returns-in_err-judge_parents c =
    let p = err_from_is_err_and c.from_residual-in_err-judge_parents.result c.from_residual-in_err-judge_parents.ensures.1 in
    rw (p.1, p.2)
    (decided c.args.table.now _ _ _ _ _ (sym c.if-wrong_count.ensures) c.new-counted.ensures c.in_ok-judge_words.ensures c.in_ok-judge_children.ensures c.in_err-judge_parents.ensures refl)

pub judge_depths-requires : goal.judge_depths-requires
judge_depths-requires c = (sym c.in_ok-judge_words.ensures, sym c.in_ok-judge_children.ensures)

pub returns : goal.returns
unfolding or_else
returns c =
    decided c.args.table.now _ _ _ _ _ (sym c.if-wrong_count.ensures) c.new-counted.ensures c.in_ok-judge_words.ensures
    c.in_ok-judge_children.ensures c.in_ok-judge_parents.ensures c.judge_depths.ensures
