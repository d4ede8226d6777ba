-- `table::words::judge_words` meets its contract.
use Prim.Native.Nat.{ℕ}
use mathlib.Core.Path.{ap, ◌∙◌}
use Rattle.rules.specs.declared.Fault.{Fault}
use Rattle.rules.specs.Rows.{row_at}
use Rattle.rules.specs.Judging.{wrong_words, lowest}
use Rattle.table.proofs.LowestLaws.{searched}
use Rattle.table.proofs.words.judge_words.Goals as goal

pub returns : goal.returns
returns c =
    let applies = λ (row : ℕ). wrong_words (row_at c.args.table.now row) in
    searched Fault.WrongWord applies c.rows.result c.refuse_lowest.result c.refuse_lowest.ensures.passed c.refuse_lowest.ensures.refused
    ∙ ap (lowest 2 applies 0) c.rows.ensures.counted
