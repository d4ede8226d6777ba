-- `table::children::judge_children` meets its contract.
use Prim.Native.Nat.{ℕ}
use mathlib.Core.Path.{ap, ◌∙◌}
use Rattle.rules.specs.declared.Fault.{Fault}
use Rattle.rules.specs.Rows.{row_at}
use Rattle.rules.specs.Judging.{wrong_children, lowest}
use Rattle.table.proofs.LowestLaws.{searched}
use Rattle.table.proofs.children.judge_children.Goals as goal

pub returns : goal.returns
returns c =
    let applies = λ (row : ℕ). wrong_children c.args.table.now row (row_at c.args.table.now row) in
    searched Fault.WrongChild applies c.rows.result c.refuse_lowest.result c.refuse_lowest.ensures.passed c.refuse_lowest.ensures.refused
    ∙ ap (lowest 3 applies 0) c.rows.ensures.counted
