-- `table::parents::judge_parents` meets its contract.
use Prim.Native.Nat.{ℕ}
use native.Mathlib.Omega.{arith}
use lib.ListN.{get_or, replicate, get_or-replicate}
use Rattle.rules.specs.Limits.{most_rows}
use mathlib.Core.Path.{◌≡◌, ap, ◌∙◌}
use Rattle.rules.specs.declared.Fault.{Fault}
use Rattle.rules.specs.Judging.{children, wrong_parents, lowest}
use Rattle.table.proofs.LowestLaws.{searched}
use Rattle.table.proofs.parents.judge_parents.Goals as goal

pub refuse_lowest-requires : goal.refuse_lowest-requires
refuse_lowest-requires c =
    let rows = c.rows.ensures in
    λ row below. (
      omega (arith, rows.counted),
      omega (arith, rows.counted, rows.few),
      let none : ◌≡◌ {A = ℕ} (get_or (replicate most_rows 0) row 0) 0 = get_or-replicate most_rows row 0 0 (omega (arith, rows.few)) in
          omega (arith, c.count_parents.ensures.each row (omega (arith, rows.few))),
    )

pub returns : goal.returns
returns c =
    let applies = wrong_parents c.args.table.now (children c.args.table.now) in
    searched Fault.WrongParents applies c.rows.result c.refuse_lowest.result c.refuse_lowest.ensures.passed c.refuse_lowest.ensures.refused
    ∙ ap (lowest 4 applies 0) c.rows.ensures.counted
