-- `table::depths::judge_depths` meets its contract.
use Prim.Native.Nat.{ℕ, ◌-◌, ◌%◌, ◌<◌, ◌≤◌}
use native.Mathlib.Omega.{arith}
use mathlib.Core.List.{List}
use mathlib.Core.Path.{◌≡◌, sym, ap, ◌∙◌}
use lib.ListN.{length, get_or}
use Rattle.rules.specs.declared.Depth.{Depth}
use Rattle.rules.specs.Judged.{Judged}
use Rattle.rules.specs.declared.Row.{Row}
use Rattle.rules.specs.Limits.{most_rows}
use Rattle.rules.specs.Rows.{row_at}
use Rattle.rules.specs.Judging.{lowest}
use Rattle.rules.specs.OnePass.{depth_at, depth_by, over_limits}
use Rattle.rules.proofs.JudgeLaws.{lowest_step, lowest_found, lowest_end, fitting_rows}
use Rattle.rules.proofs.RefusalLaws.{within_limits, too_deep_law}
use Rattle.table.specs.Refused.{refused_words, refused_children}
use Rattle.table.proofs.DepthLaws.{flat, Kept, kept_none, kept_more, kept_depth}
use Rattle.table.proofs.depths.judge_depths.Goals as goal

-- the depth that a turn finds is the row's
next_depth :
    (rows : List Row) {depths : List Depth} {count i p q r : ℕ} {row : Row} {d : Depth} → (count ≤ most_rows) × (count ≡ length rows)
    → (refused_words rows ≡ Judged.Accepted) × (refused_children rows ≡ Judged.Accepted) → Kept rows depths i → i < count
    → row ≡ row_at rows i → p ≡ row.p % most_rows → q ≡ row.q % most_rows → r ≡ row.r % most_rows
    → d ≡ depth_by row.kind (get_or depths p flat) (get_or depths q flat) (get_or depths r flat) → d ≡ depth_at rows i
next_depth rows {depths} {i = i} counted accepted kept more read hp hq hr known =
    known
    ∙ kept_depth rows depths i _ _ _ _ (fitting_rows rows accepted.0 accepted.1) kept (omega (arith, counted.1)) (omega (arith, counted.0)) read hp hq hr

pub loop-i-init : goal.loop-i-init
loop-i-init c =
    let e : (length c.args.table.now) - 0 ≡ length c.args.table.now = omega (arith, c.rows-i-end.ensures.counted) in
    (omega arith, ap (lowest 5 _ 0) e, kept_none c.args.table.now)

pub offset_bounds-depths-place : goal.offset_bounds-depths-place
offset_bounds-depths-place c = omega (arith, c.place.ensures)

pub bounds-depths-place : goal.bounds-depths-place
bounds-depths-place c = omega (arith, c.place.ensures)

pub offset_bounds-depths-place-in-loop-i : goal.offset_bounds-depths-place-in-loop-i
offset_bounds-depths-place-in-loop-i c = omega (arith, c.place-in-loop-i.ensures)

pub bounds-depths-place-in-loop-i : goal.bounds-depths-place-in-loop-i
bounds-depths-place-in-loop-i c = omega (arith, c.place-in-loop-i.ensures)

pub offset_bounds-depths-place-in-loop-i-2 : goal.offset_bounds-depths-place-in-loop-i-2
offset_bounds-depths-place-in-loop-i-2 c = omega (arith, c.place-in-loop-i-2.ensures)

pub bounds-depths-place-in-loop-i-2 : goal.bounds-depths-place-in-loop-i-2
bounds-depths-place-in-loop-i-2 c = omega (arith, c.place-in-loop-i-2.ensures)

pub depth_by-depth-requires : goal.depth_by-depth-requires
depth_by-depth-requires c =
    let kept = c.loop-i.invariant.2 in
    (kept.within _, kept.within _, kept.within _)

pub returns-then-over_limits : goal.returns-then-over_limits
returns-then-over_limits c =
    let found =
    next_depth c.args.table.now (c.rows-i-end.ensures.few, c.rows-i-end.ensures.counted) c.requires c.loop-i.invariant.2 c.loop-i-test.true
    c.row-row.ensures c.place.ensures c.place-in-loop-i.ensures c.place-in-loop-i-2.ensures c.depth_by-depth.ensures in
    lowest_found 5 _ c.loop-i.i (length c.args.table.now) (omega (arith, c.loop-i-test.true, c.rows-i-end.ensures.counted))
    (too_deep_law _ _ ∙ ap over_limits (sym found) ∙ sym c.over_limits.ensures ∙ c.if-over_limits.true) c.loop-i.invariant.1

pub overflow_cast-depths : goal.overflow_cast-depths
overflow_cast-depths c = omega (arith, c.loop-i-test.true, c.rows-i-end.ensures.few)

pub offset_bounds-depths-i : goal.offset_bounds-depths-i
offset_bounds-depths-i c = omega (arith, c.loop-i-test.true, c.rows-i-end.ensures.few)

pub bounds-depths-i : goal.bounds-depths-i
bounds-depths-i c = omega (arith, c.loop-i-test.true, c.rows-i-end.ensures.few)

pub loop-i-preserved : goal.loop-i-preserved
loop-i-preserved c =
    let rows = c.args.table.now in
    let found : c.depth_by-depth.result ≡ depth_at rows c.loop-i.i =
    c.depth_by-depth.ensures
    ∙ kept_depth rows c.loop-i.depths c.loop-i.i c.row-row.result _ _ _
    (fitting_rows rows c.requires.0 c.requires.1) c.loop-i.invariant.2
    (omega (arith, c.loop-i-test.true, c.rows-i-end.ensures.counted)) (omega (arith, c.loop-i-test.true, c.rows-i-end.ensures.few))
    c.row-row.ensures c.place.ensures c.place-in-loop-i.ensures c.place-in-loop-i-2.ensures in (
      omega (arith, c.loop-i-test.true),
      lowest_step 5 _ c.loop-i.i (length c.args.table.now) (omega (arith, c.loop-i-test.true, c.rows-i-end.ensures.counted))
          (too_deep_law _ _ ∙ ap over_limits (sym found) ∙ sym c.over_limits.ensures ∙ c.if-over_limits.false) c.loop-i.invariant.1,
      kept_more _ _ _ _ c.loop-i.invariant.2 (omega (arith, c.loop-i-test.true, c.rows-i-end.ensures.few)) found
          (within_limits _ (sym c.over_limits.ensures ∙ c.if-over_limits.false)),
    )

pub returns : goal.returns
returns c =
    lowest_end 5 _ c.loop-i.i (length c.args.table.now) (omega arith) c.loop-i.invariant.1
