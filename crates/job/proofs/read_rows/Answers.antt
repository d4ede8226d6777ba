-- `job::read_rows` meets its contract. Assumes nothing.
use Prim.Native.Nat.{ℕ, ◌*◌}
use native.Mathlib.Omega.{arith}
use mathlib.Core.List.{List}
use mathlib.Core.Path.{◌≡◌, ap₂, ◌∙◌}
use lib.ListN.{length}
use borrow.Rule.Slice.PartMut.{put_mid}
use Rattle.rules.specs.Limits.{row_words}
use Rattle.numbers.proofs.ErrLaws.{handed_on}
use Rattle.job.proofs.FillLaws.{rows_course, put_sets, filling_again, filling_stop, filling_done}
use Rattle.job.proofs.read_rows.Goals as goal

pub loop-i-preserved : goal.loop-i-preserved
loop-i-preserved c =
    let args = c.args in
    let row = c.in_ok-row.row in
    let long : length row.value ≡ row_words = omega arith in
    filling_again rows_course args.count args.line (row_words * args.count) args.text.now args.from args.table.now row.value (omega arith)
    c.in_ok-row.ensures
    (ap₂ (λ (n : ℕ) (words : List ℕ). put_mid (row_words * c.loop-i.i) n c.loop-i.table words) (omega arith) c.copy_from_slice.ensures.after
    ∙ put_sets row.value c.loop-i.table (row_words * c.loop-i.i) (omega (arith, long, c.loop-i.invariant.same)))
    (omega arith) (omega arith) (omega arith) c.loop-i.invariant

pub returns-in_err-row : goal.returns-in_err-row
returns-in_err-row c =
    let args = c.args in
    let refusal = c.in_err-row.field-0.0 in
    let fault = c.in_err-row.ensures in
    let read = filling_stop rows_course args.count args.line (row_words * args.count) args.text.now args.from args.table.now refusal.fault (omega arith)
    fault.0 c.loop-i.invariant in
    rw (handed_on _ c.from_residual.ensures.1) (record { said = rw fault.1 read.said; kept = read.kept; same = read.same })

pub returns : goal.returns
returns c =
    let args = c.args in
    filling_done rows_course args.count args.line (row_words * args.count) args.text.now args.from args.table.now (omega arith) (omega arith)
    c.loop-i.invariant
