-- `job::read_inputs` meets its contract. Assumes nothing.
use Prim.Native.Nat.{◌+◌}
use native.Mathlib.Omega.{arith}
use mathlib.Core.List.{[], ◌∷◌}
use mathlib.Core.Path.{refl, ◌∙◌}
use lib.ListN.{drop, replicate}
use Rattle.rules.specs.Limits.{width}
use Rattle.job.specs.Jobs.{first_input}
use Rattle.numbers.proofs.ErrLaws.{handed_on}
use Rattle.job.proofs.FillLaws.{numbers_course, filling_again, filling_stop, filling_done}
use Rattle.job.proofs.JobLaws.{input_line, filled_front}
use Rattle.job.proofs.read_inputs.Goals as goal

pub loop-i-preserved : goal.loop-i-preserved
loop-i-preserved c =
    let args = c.args in
    let read = c.in_ok-read.read in
    filling_again numbers_course args.count first_input args.count args.text.now args.from (replicate width 0) (read.value ∷ []) (omega arith)
    (c.in_ok-read.ensures ∙ input_line (first_input + c.loop-i.i) (drop c.loop-i.at args.text.now) (omega arith))
    refl refl (omega arith) c.requires c.loop-i.invariant

pub returns-in_err-read : goal.returns-in_err-read
returns-in_err-read c =
    let args = c.args in
    let refusal = c.in_err-read.field-0.0 in
    let fault = c.in_err-read.ensures in
    let read = filling_stop numbers_course args.count first_input args.count args.text.now args.from (replicate width 0) refusal.fault (omega arith)
    (fault.0 ∙ input_line (first_input + c.loop-i.i) (drop c.loop-i.at args.text.now) (omega arith)) c.loop-i.invariant in
    rw (handed_on _ c.from_residual.ensures.1, fault.1) (read.said, tt)

pub returns : goal.returns
returns c =
    let args = c.args in
    let read = filling_done numbers_course args.count first_input args.count args.text.now args.from (replicate width 0) (omega arith)
    (omega arith) c.loop-i.invariant in
    (read.said, filled_front width args.count c.loop-i.memory.words c.requires read.same read.kept)
