-- `job::read_job` meets its contract. Assumes nothing.
use mathlib.Core.Path.{refl, ap, ◌∙◌}
use Rattle.job.specs.Jobs.{form_at, read_lines, read_inputs}
use Rattle.job.specs.Read.{numbers_of, reading}
use Rattle.numbers.proofs.ErrLaws.{handed_on}
use Rattle.job.proofs.JobLaws.{within_at, many_broken, many_told, job_long, job_sized, reading_refused}
use Rattle.job.proofs.ToldLaws.{numbers_within}
use Rattle.job.proofs.read_job.Goals as goal

pub returns-then-text-gt-MOST_BYTES : goal.returns-then-text-gt-MOST_BYTES
returns-then-text-gt-MOST_BYTES c = reading_refused _ _ ∙ ap reading (job_long c.args.text.now c.if-text-gt-MOST_BYTES.true)

pub returns-in_err-head : goal.returns-in_err-head
unfolding read_lines
returns-in_err-head c =
    rw (handed_on _ c.from_residual.ensures.1)
    (reading_refused _ _ ∙ ap reading (many_broken _ _ _ _ c.in_err-head.ensures ∙ job_sized c.args.text.now c.if-text-gt-MOST_BYTES.false))

pub read_inputs-requires : goal.read_inputs-requires
unfolding form_at
read_inputs-requires c =
    let head = c.in_ok-head.head in
    within_at (numbers_of head.value) 1 3 4 (numbers_within 4 1 c.args.text.now (numbers_of head.value) _ c.in_ok-head.ensures) refl

pub returns-in_err-memory : goal.returns-in_err-memory
unfolding read_lines read_inputs
returns-in_err-memory c =
    rw (handed_on _ c.from_residual-in_err-memory.ensures.1)
    (reading_refused _ _
    ∙ ap reading
    (many_broken _ _ _ _ c.in_err-memory.ensures.0 ∙ many_told _ _ _ _ c.in_ok-head.ensures ∙ job_sized c.args.text.now c.if-text-gt-MOST_BYTES.false))

pub read_table-requires : goal.read_table-requires
unfolding form_at
read_table-requires c =
    let head = c.in_ok-head.head in
    (within_at (numbers_of head.value) 1 3 4 (numbers_within 4 1 c.args.text.now (numbers_of head.value) _ c.in_ok-head.ensures) refl, c.in_ok-memory.ensures.1)

pub returns : goal.returns
unfolding read_lines read_inputs
returns c =
    c.read_table.ensures
    ∙ ap reading
    (many_told _ _ _ _ c.in_ok-memory.ensures.0 ∙ many_told _ _ _ _ c.in_ok-head.ensures ∙ job_sized c.args.text.now c.if-text-gt-MOST_BYTES.false)
