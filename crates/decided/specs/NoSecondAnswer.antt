-- That no second answer meets it, for each public function and its contract. `Learnt` is a contract as the checker has it:
-- what the function's `ensures` tells whoever calls it. The exceptions are listed in docs/CONTRACTS.md.
-- 10.10: The contract of each public function decides the whole answer and everything lent, for every input: no second
-- answer meets it, but for the exceptions that are listed.
use Rattle.rows.specs.contracts as rows
use Rattle.table.specs.contracts as table
use Rattle.leaves.specs.contracts as leaves
use Rattle.expression.specs.contracts as expression
use Rattle.step.specs.contracts as step
use Rattle.monitor.specs.contracts as monitor
use Rattle.levels.specs.contracts as levels
use Rattle.numbers.specs.contracts as numbers
use Rattle.job.specs.contracts as job
use Rattle.report.specs.contracts as report
use Rattle.desk.specs.contracts as desk
use Rattle.spans.specs.contracts as spans
use Rattle.reader.specs.contracts as reader
use Rattle.embed.specs.contracts as embed
use Rattle.rows.proofs.has_row
use Rattle.rows.proofs.row_at
use Rattle.rows.proofs.read_row
use Rattle.table.proofs.judge
use Rattle.table.proofs.judged.JudgedTable.new as judged_table_new
use Rattle.table.proofs.judged.JudgedTable.row as judged_table_row
use Rattle.leaves.proofs.marks.only_mark
use Rattle.leaves.proofs.marks.has_mark
use Rattle.leaves.proofs.marks.mark_as
use Rattle.leaves.proofs.marks.joined
use Rattle.leaves.proofs.operators.operated
use Rattle.leaves.proofs.memory.read_lent
use Rattle.leaves.proofs.memory.store_lent
use Rattle.leaves.proofs.copy.copy_words
use Rattle.expression.proofs.values.value_at
use Rattle.expression.proofs.values.evaluate
use Rattle.expression.proofs.assigned.assigned_at
use Rattle.expression.proofs.assigned.may_assign
use Rattle.step.proofs.Machine.new as machine_new
use Rattle.step.proofs.Machine.is_done as machine_is_done
use Rattle.monitor.proofs.run
use Rattle.levels.proofs.check
use Rattle.numbers.proofs.number_at
use Rattle.job.proofs.read_job
use Rattle.report.proofs.write_refusal
use Rattle.report.proofs.write_report
use Rattle.desk.proofs.answer_job
use Rattle.spans.proofs.start_at
use Rattle.spans.proofs.word_at
use Rattle.spans.proofs.is_joined
use Rattle.spans.proofs.is_key
use Rattle.reader.proofs.read_text
use Rattle.embed.proofs.buzorinde_judge
use Rattle.embed.proofs.buzorinde_check
use Rattle.embed.proofs.buzorinde_run
use Rattle.embed.proofs.buzorinde_read
use Rattle.decided.specs.Decided.{Decided}

pub record NoSecondAnswer : Type 0 where
  -- `rows`
  pub has_row : Decided rows.has_row.signature has_row.Reads.Learnt
  pub row_at : Decided rows.row_at.signature row_at.Reads.Learnt
  pub read_row : Decided rows.read_row.signature read_row.Reads.Learnt
  -- `table`
  pub judge : Decided table.judge.signature judge.Reads.Learnt
  pub judged_table_new : Decided table.judged.JudgedTable.new.signature judged_table_new.Reads.Learnt
  pub judged_table_row : Decided table.judged.JudgedTable.row.signature judged_table_row.Reads.Learnt
  -- `leaves`
  pub only_mark : Decided leaves.marks.only_mark.signature only_mark.Reads.Learnt
  pub has_mark : Decided leaves.marks.has_mark.signature has_mark.Reads.Learnt
  pub mark_as : Decided leaves.marks.mark_as.signature mark_as.Reads.Learnt
  pub joined : Decided leaves.marks.joined.signature joined.Reads.Learnt
  pub operated : Decided leaves.operators.operated.signature operated.Reads.Learnt
  pub read_lent : Decided leaves.memory.read_lent.signature read_lent.Reads.Learnt
  pub store_lent : Decided leaves.memory.store_lent.signature store_lent.Reads.Learnt
  pub copy_words : Decided leaves.copy.copy_words.signature copy_words.Reads.Learnt
  -- `expression`
  pub value_at : Decided expression.values.value_at.signature value_at.Reads.Learnt
  pub evaluate : Decided expression.values.evaluate.signature evaluate.Reads.Learnt
  pub assigned_at : Decided expression.assigned.assigned_at.signature assigned_at.Reads.Learnt
  pub may_assign : Decided expression.assigned.may_assign.signature may_assign.Reads.Learnt
  -- `step`
  pub machine_new : Decided step.Machine.new.signature machine_new.Reads.Learnt
  pub machine_is_done : Decided step.Machine.is_done.signature machine_is_done.Reads.Learnt
  -- `monitor`
  pub run : Decided monitor.run.signature run.Reads.Learnt
  -- `levels`
  pub check : Decided levels.check.signature check.Reads.Learnt
  -- `numbers`
  pub number_at : Decided numbers.number_at.signature number_at.Reads.Learnt
  -- `job`
  pub read_job : Decided job.read_job.signature read_job.Reads.Learnt
  -- `report`
  pub write_refusal : Decided report.write_refusal.signature write_refusal.Reads.Learnt
  pub write_report : Decided report.write_report.signature write_report.Reads.Learnt
  -- `desk`
  pub answer_job : Decided desk.answer_job.signature answer_job.Reads.Learnt
  -- `spans`
  pub start_at : Decided spans.start_at.signature start_at.Reads.Learnt
  pub word_at : Decided spans.word_at.signature word_at.Reads.Learnt
  pub is_joined : Decided spans.is_joined.signature is_joined.Reads.Learnt
  pub is_key : Decided spans.is_key.signature is_key.Reads.Learnt
  -- `reader`
  pub read_text : Decided reader.read_text.signature read_text.Reads.Learnt
  -- `embed`
  pub buzorinde_judge : Decided embed.buzorinde_judge.signature buzorinde_judge.Reads.Learnt
  pub buzorinde_check : Decided embed.buzorinde_check.signature buzorinde_check.Reads.Learnt
  pub buzorinde_run : Decided embed.buzorinde_run.signature buzorinde_run.Reads.Learnt
  pub buzorinde_read : Decided embed.buzorinde_read.signature buzorinde_read.Reads.Learnt
