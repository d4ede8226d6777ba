-- The whole case, and jobs that are refused, proved by evaluating the definitions.
use mathlib.Core.Path.{refl}
use Rattle.rules.proofs.Evaluation.{rules}
use Rattle.job.specs.Read.{filled}
use Rattle.job.proofs.Evaluation.{reading}
use Rattle.report.proofs.Evaluation.{writing}
use Rattle.desk.specs.Desk.{job_answer, told_report, job_report}
use Rattle.desk.specs.Cases.{WholeCase, RefusedCases}

pub whole_met : WholeCase
unfolding rules reading writing filled job_answer told_report job_report
whole_met = refl

pub refused_met : RefusedCases
unfolding rules reading writing filled job_answer told_report job_report
refused_met = (refl, refl)
