-- Every claim of this crate is proved.
use Rattle.report.specs.Claims.{Claims}
use Rattle.report.proofs.Evaluation.{refusals_printed, run_printed}

pub claims : Claims
claims = record {
  refusals_printed = refusals_printed;
  run_printed = run_printed;
}
