-- Every claim of this crate is proved.
use Rattle.job.specs.Claims.{Claims}
use Rattle.job.proofs.RoundTrip.{round_trip}
use Rattle.job.proofs.Evaluation.{faulty_met}

pub claims : Claims
claims = record {
  round_trip = round_trip;
  faulty_jobs = faulty_met;
}
