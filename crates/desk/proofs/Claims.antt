-- Every claim of this crate is proved.
use Rattle.desk.specs.Claims.{Claims}
use Rattle.desk.proofs.Evaluation.{whole_met, refused_met}

pub claims : Claims
claims = record {
  whole_case = whole_met;
  refused_cases = refused_met;
}
