-- Every claim of this crate is proved.
use Rattle.rules.specs.Claims.{Claims}
use Rattle.rules.proofs.Lowest.{lowest_is_given}
use Rattle.rules.proofs.Evaluation.{starred_met, further_met, roomless_goes_on, J-met, K-met, longest_met}

pub claims : Claims
claims = record {
  lowest_is_given = lowest_is_given;
  starred = starred_met;
  further = further_met;
  roomless_goes_on = roomless_goes_on;
  J = J-met;
  K = K-met;
  longest = longest_met;
}
