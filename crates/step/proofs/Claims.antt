-- Every claim of this crate is proved.
use Rattle.step.specs.Claims.{Claims}
use Rattle.step.proofs.OpenLaws.{turn_is_decided}

pub claims : Claims
claims = record { turn_is_decided = turn_is_decided }
