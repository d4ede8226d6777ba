-- Every claim of this crate is proved.
use Rattle.monitor.specs.Claims.{Claims}
use Rattle.monitor.proofs.AgainLaws.{goes_on_again}

pub claims : Claims
claims = record { goes_on_again = goes_on_again }
