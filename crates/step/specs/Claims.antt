-- Every claim of this crate. Its one proof cites theirs, so that none of them can go missing.
use Rattle.step.specs.Open.{TurnIsDecided}

pub record Claims : Type 0 where
  pub turn_is_decided : TurnIsDecided
