-- Every claim of this crate. Its one proof cites theirs, so that none of them can go missing.
use Rattle.monitor.specs.Again.{GoesOnAgain}

pub record Claims : Type 0 where
  pub goes_on_again : GoesOnAgain
