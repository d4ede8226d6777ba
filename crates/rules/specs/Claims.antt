-- Every claim of this crate. Its one proof cites theirs, so that none of them can go missing.
use Rattle.rules.specs.Lowest.{LowestIsGiven}
use Rattle.rules.specs.Starred.{Starred}
use Rattle.rules.specs.Further.{Further, RoomlessGoesOn}
use Rattle.rules.specs.Refusals.{CaseJ, CaseK, Longest}

pub record Claims : Type 0 where
  pub lowest_is_given : LowestIsGiven
  pub starred : Starred
  pub further : Further
  pub roomless_goes_on : RoomlessGoesOn
  pub J : CaseJ
  pub K : CaseK
  pub longest : Longest
