-- Every claim of this crate. Its one proof cites theirs, so that none of them can go missing.
use Rattle.desk.specs.Cases.{WholeCase, RefusedCases}

pub record Claims : Type 0 where
  pub whole_case : WholeCase
  pub refused_cases : RefusedCases
