-- Every claim of this crate. Its one proof cites theirs, so that none of them can go missing.
use Rattle.job.specs.Jobs.{RoundTrip}
use Rattle.job.specs.Cases.{FaultyJobs}

pub record Claims : Type 0 where
  pub round_trip : RoundTrip
  pub faulty_jobs : FaultyJobs
