-- Every claim of this crate. Its one proof cites theirs, so that none of them can go missing.
use Rattle.report.specs.Cases.{RefusalsPrinted, RunPrinted}

pub record Claims : Type 0 where
  pub refusals_printed : RefusalsPrinted
  pub run_printed : RunPrinted
