-- Every demand, and every other claim of this crate. Its one proof cites theirs, so that none of them can go missing.
use Rattle.safety.specs.Demands.{EndsWithinBudget, RefusalsTouchNothing, DoneWhenNothingIsPending, LevelCheckIsLeast, LowestIsNamed, DoneIsUnwatched, OneBeginsTheOther, BothDoneAreTheSame, PassedIsNeverStopped, StopsAreExplained, RunsStayBounded}
use Rattle.safety.specs.Examples.{TwoMemoriesShow, StoppedAndDone, StopsShow, Refused, CallsShow, CallsStop, CallsRefuse}
use Rattle.safety.specs.Calls.{CallIsTheAnswer, CallJudges, CallIsRefusedAsJudged, CallEnds, CallIsUnwatched, CallsShowTheSame, CheckIsLeast, CheckIsRefusedAsJudged, CallIsNeverStopped, CallIsExplained}

pub record Claims : Type 0 where
  -- demand 1
  pub ends_within_budget : EndsWithinBudget
  pub refusals_touch_nothing : RefusalsTouchNothing
  pub done_when_nothing_is_pending : DoneWhenNothingIsPending
  -- demand 2
  pub level_check_is_least : LevelCheckIsLeast
  pub lowest_is_named : LowestIsNamed
  pub done_is_unwatched : DoneIsUnwatched
  -- demand 3
  pub one_begins_the_other : OneBeginsTheOther
  pub both_done_are_the_same : BothDoneAreTheSame
  pub passed_is_never_stopped : PassedIsNeverStopped
  -- what a run is stopped because of
  pub stops_are_explained : StopsAreExplained
  -- what the code's arrays need
  pub runs_stay_bounded : RunsStayBounded
  -- an example for each hypothesis
  pub two_memories_show : TwoMemoriesShow
  pub stopped_and_done : StoppedAndDone
  pub stops_show : StopsShow
  pub refused : Refused
  pub calls_show : CallsShow
  pub calls_stop : CallsStop
  pub calls_refuse : CallsRefuse
  -- for whoever calls the judge, the run or the level check
  pub call_is_the_answer : CallIsTheAnswer
  pub call_judges : CallJudges
  pub call_is_refused_as_judged : CallIsRefusedAsJudged
  pub call_ends : CallEnds
  pub call_is_unwatched : CallIsUnwatched
  pub calls_show_the_same : CallsShowTheSame
  pub check_is_least : CheckIsLeast
  pub check_is_refused_as_judged : CheckIsRefusedAsJudged
  pub call_is_never_stopped : CallIsNeverStopped
  pub call_is_explained : CallIsExplained
