-- Every demand, and every other claim of this crate, is proved.
use Rattle.safety.specs.Claims.{Claims}
use Rattle.safety.proofs.Demand1.{ends_within_budget, refusals_touch_nothing, done_when_nothing_is_pending}
use Rattle.safety.proofs.Least.{level_check_is_least, lowest_is_named}
use Rattle.safety.proofs.Transparent.{done_is_unwatched}
use Rattle.safety.proofs.Demand3.{one_begins_the_other, both_done_are_the_same}
use Rattle.safety.proofs.Permissive.{passed_is_never_stopped}
use Rattle.safety.proofs.Explained.{stops_are_explained}
use Rattle.safety.proofs.Bounds.{runs_stay_bounded}
use Rattle.safety.proofs.Examples.{two_memories_show, stopped_and_done, stops_show, refused, calls_show, calls_stop, calls_refuse}
use Rattle.safety.proofs.Calls.{call_is_the_answer, call_judges, call_is_refused_as_judged, call_ends, call_is_unwatched, calls_show_the_same, check_is_least, check_is_refused_as_judged, call_is_never_stopped, call_is_explained}

pub claims : Claims
claims = record {
  ends_within_budget = ends_within_budget;
  refusals_touch_nothing = refusals_touch_nothing;
  done_when_nothing_is_pending = done_when_nothing_is_pending;
  level_check_is_least = level_check_is_least;
  lowest_is_named = lowest_is_named;
  done_is_unwatched = done_is_unwatched;
  one_begins_the_other = one_begins_the_other;
  both_done_are_the_same = both_done_are_the_same;
  passed_is_never_stopped = passed_is_never_stopped;
  stops_are_explained = stops_are_explained;
  runs_stay_bounded = runs_stay_bounded;
  two_memories_show = two_memories_show;
  stopped_and_done = stopped_and_done;
  stops_show = stops_show;
  refused = refused;
  calls_show = calls_show;
  calls_stop = calls_stop;
  calls_refuse = calls_refuse;
  call_is_the_answer = call_is_the_answer;
  call_judges = call_judges;
  call_is_refused_as_judged = call_is_refused_as_judged;
  call_ends = call_ends;
  call_is_unwatched = call_is_unwatched;
  calls_show_the_same = calls_show_the_same;
  check_is_least = check_is_least;
  check_is_refused_as_judged = check_is_refused_as_judged;
  call_is_never_stopped = call_is_never_stopped;
  call_is_explained = call_is_explained;
}
