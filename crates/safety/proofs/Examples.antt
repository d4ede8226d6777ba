-- The examples, proved by evaluating the rules.
use Prim.Native.Nat.{ℕ, zero, suc, ◌<◌}
use mathlib.Core.Bool.{false, true≢false}
use mathlib.Core.List.{List, [], ◌∷◌}
use mathlib.Core.Path.{◌≡◌, refl}
use lib.ListN.{length, get_or, replicate}
use Rattle.rules.specs.Judged.{Judged}
use Rattle.rules.specs.Limits.{width}
use Rattle.rules.specs.Judging.{judge}
use Rattle.rules.specs.Marks.{has}
use Rattle.rules.specs.Cases.{Quad, words_of, memory_of, usual_marks}
use Rattle.rules.proofs.AnswerLaws.{telling_law}
use Rattle.rules.proofs.Evaluation.{rules}
use Rattle.safety.specs.Stations.{Agree}
use Rattle.safety.specs.Demands.{TwoMemories}
use Rattle.safety.specs.Examples.{given, shown, leaking, TwoMemoriesShow, StoppedAndDone, StopsShow, Refused, CallsShow, CallsStop, CallsRefuse}

-- two memories that differ in v0 alone, where v0 alone is marked
differ_in_v0 : (a b : ℕ) (m : List ℕ) (v : ℕ) → v < width → has 1 v ≡ false → get_or (a ∷ m) v 0 ≡ get_or (b ∷ m) v 0
unfolding rules
differ_in_v0 a b m zero h e = absurd (true≢false e)
differ_in_v0 a b m (suc v) h e = refl

-- two runs that differ in their memories alone
apart :
    (table : List Quad) (m n : List ℕ) → judge (words_of table) ≡ Judged.Accepted → length (memory_of m) ≡ width → length (memory_of n) ≡ width
    → Agree usual_marks (memory_of m) (memory_of n) → TwoMemories (given table m) (given table n)
apart table m n accepted whole whole' agree = record {
  same_words = refl;
  accepted = accepted;
  same_marks = refl;
  whole_first = whole;
  whole_second = whole';
  agree = agree;
}

pub two_memories_show : TwoMemoriesShow
unfolding rules
two_memories_show =
    (apart shown (1 ∷ 7 ∷ []) (3 ∷ 7 ∷ []) refl refl refl (differ_in_v0 1 3 (7 ∷ replicate 30 0)), refl, refl, refl, refl)

pub stopped_and_done : StoppedAndDone
unfolding rules
stopped_and_done = (apart leaking (1 ∷ []) (0 ∷ []) refl refl refl (differ_in_v0 1 0 (replicate 31 0)), refl, refl)

pub stops_show : StopsShow
unfolding rules
stops_show = (record { told = telling_law _ _ refl refl refl refl refl refl; after_trace = refl }, refl, refl, refl)

pub refused : Refused
unfolding rules
refused = refl

pub calls_show : CallsShow
unfolding rules
calls_show = (refl, refl, record { told = telling_law _ _ refl refl refl refl refl refl; after_trace = refl })

pub calls_stop : CallsStop
unfolding rules
calls_stop = (refl, record { told = telling_law _ _ refl refl refl refl refl refl; after_trace = refl })

pub calls_refuse : CallsRefuse
unfolding rules
calls_refuse = (refl, refl, record { told = telling_law _ _ refl refl refl refl refl refl; after_trace = refl })
