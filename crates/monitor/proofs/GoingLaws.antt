-- Going on with a run: how it starts, goes on by a step, and ends.
use Prim.Native.Nat.{ℕ, suc, ◌+◌, ◌-◌}
use native.Mathlib.Omega.{arith}
use mathlib.Core.List.{List}
use mathlib.Core.Logic.{◌≢◌}
use mathlib.Core.Path.{◌≡◌, sym, ap, ◌∙◌, subst, subst₂}
use lib.ListN.{length, get_or}
use Rattle.std.specs.Prelude.{Err}
use Rattle.rules.specs.declared.Row.{Row}
use Rattle.rules.specs.declared.Ended.{Ended}
use Rattle.rules.specs.Running.{State, Terms, Attempt, denied, roomless, attempted, outcome, run}
use Rattle.rules.specs.Answers.{terms_of}
use Rattle.rules.proofs.RunLaws.{run_idle, run_out, run_taken, run_stopped, run_full}
use Rattle.step.specs.declared.Halt.{Halt}
use Rattle.step.specs.declared.Machine.{Machine}
use Rattle.step.specs.Denoted.{item_of, items_of, Held, Arrays, arrays_of, held_of, state_of, Holds}
use Rattle.step.specs.Turns.{Kept, Goes, Stays, turn_of, ended_of, Turned}
use Rattle.step.proofs.ArrayLaws.{items_none, items_pop, kept_same, kept_then}
use Rattle.monitor.specs.Going.{reached_by, Went, UnderWay}

module _ (rows : List Row) (a₀ : Arrays) (h₀ : Held) (budget : ℕ) where
  abbrev T : Terms
  T = terms_of (length a₀.trace)

  pub starts : Holds rows a₀ h₀ → UnderWay rows a₀ h₀ budget a₀ h₀ 0
  starts holds = record {
    ran = ap (λ (b : ℕ). run T b (state_of rows a₀ h₀ 0)) (let g : budget ≡ budget - 0 = omega arith in g);
    holds = holds;
    kept = kept_same a₀.trace h₀.records;
    within = omega arith;
  }

  module _ (a : Arrays) (h : Held) (steps : ℕ) (way : UnderWay rows a₀ h₀ budget a h steps) where
    pub done_here :
        h.pending ≡ 0
        → Went rows a₀ h₀ budget a.entries a.pile a.trace (record { ended = Ended.Done; steps = steps; held = h; memory = record { words = a.words } })
    done_here idle = record {
      ran = way.ran ∙ run_idle T (budget - steps) (state_of rows a h steps) (ap (items_of rows a.entries) idle ∙ items_none rows a.entries);
      holds = way.holds;
      kept = way.kept;
    }

    pub spent_here :
        h.pending ≢ 0 → steps ≡ budget
        → Went rows a₀ h₀ budget a.entries a.pile a.trace (record { ended = Ended.Spent; steps = steps; held = h; memory = record { words = a.words } })
    spent_here busy used =
        let n : ℕ = h.pending - 1 in
        let back : h.pending ≡ n + 1 = omega arith in
        let none_left : budget - steps ≡ 0 = omega arith in
        record {
          ran =
              way.ran ∙ ap (λ (b : ℕ). run T b (state_of rows a h steps)) none_left
              ∙ run_out T (state_of rows a h steps) (item_of rows (get_or a.entries n 0)) (items_of rows a.entries n)
              (ap (items_of rows a.entries) back ∙ items_pop rows a.entries n);
          holds = way.holds;
          kept = way.kept;
        }

    -- there is budget for a step
    left : steps ≢ budget → budget - steps ≡ suc (budget - (steps + 1))
    left other = omega (arith, way.within)

    -- a step is attempted with the room of the first trace, which is as long as this one
    same_room : (σ : State) (said : Attempt) → attempted (terms_of (length a.trace)) σ ≡ said → attempted T σ ≡ said
    same_room σ said e = subst (λ (n : ℕ). attempted (terms_of n) σ ≡ said) way.kept.long e

    one_more : steps ≢ budget → run T budget (state_of rows a₀ h₀ 0) ≡ run T (suc (budget - (steps + 1))) (state_of rows a h steps)
    one_more other = way.ran ∙ ap (λ (b : ℕ). run T b (state_of rows a h steps)) (left other)

    -- the step is not taken: the run ends in the state before, which the arrays hold
    ends_here :
        (ended : Ended) (said : Attempt) (a' : Arrays) → Stays rows a h a' said
        → run T budget (state_of rows a₀ h₀ 0) ≡ outcome ended (state_of rows a h steps)
        → Went rows a₀ h₀ budget a'.entries a'.pile a'.trace (record { ended = ended; steps = steps; held = h; memory = record { words = a'.words } })
    ends_here ended said a' x ran = record {
      ran = ran ∙ ap (outcome ended) (sym (x.same steps));
      holds = x.holds;
      kept = subst (λ (t : List ℕ). Kept a₀.trace t h.records) (sym x.trace) way.kept;
    }

    pub stopped_here :
        steps ≢ budget → (row because : ℕ) (a' : Arrays) → Stays rows a h a' (denied row because)
        → Went rows a₀ h₀ budget a'.entries a'.pile a'.trace
        (record { ended = Ended.Stopped row because; steps = steps; held = h; memory = record { words = a'.words } })
    stopped_here other row because a' x =
        ends_here (Ended.Stopped row because) (denied row because) a' x
        (one_more other ∙ run_stopped T (budget - (steps + 1)) (state_of rows a h steps) row because (same_room _ _ (x.step steps)))

    pub full_here :
        steps ≢ budget → (row : ℕ) (a' : Arrays) → Stays rows a h a' (roomless row)
        → Went rows a₀ h₀ budget a'.entries a'.pile a'.trace
        (record { ended = Ended.NoRoom row; steps = steps; held = h; memory = record { words = a'.words } })
    full_here other row a' x =
        ends_here (Ended.NoRoom row) (roomless row) a' x
        (one_more other ∙ run_full T (budget - (steps + 1)) (state_of rows a h steps) row (same_room _ _ (x.step steps)))

    -- .. on a machine, by how the step halts
    pub halts_here :
        steps ≢ budget → (halt : Halt) (s' : Machine) (t' : List ℕ) (h' : Held) → Turned rows a h (arrays_of s' t') (turn_of {A = Unit {0}} (Err halt) h')
        → held_of s' ≡ h → (ended : Ended) → ended ≡ ended_of halt
        → Went rows a₀ h₀ budget s'.pending.items s'.pile.items t' (reached_by (record { ended = ended; steps = steps }) s')
    halts_here other halt s' t' h' x same ended is =
        subst₂ (λ (d : Ended) (k : Held). Went rows a₀ h₀ budget s'.pending.items s'.pile.items t' (record { ended = d; steps = steps; held = k; memory = record { words = s'.words } }))
        (sym is) (sym same) (by halt x)
      where
        by : (halt : Halt) → Turned rows a h (arrays_of s' t') (turn_of {A = Unit {0}} (Err halt) h')
            → Went rows a₀ h₀ budget s'.pending.items s'.pile.items t' (record { ended = ended_of halt; steps = steps; held = h; memory = record { words = s'.words } })
        by (Halt.Stopped row because) x = stopped_here other row because (arrays_of s' t') x
        by (Halt.NoRoom row) x = full_here other row (arrays_of s' t') x

    pub goes_on : steps ≢ budget → (a' : Arrays) (h' : Held) → Goes rows a h a' h' → UnderWay rows a₀ h₀ budget a' h' (steps + 1)
    goes_on other a' h' x = record {
      ran =
          one_more other
          ∙ run_taken T (budget - (steps + 1)) (state_of rows a h steps) (state_of rows a' h' (steps + 1)) (same_room _ _ (x.step steps));
      holds = x.holds;
      kept = kept_then a₀.trace a.trace a'.trace h.records h'.records x.more way.kept x.kept;
      within = omega (arith, way.within);
    }
