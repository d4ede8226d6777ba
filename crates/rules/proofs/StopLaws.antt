-- Where a run was stopped, and because of what.
use Prim.Native.Nat.{ℕ, zero, suc}
use native.Mathlib.Omega.{arith}
use mathlib.Core.Bool.{Bool, true, false}
use mathlib.Core.List.{List, [], ◌∷◌}
use mathlib.Core.Path.{◌≡◌, refl}
use lib.Dec.{ltb}
use lib.ListN.{length}
use Rattle.rules.specs.declared.Ended.{Ended}
use Rattle.rules.specs.Trees.{Expr, Stmt, skip, assign, sequence, if, while, output}
use Rattle.rules.specs.Values.{level}
use Rattle.rules.specs.Running.{Item, statement, close, State, Terms, recorded, Attempt, finished, denied, roomless, taken, denies, is_denied, output_attempt, begin, attempt, attempted, Outcome, at_budget, follow, run}

-- ---- a run is stopped in a state in which the next step is denied

module _ (terms : Terms) (row because : ℕ) where
  -- it is denied in the state that the outcome has reached
  abbrev DeniedAt : Outcome → Type 0
  DeniedAt o = o.ended ≡ Ended.Stopped row because → attempted terms o.state ≡ denied row because

  follow_stopped :
      (onward : State → Outcome) → ((σ : State) → DeniedAt (onward σ)) → (σ : State) (a : Attempt) → attempted terms σ ≡ a
      → DeniedAt (follow onward σ a)
  unfolding follow
  follow_stopped onward later σ finished e f = absurd (let z : ◌≡◌ {A = ℕ} 0 1 = cc in omega arith)
  follow_stopped onward later σ (denied r b) e f = cc
  follow_stopped onward later σ (roomless r) e f = absurd (let z : ◌≡◌ {A = ℕ} 0 1 = cc in omega arith)
  follow_stopped onward later σ (taken next) e f = later next f

  unstopped : (k : List Item) → at_budget k ≡ Ended.Stopped row because → ⊥
  unfolding at_budget
  unstopped [] e = let z : ◌≡◌ {A = ℕ} 0 1 = cc in omega arith
  unstopped (item ∷ k) e = let z : ◌≡◌ {A = ℕ} 0 1 = cc in omega arith

  pub stopped_where : (budget : ℕ) (σ : State) → DeniedAt (run terms budget σ)
  unfolding run
  stopped_where zero σ e = absurd (unstopped σ.pending e)
  stopped_where (suc budget) σ e = follow_stopped (run terms budget) (λ next. stopped_where budget next) σ (attempted terms σ) refl e

-- ---- what is denied is an output, because of its expression's level

pub data Spoiled (σ : State) (because : ℕ) : Type 0 where
  spoiled : (channel : ℕ) (e : Expr) → denies channel e σ.marks σ.pile ≡ true → because ≡ level σ.marks e → Spoiled σ because

module _ (terms : Terms) (row because : ℕ) where
  output_spoiled :
      (deny room : Bool) (place set : ℕ) (next : State) → output_attempt deny room place set next ≡ denied row because
      → (deny ≡ true) × (because ≡ set)
  unfolding output_attempt
  output_spoiled true room place set next e = (refl, cc)
  output_spoiled false false place set next e = absurd (let z : ◌≡◌ {A = ℕ} 0 1 = cc in omega arith)
  output_spoiled false true place set next e = absurd (let z : ◌≡◌ {A = ℕ} 0 1 = cc in omega arith)

  begin_spoiled : (s : Stmt) (k : List Item) (σ : State) → begin terms s k σ ≡ denied row because → Spoiled σ because
  unfolding begin is_denied
  begin_spoiled skip k σ e = absurd (let z : ◌≡◌ {A = ℕ} 0 1 = cc in omega arith)
  begin_spoiled (assign v x) k σ e = absurd (let z : ◌≡◌ {A = ℕ} 0 1 = cc in omega arith)
  begin_spoiled (sequence s t) k σ e = begin_spoiled s (statement t ∷ k) σ e
  begin_spoiled (if x s t) k σ e = absurd (let z : ◌≡◌ {A = ℕ} 0 1 = cc in omega arith)
  begin_spoiled (while x s) k σ e = absurd (let z : ◌≡◌ {A = ℕ} 0 1 = cc in omega arith)
  begin_spoiled (output channel x place) k σ e =
      let found =
      output_spoiled (is_denied channel x σ) (ltb (length σ.log.records) terms.room) place _
      (recorded channel x k σ) e
      in
      spoiled channel x found.0 found.1

  attempt_spoiled : (k : List Item) (σ : State) → attempt terms k σ ≡ denied row because → Spoiled σ because
  unfolding attempt
  attempt_spoiled [] σ e = absurd (let z : ◌≡◌ {A = ℕ} 0 1 = cc in omega arith)
  attempt_spoiled (statement s ∷ k) σ e = begin_spoiled s k σ e
  attempt_spoiled (close ∷ k) σ e = absurd (let z : ◌≡◌ {A = ℕ} 0 1 = cc in omega arith)

  -- the state that a stopped run has reached
  pub stopped_spoiled : (budget : ℕ) (σ : State) → (run terms budget σ).ended ≡ Ended.Stopped row because → Spoiled (run terms budget σ).state because
  stopped_spoiled budget σ e =
      attempt_spoiled (run terms budget σ).state.pending (run terms budget σ).state (stopped_where terms row because budget σ e)
