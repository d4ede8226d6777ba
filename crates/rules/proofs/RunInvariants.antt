-- Facts that every step keeps hold of the state that a run reaches; and a run takes as many steps as its budget at most.
use Prim.Native.Nat.{ℕ, zero, suc, ◌+◌, ◌≤◌}
use native.Mathlib.Omega.{arith}
use mathlib.Core.Bool.{Bool, true, false, ◌||◌}
use mathlib.Core.List.{List, [], ◌∷◌}
use mathlib.Core.Logic.{◌↔◌}
use mathlib.Core.Path.{◌≡◌, refl, sym, subst}
use lib.Dec.{ltb}
use lib.ListN.{length, set}
use Rattle.rules.specs.declared.Ended.{Ended}
use Rattle.rules.specs.Marks.{none, put, union, provisional}
use Rattle.rules.specs.Trees.{Expr, Stmt, skip, assign, sequence, if, while, output}
use Rattle.rules.specs.Values.{value, holds, level, may_assign}
use Rattle.rules.specs.Running.{Item, statement, close, Log, State, state, Terms, context, guarded, push, counted, noted, skipped, assigned, opened, branched, turned, closed_marks, popped, closed, recorded, Attempt, finished, denied, roomless, taken, is_denied, output_attempt, begin, attempt, attempted, Outcome, at_budget, follow, run}
use Rattle.rules.specs.Answers.{refused, said_of_run}

-- the fact holds of the state after the step, if the step was taken
abbrev Kept : (State → Type 0) → Attempt → Type 0
Kept Fact finished = Unit {0}
Kept Fact (denied row because) = Unit {0}
Kept Fact (roomless row) = Unit {0}
Kept Fact (taken σ) = Fact σ

-- Every step keeps the fact: one field for each step of section 5.
pub record Keeps (Fact : List Item → List ℕ → ℕ → List ℕ → Log → Type 0) : Type 0 where
  pub skip_kept :
      {k : List Item} {m : List ℕ} {l : ℕ} {p : List ℕ} {g : Log} → Fact (statement skip ∷ k) m l p g → Fact k m l p (counted g)
  pub assign_kept :
      {k : List Item} {m : List ℕ} {l : ℕ} {p : List ℕ} {g : Log} {v : ℕ} {e : Expr} → Fact (statement (assign v e) ∷ k) m l p g
      → Fact k (set m v (value m e)) (put v (provisional (level l e) || context p) l) p (counted g)
  pub sequence_kept :
      {k : List Item} {m : List ℕ} {l : ℕ} {p : List ℕ} {g : Log} {s t : Stmt} → Fact (statement (sequence s t) ∷ k) m l p g
      → Fact (statement s ∷ statement t ∷ k) m l p g
  pub then_kept :
      {k : List Item} {m : List ℕ} {l : ℕ} {p : List ℕ} {g : Log} {e : Expr} {s t : Stmt} → Fact (statement (if e s t) ∷ k) m l p g
      → Fact (statement s ∷ close ∷ k) m l (push (provisional (level l e) || context p) (may_assign t) p) (counted g)
  pub else_kept :
      {k : List Item} {m : List ℕ} {l : ℕ} {p : List ℕ} {g : Log} {e : Expr} {s t : Stmt} → Fact (statement (if e s t) ∷ k) m l p g
      → Fact (statement t ∷ close ∷ k) m l (push (provisional (level l e) || context p) (may_assign s) p) (counted g)
  pub turn_kept :
      {k : List Item} {m : List ℕ} {l : ℕ} {p : List ℕ} {g : Log} {e : Expr} {s : Stmt} → Fact (statement (while e s) ∷ k) m l p g
      → Fact (statement s ∷ close ∷ statement (while e s) ∷ k) m l (push (provisional (level l e) || context p) none p) (counted g)
  pub leave_kept :
      {k : List Item} {m : List ℕ} {l : ℕ} {p : List ℕ} {g : Log} {e : Expr} {s : Stmt} → Fact (statement (while e s) ∷ k) m l p g
      → Fact (close ∷ k) m l (push (provisional (level l e) || context p) (may_assign s) p) (counted g)
  pub close_kept :
      {k : List Item} {m : List ℕ} {l : ℕ} {top : ℕ} {p : List ℕ} {g : Log} → Fact (close ∷ k) m l (top ∷ p) g
      → Fact k m (union top l) p (counted g)
  pub close_empty_kept : {k : List Item} {m : List ℕ} {l : ℕ} {g : Log} → Fact (close ∷ k) m l [] g → Fact k m l [] (counted g)
  pub record_kept :
      {k : List Item} {m : List ℕ} {l : ℕ} {p : List ℕ} {g : Log} {channel : ℕ} {e : Expr} {row : ℕ}
      → Fact (statement (output channel e row) ∷ k) m l p g
      → Fact k m l p (noted (record { channel = channel; value = value m e }) g)

module _ (Fact : List Item → List ℕ → ℕ → List ℕ → Log → Type 0) (keeps : Keeps Fact) (terms : Terms) where
  abbrev Of : State → Type 0
  Of σ = Fact σ.pending σ.memory σ.marks σ.pile σ.log

  branched_kept :
      (b : Bool) (e : Expr) (s t : Stmt) (k : List Item) (σ : State) → Fact (statement (if e s t) ∷ k) σ.memory σ.marks σ.pile σ.log
      → Of (branched b e s t k σ)
  unfolding branched opened guarded
  branched_kept true e s t k σ f = keeps.then_kept f
  branched_kept false e s t k σ f = keeps.else_kept f

  turned_kept :
      (b : Bool) (e : Expr) (s : Stmt) (k : List Item) (σ : State) → Fact (statement (while e s) ∷ k) σ.memory σ.marks σ.pile σ.log
      → Of (turned b e s k σ)
  unfolding turned opened guarded
  turned_kept true e s k σ f = keeps.turn_kept f
  turned_kept false e s k σ f = keeps.leave_kept f

  output_kept : (deny room : Bool) (row because : ℕ) (σ : State) → Of σ → Kept Of (output_attempt deny room row because σ)
  unfolding output_attempt
  output_kept true room row because σ f = tt
  output_kept false false row because σ f = tt
  output_kept false true row because σ f = f

  begin_kept :
      (s : Stmt) (k : List Item) (σ : State) → Fact (statement s ∷ k) σ.memory σ.marks σ.pile σ.log
      → Kept Of (begin terms s k σ)
  unfolding begin skipped assigned guarded recorded
  begin_kept skip k σ f = keeps.skip_kept f
  begin_kept (assign v e) k σ f = keeps.assign_kept f
  begin_kept (sequence s t) k σ f = begin_kept s (statement t ∷ k) σ (keeps.sequence_kept f)
  begin_kept (if e s t) k σ f = branched_kept (holds σ.memory e) e s t k σ f
  begin_kept (while e s) k σ f = turned_kept (holds σ.memory e) e s k σ f
  begin_kept (output channel e row) k σ f =
      output_kept (is_denied channel e σ) (ltb (length σ.log.records) terms.room) row _ (recorded channel e k σ) (keeps.record_kept f)

  closed_kept :
      (k : List Item) (m : List ℕ) (l : ℕ) (p : List ℕ) (g : Log) → Fact (close ∷ k) m l p g
      → Of (closed k (state (close ∷ k) m l p g))
  unfolding closed closed_marks popped
  closed_kept k m l [] g f = keeps.close_empty_kept f
  closed_kept k m l (top ∷ p) g f = keeps.close_kept f

  attempt_kept :
      (k : List Item) (m : List ℕ) (l : ℕ) (p : List ℕ) (g : Log) → Fact k m l p g
      → Kept Of (attempt terms k (state k m l p g))
  unfolding attempt
  attempt_kept [] m l p g f = tt
  attempt_kept (statement s ∷ k) m l p g f = begin_kept s k (state (statement s ∷ k) m l p g) f
  attempt_kept (close ∷ k) m l p g f = closed_kept k m l p g f

  followed : (onward : State → Outcome) → ((σ : State) → Of σ → Of (onward σ).state) → (σ : State) (a : Attempt) → Of σ → Kept Of a → Of (follow onward σ a).state
  unfolding follow
  followed onward later σ finished f g = f
  followed onward later σ (denied row because) f g = f
  followed onward later σ (roomless row) f g = f
  followed onward later σ (taken next) f g = later next g

  -- what every step keeps holds of the state reached
  pub run_keeps : (budget : ℕ) (σ : State) → Of σ → Of (run terms budget σ).state
  unfolding run
  run_keeps zero σ f = f
  run_keeps (suc budget) σ f =
      followed (run terms budget) (λ next g. run_keeps budget next g) σ (attempted terms σ) f
      (attempt_kept σ.pending σ.memory σ.marks σ.pile σ.log f)

-- ---- a step that is taken counts one

abbrev Counts : ℕ → Attempt → Type 0
Counts n a = Kept (λ (σ : State). σ.log.steps ≡ n + 1) a

module _ (terms : Terms) where
  branched_counts : (b : Bool) (e : Expr) (s t : Stmt) (k : List Item) (σ : State) → (branched b e s t k σ).log.steps ≡ σ.log.steps + 1
  unfolding branched opened
  branched_counts true e s t k σ = refl
  branched_counts false e s t k σ = refl

  turned_counts : (b : Bool) (e : Expr) (s : Stmt) (k : List Item) (σ : State) → (turned b e s k σ).log.steps ≡ σ.log.steps + 1
  unfolding turned opened
  turned_counts true e s k σ = refl
  turned_counts false e s k σ = refl

  output_counts : (deny room : Bool) (row because n : ℕ) (σ : State) → σ.log.steps ≡ n + 1 → Counts n (output_attempt deny room row because σ)
  unfolding output_attempt
  output_counts true room row because n σ e = tt
  output_counts false false row because n σ e = tt
  output_counts false true row because n σ e = e

  begin_counts : (s : Stmt) (k : List Item) (σ : State) → Counts σ.log.steps (begin terms s k σ)
  unfolding begin skipped assigned recorded
  begin_counts skip k σ = refl
  begin_counts (assign v e) k σ = refl
  begin_counts (sequence s t) k σ = begin_counts s (statement t ∷ k) σ
  begin_counts (if e s t) k σ = branched_counts (holds σ.memory e) e s t k σ
  begin_counts (while e s) k σ = turned_counts (holds σ.memory e) e s k σ
  begin_counts (output channel e row) k σ =
      output_counts (is_denied channel e σ) (ltb (length σ.log.records) terms.room) row _ σ.log.steps (recorded channel e k σ) refl

  attempt_counts : (k : List Item) (σ : State) → Counts σ.log.steps (attempt terms k σ)
  unfolding attempt closed
  attempt_counts [] σ = tt
  attempt_counts (statement s ∷ k) σ = begin_counts s k σ
  attempt_counts (close ∷ k) σ = refl

  follow_steps :
      (onward : State → Outcome) (budget : ℕ) → ((σ : State) → (onward σ).state.log.steps ≤ σ.log.steps + budget) → (σ : State) (a : Attempt)
      → Counts σ.log.steps a → (follow onward σ a).state.log.steps ≤ σ.log.steps + suc budget
  unfolding follow
  follow_steps onward budget later σ finished c = omega arith
  follow_steps onward budget later σ (denied row because) c = omega arith
  follow_steps onward budget later σ (roomless row) c = omega arith
  follow_steps onward budget later σ (taken next) c = omega (arith, later next)

  pub run_steps : (budget : ℕ) (σ : State) → (run terms budget σ).state.log.steps ≤ σ.log.steps + budget
  unfolding run
  run_steps zero σ = omega arith
  run_steps (suc budget) σ =
      follow_steps (run terms budget) budget (λ next. run_steps budget next) σ (attempted terms σ)
      (attempt_counts σ.pending σ)

-- ---- done exactly when nothing is pending

abbrev Unfinished : Attempt → Type 0
Unfinished finished = ⊥
Unfinished (denied row because) = Unit {0}
Unfinished (roomless row) = Unit {0}
Unfinished (taken σ) = Unit {0}

abbrev IsDone : Ended → Type 0
IsDone Ended.Done = Unit {0}
IsDone (Ended.Stopped row because) = ⊥
IsDone Ended.Spent = ⊥
IsDone (Ended.NoRoom row) = ⊥
IsDone (Ended.Refused number row) = ⊥

-- the outcome is done and nothing is pending, or it is not done and something is
data Told (o : Outcome) : Type 0 where
  idle : o.ended ≡ Ended.Done → o.state.pending ≡ [] → Told o
  busy : (IsDone o.ended → ⊥) → (item : Item) (rest : List Item) → o.state.pending ≡ item ∷ rest → Told o

module _ (terms : Terms) where
  output_unfinished : (deny room : Bool) (row because : ℕ) (σ : State) → Unfinished (output_attempt deny room row because σ)
  unfolding output_attempt
  output_unfinished true room row because σ = tt
  output_unfinished false false row because σ = tt
  output_unfinished false true row because σ = tt

  begin_unfinished : (s : Stmt) (k : List Item) (σ : State) → Unfinished (begin terms s k σ)
  unfolding begin
  begin_unfinished skip k σ = tt
  begin_unfinished (assign v e) k σ = tt
  begin_unfinished (sequence s t) k σ = begin_unfinished s (statement t ∷ k) σ
  begin_unfinished (if e s t) k σ = tt
  begin_unfinished (while e s) k σ = tt
  begin_unfinished (output channel e row) k σ =
      output_unfinished (is_denied channel e σ) (ltb (length σ.log.records) terms.room) row _ (recorded channel e k σ)

  follow_told :
      (onward : State → Outcome) → ((σ : State) → Told (onward σ)) → (item : Item) (k : List Item) (m : List ℕ) (l : ℕ) (p : List ℕ)
      (g : Log) (a : Attempt) → Unfinished a → Told (follow onward (state (item ∷ k) m l p g) a)
  unfolding follow
  follow_told onward later item k m l p g finished u = absurd u
  follow_told onward later item k m l p g (denied row because) u = busy (λ d. d) item k refl
  follow_told onward later item k m l p g (roomless row) u = busy (λ d. d) item k refl
  follow_told onward later item k m l p g (taken next) u = later next

  told : (budget : ℕ) (k : List Item) (m : List ℕ) (l : ℕ) (p : List ℕ) (g : Log) → Told (run terms budget (state k m l p g))
  unfolding run at_budget attempt follow closed
  told zero [] m l p g = idle refl refl
  told zero (item ∷ k) m l p g = busy (λ d. d) item k refl
  told (suc budget) [] m l p g = idle refl refl
  told (suc budget) (statement s ∷ k) m l p g =
      follow_told (run terms budget) (λ σ. told budget σ.pending σ.memory σ.marks σ.pile σ.log) (statement s) k m l p g
      (begin terms s k (state (statement s ∷ k) m l p g)) (begin_unfinished s k (state (statement s ∷ k) m l p g))
  told (suc budget) (close ∷ k) m l p g =
      told budget k m (closed k (state (close ∷ k) m l p g)).marks (closed k (state (close ∷ k) m l p g)).pile (counted g)

  done_idle : (o : Outcome) → Told o → (o.ended ≡ Ended.Done) ↔ (o.state.pending ≡ [])
  done_idle o (idle d i) = (λ e. i, λ e. d)
  done_idle o (busy d item rest e) =
      (λ f. absurd (d (subst IsDone (sym f) tt)), λ f. let z : ◌≡◌ {A = ℕ} 0 1 = cc in absurd (omega arith))

  pub run_done_idle : (budget : ℕ) (σ : State) → ((run terms budget σ).ended ≡ Ended.Done) ↔ ((run terms budget σ).state.pending ≡ [])
  run_done_idle budget σ =
      done_idle (run terms budget σ) (told budget σ.pending σ.memory σ.marks σ.pile σ.log)

-- ---- a run that is under way is never refused

abbrev Verdict : Ended → Type 0
Verdict Ended.Done = Unit {0}
Verdict (Ended.Stopped row because) = Unit {0}
Verdict Ended.Spent = Unit {0}
Verdict (Ended.NoRoom row) = Unit {0}
Verdict (Ended.Refused number row) = ⊥

module _ (terms : Terms) where
  follow_verdict : (onward : State → Outcome) → ((σ : State) → Verdict (onward σ).ended) → (σ : State) (a : Attempt) → Verdict (follow onward σ a).ended
  unfolding follow
  follow_verdict onward later σ finished = tt
  follow_verdict onward later σ (denied row because) = tt
  follow_verdict onward later σ (roomless row) = tt
  follow_verdict onward later σ (taken next) = later next

  budget_verdict : (k : List Item) → Verdict (at_budget k)
  unfolding at_budget
  budget_verdict [] = tt
  budget_verdict (item ∷ k) = tt

  run_verdict : (budget : ℕ) (σ : State) → Verdict (run terms budget σ).ended
  unfolding run
  run_verdict zero σ = budget_verdict σ.pending
  run_verdict (suc budget) σ = follow_verdict (run terms budget) (λ next. run_verdict budget next) σ (attempted terms σ)

  unrefused : (ended : Ended) → Verdict ended → (number row : ℕ) → said_of_run ended ≡ refused number row → ⊥
  unrefused Ended.Done v number row e = let z : ◌≡◌ {A = ℕ} 0 1 = cc in omega arith
  unrefused (Ended.Stopped place because) v number row e = let z : ◌≡◌ {A = ℕ} 0 1 = cc in omega arith
  unrefused Ended.Spent v number row e = let z : ◌≡◌ {A = ℕ} 0 1 = cc in omega arith
  unrefused (Ended.NoRoom place) v number row e = let z : ◌≡◌ {A = ℕ} 0 1 = cc in omega arith
  unrefused (Ended.Refused number' row') v number row e = v

  pub run_unrefused : (budget : ℕ) (σ : State) (number row : ℕ) → said_of_run (run terms budget σ).ended ≡ refused number row → ⊥
  run_unrefused budget σ number row e = unrefused (run terms budget σ).ended (run_verdict budget σ) number row e
