-- The step equations of the run: what comes of going on with a state whose next item is known, and what a run from there goes
-- on as, or how it ends. Proofs about runs cite these and do not unfold the run.
use Prim.Native.Nat.{ℕ, zero, suc}
use mathlib.Core.Bool.{Bool, true, false, ◌||◌}
use mathlib.Core.List.{List, [], ◌∷◌}
use mathlib.Core.Path.{◌≡◌, refl, ap, ap₂, ◌∙◌}
use lib.Dec.{ltb}
use lib.ListN.{length, set}
use Rattle.rules.specs.declared.Ended.{Ended}
use Rattle.rules.specs.Marks.{none, put, union, provisional}
use Rattle.rules.specs.Trees.{Expr, Stmt, skip, assign, sequence, if, while, output}
use Rattle.rules.specs.Values.{value, holds, level, may_assign}
use Rattle.rules.specs.Running.{Item, statement, close, Log, State, state, Terms, context, guarded, push, counted, noted, skipped, assigned, opened, branched, turned, closed_marks, popped, closed, recorded, Attempt, finished, denied, roomless, taken, denies, is_denied, output_attempt, begin, attempt, attempted, Outcome, outcome, at_budget, follow, run}
use Rattle.rules.specs.Answers.{reached, final}

-- ---- what is pending matters to a step only by the item that it is taken from

module _ (m : List ℕ) (l : ℕ) (p : List ℕ) (g : Log) where
  branched_at :
      (b : Bool) (e : Expr) (s t : Stmt) (rest k k' : List Item)
      → branched b e s t rest (state k m l p g) ≡ branched b e s t rest (state k' m l p g)
  unfolding branched opened guarded
  branched_at true e s t rest k k' = refl
  branched_at false e s t rest k k' = refl

  turned_at :
      (b : Bool) (e : Expr) (s : Stmt) (rest k k' : List Item) → turned b e s rest (state k m l p g) ≡ turned b e s rest (state k' m l p g)
  unfolding turned opened guarded
  turned_at true e s rest k k' = refl
  turned_at false e s rest k k' = refl

  begin_at :
      (terms : Terms) (s : Stmt) (rest k k' : List Item) → begin terms s rest (state k m l p g) ≡ begin terms s rest (state k' m l p g)
  unfolding begin skipped assigned guarded is_denied recorded
  begin_at terms skip rest k k' = refl
  begin_at terms (assign v e) rest k k' = refl
  begin_at terms (sequence s t) rest k k' = begin_at terms s (statement t ∷ rest) k k'
  begin_at terms (if e s t) rest k k' = ap taken (branched_at (holds m e) e s t rest k k')
  begin_at terms (while e s) rest k k' = ap taken (turned_at (holds m e) e s rest k k')
  begin_at terms (output channel e row) rest k k' = refl

-- ---- what comes of going on with a state, by the item that is next

module _ (terms : Terms) (k : List Item) (m : List ℕ) (l : ℕ) (p : List ℕ) (g : Log) where
  -- a sequence takes no step of its own
  pub attempt_sequence :
      (s t : Stmt)
      → attempted terms (state (statement (sequence s t) ∷ k) m l p g) ≡ attempted terms (state (statement s ∷ statement t ∷ k) m l p g)
  unfolding attempt begin
  attempt_sequence s t = begin_at m l p g terms s (statement t ∷ k) (statement (sequence s t) ∷ k) (statement s ∷ statement t ∷ k)

  pub attempt_skip : attempted terms (state (statement skip ∷ k) m l p g) ≡ taken (state k m l p (counted g))
  unfolding attempt begin skipped
  attempt_skip = refl

  pub attempt_assign :
      (v : ℕ) (e : Expr)
      → attempted terms (state (statement (assign v e) ∷ k) m l p g)
      ≡ taken (state k (set m v (value m e)) (put v (provisional (level l e) || context p) l) p (counted g))
  unfolding attempt begin assigned guarded
  attempt_assign v e = refl

  pub attempt_close_empty : attempted terms (state (close ∷ k) m l [] g) ≡ taken (state k m l [] (counted g))
  unfolding attempt closed closed_marks popped
  attempt_close_empty = refl

  pub attempt_close : (top : ℕ) → attempted terms (state (close ∷ k) m l (top ∷ p) g) ≡ taken (state k m (union top l) p (counted g))
  unfolding attempt closed closed_marks popped
  attempt_close top = refl

  pub attempt_then :
      (e : Expr) (s t : Stmt) → holds m e ≡ true
      → attempted terms (state (statement (if e s t) ∷ k) m l p g)
      ≡ taken (state (statement s ∷ close ∷ k) m l (push (provisional (level l e) || context p) (may_assign t) p) (counted g))
  unfolding attempt begin branched opened guarded
  attempt_then e s t h = ap (λ (b : Bool). taken (branched b e s t k (state (statement (if e s t) ∷ k) m l p g))) h

  pub attempt_else :
      (e : Expr) (s t : Stmt) → holds m e ≡ false
      → attempted terms (state (statement (if e s t) ∷ k) m l p g)
      ≡ taken (state (statement t ∷ close ∷ k) m l (push (provisional (level l e) || context p) (may_assign s) p) (counted g))
  unfolding attempt begin branched opened guarded
  attempt_else e s t h = ap (λ (b : Bool). taken (branched b e s t k (state (statement (if e s t) ∷ k) m l p g))) h

  pub attempt_turn :
      (e : Expr) (s : Stmt) → holds m e ≡ true
      → attempted terms (state (statement (while e s) ∷ k) m l p g)
      ≡ taken (state (statement s ∷ close ∷ statement (while e s) ∷ k) m l (push (provisional (level l e) || context p) none p) (counted g))
  unfolding attempt begin turned opened guarded
  attempt_turn e s h = ap (λ (b : Bool). taken (turned b e s k (state (statement (while e s) ∷ k) m l p g))) h

  pub attempt_leave :
      (e : Expr) (s : Stmt) → holds m e ≡ false
      → attempted terms (state (statement (while e s) ∷ k) m l p g)
      ≡ taken (state (close ∷ k) m l (push (provisional (level l e) || context p) (may_assign s) p) (counted g))
  unfolding attempt begin turned opened guarded
  attempt_leave e s h = ap (λ (b : Bool). taken (turned b e s k (state (statement (while e s) ∷ k) m l p g))) h

  -- an output: denied, without room, or a record
  module _ (channel : ℕ) (e : Expr) (row : ℕ) where
    -- from the two tests of an output
    looked : Bool → Bool → Attempt
    looked deny room = output_attempt deny room row (level l e) (recorded channel e k (state (statement (output channel e row) ∷ k) m l p g))

    pub attempt_denied :
        denies channel e l p ≡ true
        → attempted terms (state (statement (output channel e row) ∷ k) m l p g) ≡ denied row (level l e)
    unfolding attempt begin output_attempt is_denied guarded looked
    attempt_denied deny = ap (λ (b : Bool). looked b (ltb (length g.records) terms.room)) deny

    pub attempt_roomless :
        denies channel e l p ≡ false → ltb (length g.records) terms.room ≡ false
        → attempted terms (state (statement (output channel e row) ∷ k) m l p g) ≡ roomless row
    unfolding attempt begin output_attempt is_denied guarded looked
    attempt_roomless pass room = ap₂ looked pass room

    pub attempt_record :
        denies channel e l p ≡ false → ltb (length g.records) terms.room ≡ true
        → attempted terms (state (statement (output channel e row) ∷ k) m l p g)
        ≡ taken (state k m l p (noted (record { channel = channel; value = value m e }) g))
    unfolding attempt begin output_attempt is_denied guarded looked recorded
    attempt_record pass room = ap₂ looked pass room

-- ---- what a run comes to, by what comes of going on

module _ (terms : Terms) (b : ℕ) (σ : State) where
  pub run_taken : (next : State) → attempted terms σ ≡ taken next → run terms (suc b) σ ≡ run terms b next
  unfolding run follow
  run_taken next e = ap (follow (run terms b) σ) e

  pub run_stopped :
      (row because : ℕ) → attempted terms σ ≡ denied row because → run terms (suc b) σ ≡ outcome (Ended.Stopped row because) σ
  unfolding run follow
  run_stopped row because e = ap (follow (run terms b) σ) e

  pub run_full : (row : ℕ) → attempted terms σ ≡ roomless row → run terms (suc b) σ ≡ outcome (Ended.NoRoom row) σ
  unfolding run follow
  run_full row e = ap (follow (run terms b) σ) e

module _ (terms : Terms) where
  -- nothing is pending: done, whatever the budget
  pub run_idle : (b : ℕ) (σ : State) → σ.pending ≡ [] → run terms b σ ≡ outcome Ended.Done σ
  unfolding run at_budget attempt follow
  run_idle zero σ e = ap (λ (k : List Item). outcome (at_budget k) σ) e
  run_idle (suc b) σ e = ap (λ (k : List Item). follow (run terms b) σ (attempt terms k σ)) e

  -- something is pending and the budget is used up
  pub run_out : (σ : State) (item : Item) (k : List Item) → σ.pending ≡ item ∷ k → run terms 0 σ ≡ outcome Ended.Spent σ
  unfolding run at_budget
  run_out σ item k e = ap (λ (k : List Item). outcome (at_budget k) σ) e

-- ---- the same, for what a run shows

module _ (terms : Terms) (k : List Item) (m : List ℕ) (l : ℕ) (p : List ℕ) (g : Log) where
  pub run_done : (budget : ℕ) → final terms budget (state [] m l p g) ≡ reached (outcome Ended.Done (state [] m l p g))
  run_done budget = ap reached (run_idle terms budget (state [] m l p g) refl)

  pub run_spent : (item : Item) → final terms 0 (state (item ∷ k) m l p g) ≡ reached (outcome Ended.Spent (state k m l p g))
  run_spent item = ap reached (run_out terms (state (item ∷ k) m l p g) item k refl)

  follow_at :
      (onward : State → Outcome) (k k' : List Item) (a : Attempt)
      → reached (follow onward (state k m l p g) a) ≡ reached (follow onward (state k' m l p g) a)
  unfolding follow
  follow_at onward k k' finished = refl
  follow_at onward k k' (denied row because) = refl
  follow_at onward k k' (roomless row) = refl
  follow_at onward k k' (taken next) = refl

  pub run_sequence :
      (budget : ℕ) (s t : Stmt)
      → final terms budget (state (statement (sequence s t) ∷ k) m l p g) ≡ final terms budget (state (statement s ∷ statement t ∷ k) m l p g)
  unfolding run at_budget
  run_sequence zero s t = refl
  run_sequence (suc budget) s t =
      follow_at (run terms budget) (statement (sequence s t) ∷ k) (statement s ∷ statement t ∷ k)
      (attempted terms (state (statement (sequence s t) ∷ k) m l p g))
      ∙ ap (λ (a : Attempt). reached (follow (run terms budget) (state (statement s ∷ statement t ∷ k) m l p g) a))
      (attempt_sequence terms k m l p g s t)

  module _ (budget : ℕ) where
    shows : (σ next : State) → attempted terms σ ≡ taken next → final terms (suc budget) σ ≡ final terms budget next
    shows σ next e = ap reached (run_taken terms budget σ next e)

    pub run_skip : final terms (suc budget) (state (statement skip ∷ k) m l p g) ≡ final terms budget (state k m l p (counted g))
    run_skip = shows _ _ (attempt_skip terms k m l p g)

    pub run_assign :
        (v : ℕ) (e : Expr)
        → final terms (suc budget) (state (statement (assign v e) ∷ k) m l p g)
        ≡ final terms budget (state k (set m v (value m e)) (put v (provisional (level l e) || context p) l) p (counted g))
    run_assign v e = shows _ _ (attempt_assign terms k m l p g v e)

    pub run_close_empty : final terms (suc budget) (state (close ∷ k) m l [] g) ≡ final terms budget (state k m l [] (counted g))
    run_close_empty = shows _ _ (attempt_close_empty terms k m l p g)

    pub run_close :
        (top : ℕ) → final terms (suc budget) (state (close ∷ k) m l (top ∷ p) g) ≡ final terms budget (state k m (union top l) p (counted g))
    run_close top = shows _ _ (attempt_close terms k m l p g top)

    pub run_then :
        (e : Expr) (s t : Stmt) → holds m e ≡ true
        → final terms (suc budget) (state (statement (if e s t) ∷ k) m l p g)
        ≡ final terms budget (state (statement s ∷ close ∷ k) m l (push (provisional (level l e) || context p) (may_assign t) p) (counted g))
    run_then e s t h = shows _ _ (attempt_then terms k m l p g e s t h)

    pub run_else :
        (e : Expr) (s t : Stmt) → holds m e ≡ false
        → final terms (suc budget) (state (statement (if e s t) ∷ k) m l p g)
        ≡ final terms budget (state (statement t ∷ close ∷ k) m l (push (provisional (level l e) || context p) (may_assign s) p) (counted g))
    run_else e s t h = shows _ _ (attempt_else terms k m l p g e s t h)

    pub run_turn :
        (e : Expr) (s : Stmt) → holds m e ≡ true
        → final terms (suc budget) (state (statement (while e s) ∷ k) m l p g)
        ≡ final terms budget
        (state (statement s ∷ close ∷ statement (while e s) ∷ k) m l (push (provisional (level l e) || context p) none p) (counted g))
    run_turn e s h = shows _ _ (attempt_turn terms k m l p g e s h)

    pub run_leave :
        (e : Expr) (s : Stmt) → holds m e ≡ false
        → final terms (suc budget) (state (statement (while e s) ∷ k) m l p g)
        ≡ final terms budget (state (close ∷ k) m l (push (provisional (level l e) || context p) (may_assign s) p) (counted g))
    run_leave e s h = shows _ _ (attempt_leave terms k m l p g e s h)

    module _ (channel : ℕ) (e : Expr) (row : ℕ) where
      pub run_denied_lem :
          denies channel e l p ≡ true
          → final terms (suc budget) (state (statement (output channel e row) ∷ k) m l p g)
          ≡ reached (outcome (Ended.Stopped row (level l e)) (state k m l p g))
      run_denied_lem deny = ap reached (run_stopped terms budget _ row _ (attempt_denied terms k m l p g channel e row deny))

      pub run_roomless :
          denies channel e l p ≡ false → ltb (length g.records) terms.room ≡ false
          → final terms (suc budget) (state (statement (output channel e row) ∷ k) m l p g)
          ≡ reached (outcome (Ended.NoRoom row) (state k m l p g))
      run_roomless pass room = ap reached (run_full terms budget _ row (attempt_roomless terms k m l p g channel e row pass room))

      pub run_record :
          denies channel e l p ≡ false → ltb (length g.records) terms.room ≡ true
          → final terms (suc budget) (state (statement (output channel e row) ∷ k) m l p g)
          ≡ final terms budget (state k m l p (noted (record { channel = channel; value = value m e }) g))
      run_record pass room = shows _ _ (attempt_record terms k m l p g channel e row pass room)
