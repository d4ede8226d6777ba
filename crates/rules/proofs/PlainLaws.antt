-- The step equations of the unwatched language.
use Prim.Native.Nat.{ℕ, zero, suc, ◌+◌}
use mathlib.Core.Bool.{Bool, true, cond}
use mathlib.Core.List.{List, [], ◌∷◌, ◌++◌}
use mathlib.Core.Path.{◌≡◌, refl, ap}
use lib.ListN.{set}
use Rattle.rules.specs.Rows.{rows_of}
use Rattle.rules.specs.Trees.{Expr, Stmt, skip, assign, sequence, if, while, output, recipe}
use Rattle.rules.specs.Values.{value, holds}
use Rattle.rules.specs.Running.{Item, statement, close, Record}
use Rattle.rules.specs.Unwatched.{Plain, plain_start, stepped, plain_begin, is_empty, plain_follow, plain_run}

-- an unwatched state by its parts
abbrev pub plain : List Item → List ℕ → List Record → ℕ → Plain
plain pending memory records steps = record { pending = pending; memory = memory; records = records; steps = steps }

pub plain_start_lem : (words m : List ℕ) → plain_start (recipe (rows_of words)) m ≡ plain (statement (recipe (rows_of words)) ∷ []) m [] 0
unfolding plain_start
plain_start_lem words m = refl

-- what is pending matters to a step only by the item that it is taken from
begin_at :
    (s : Stmt) (rest k k' : List Item) (m : List ℕ) (r : List Record) (n : ℕ)
    → plain_begin s rest (plain k m r n) ≡ plain_begin s rest (plain k' m r n)
unfolding plain_begin stepped
begin_at skip rest k k' m r n = refl
begin_at (assign v e) rest k k' m r n = refl
begin_at (sequence s t) rest k k' m r n = begin_at s (statement t ∷ rest) k k' m r n
begin_at (if e s t) rest k k' m r n = refl
begin_at (while e s) rest k k' m r n = refl
begin_at (output channel e row) rest k k' m r n = refl

module _ (m : List ℕ) (r : List Record) (n : ℕ) where
  pub plain_done : (b : ℕ) → plain_run b (plain [] m r n) ≡ record { finished = true; state = plain [] m r n }
  unfolding plain_run plain_follow is_empty
  plain_done zero = refl
  plain_done (suc b) = refl

  module _ (b : ℕ) (k : List Item) where
    pub plain_sequence :
        (s t : Stmt)
        → plain_run (suc b) (plain (statement (sequence s t) ∷ k) m r n) ≡ plain_run (suc b) (plain (statement s ∷ statement t ∷ k) m r n)
    unfolding plain_run plain_follow plain_begin
    plain_sequence s t =
        ap (plain_run b) (begin_at s (statement t ∷ k) (statement (sequence s t) ∷ k) (statement s ∷ statement t ∷ k) m r n)

    pub plain_skip : plain_run (suc b) (plain (statement skip ∷ k) m r n) ≡ plain_run b (plain k m r (n + 1))
    unfolding plain_run plain_follow plain_begin stepped
    plain_skip = refl

    pub plain_assign :
        (v : ℕ) (e : Expr)
        → plain_run (suc b) (plain (statement (assign v e) ∷ k) m r n) ≡ plain_run b (plain k (set m v (value m e)) r (n + 1))
    unfolding plain_run plain_follow plain_begin stepped
    plain_assign v e = refl

    pub plain_if :
        (e : Expr) (s t : Stmt) (x : Bool) → holds m e ≡ x
        → plain_run (suc b) (plain (statement (if e s t) ∷ k) m r n) ≡ plain_run b (plain (statement (cond x s t) ∷ close ∷ k) m r (n + 1))
    unfolding plain_run plain_follow plain_begin stepped
    plain_if e s t x h = ap (λ (y : Bool). plain_run b (plain (statement (cond y s t) ∷ close ∷ k) m r (n + 1))) h

    pub plain_while :
        (e : Expr) (s : Stmt) (x : Bool) → holds m e ≡ x
        → plain_run (suc b) (plain (statement (while e s) ∷ k) m r n)
        ≡ plain_run b (plain (cond x (statement s ∷ close ∷ statement (while e s) ∷ k) (close ∷ k)) m r (n + 1))
    unfolding plain_run plain_follow plain_begin stepped
    plain_while e s x h =
        ap (λ (y : Bool). plain_run b (plain (cond y (statement s ∷ close ∷ statement (while e s) ∷ k) (close ∷ k)) m r (n + 1))) h

    pub plain_output :
        (channel : ℕ) (e : Expr) (row : ℕ)
        → plain_run (suc b) (plain (statement (output channel e row) ∷ k) m r n)
        ≡ plain_run b (plain k m (r ++ (record { channel = channel; value = value m e } ∷ [])) (n + 1))
    unfolding plain_run plain_follow plain_begin stepped
    plain_output channel e row = refl

    pub plain_close : plain_run (suc b) (plain (close ∷ k) m r n) ≡ plain_run b (plain k m r (n + 1))
    unfolding plain_run plain_follow stepped
    plain_close = refl
