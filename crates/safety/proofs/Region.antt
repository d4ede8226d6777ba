-- Confinement: what runs in a provisional region shows the stations nothing, and leaves the same marks whichever way it
-- goes. A region is a statement under a pile that is not empty, or an if or while whose test is provisional.
use Prim.Native.Nat.{ℕ, zero, suc, ◌≤◌}
use native.Mathlib.Omega.{arith}
use mathlib.Core.Bool.{Bool, true, false, cond, ◌||◌, ◌&&◌, or-true}
use mathlib.Core.List.{List, [], ◌∷◌, ◌++◌}
use mathlib.Core.Logic.{◌≢◌}
use mathlib.Core.Path.{◌≡◌, refl, sym, ap, ap₂, ◌∙◌, subst}
use lib.Dec.{eqb, ltb}
use lib.ListN.{length, get_or, set, length-set}
use lib.Seq.{get_or-set_other}
use Rattle.rules.specs.declared.Ended.{Ended}
use Rattle.rules.specs.Marks.{none, has, put, only, union, provisional}
use Rattle.rules.specs.Trees.{Expr, Stmt, skip, assign, sequence, if, while, output}
use Rattle.rules.specs.Values.{value, holds, level, may_assign}
use Rattle.rules.specs.Running.{Item, statement, close, Record, Log, state, Terms, context, push, counted, noted, outcome, denies}
use Rattle.rules.specs.Answers.{verdict, Whole, reached, final}
use Rattle.rules.proofs.MarkLaws.{has_only_same, union_none_right, union_comm, union_assoc, union_self, put_union, not_in_union, subset_union_left}
use Rattle.rules.proofs.AgreeLaws.{level_rises}
use Rattle.rules.proofs.RunLaws.{run_spent, run_sequence, run_skip, run_assign, run_close, run_then, run_else, run_turn, run_leave, run_denied_lem, run_roomless, run_record}
use Rattle.safety.specs.Stations.{settled_records}

-- ---- words

-- the memories are equal outside a set
pub record Same (a : ℕ) (m m' : List ℕ) : Type 0 where
  pub long : length m ≡ length m'
  pub outside : (v : ℕ) → has a v ≡ false → get_or m v 0 ≡ get_or m' v 0

-- What a region comes to, from memory m, marks l, pile p and records r, with the items k after it: the run ends within it,
-- not done, and the stations have seen nothing more; or it goes on with k, the region's variables marked, memory as it was
-- outside them, the same pile, and nothing more for the stations.
pub data Passed (terms : Terms) (a : ℕ) (k : List Item) (m : List ℕ) (l : ℕ) (p : List ℕ) (r : List Record) (b : ℕ) (w : Whole) : Type 0 where
  ends : (w.said ≡ verdict 0 0 → ⊥) → settled_records w.records ≡ settled_records r → Passed terms a k m l p r b w
  through :
      (b' : ℕ) (m' : List ℕ) (g' : Log) → b' ≤ b → w ≡ final terms b' (state k m' (union l a) p g')
      → Same a m m' → settled_records g'.records ≡ settled_records r → Passed terms a k m l p r b w

pub not_done : (number place : ℕ) → number ≢ 0 → verdict number place ≡ verdict 0 0 → ⊥
not_done number place other e = let z : number ≡ 0 = cc in other z

-- ---- memory outside a set

same_refl : (a : ℕ) (m : List ℕ) → Same a m m
same_refl a m = record { long = refl; outside = λ v h. refl }

-- equal outside one set, and then outside another: equal outside both
same_union : (a c : ℕ) {m m' m'' : List ℕ} → Same a m m' → Same c m' m'' → Same (union a c) m m''
same_union a c s t = record {
  long = s.long ∙ t.long;
  outside = λ v h.
      let apart = not_in_union a c v h in
      s.outside v apart.0 ∙ t.outside v apart.1;
}

same_left : (a c : ℕ) {m m' : List ℕ} → Same a m m' → Same (union a c) m m'
same_left a c {m} {m'} s = same_union a c s (same_refl c m')

same_right : (a c : ℕ) {m m' : List ℕ} → Same c m m' → Same (union a c) m m'
same_right a c {m} {m'} s = same_union a c (same_refl a m) s

same_set : (v x : ℕ) (m : List ℕ) → Same (only v) m (set m v x)
same_set v x m = record {
  long = sym (length-set m v x);
  outside = λ w h. sym (get_or-set_other m v w x 0 (λ e. differs w h e));
}
  where
    differs : (w : ℕ) → has (only v) w ≡ false → w ≡ v → ⊥
    differs w h e =
        let z : ◌≡◌ {A = Bool} true false = sym (has_only_same v) ∙ ap (λ (u : ℕ). has (only v) u) (sym e) ∙ h in
        let n : ◌≡◌ {A = ℕ} 0 1 = cc in
        omega arith

-- ---- records

pub settled_snoc : (r : List Record) (x : Record) → eqb x.channel 0 ≡ false → settled_records (r ++ (x ∷ [])) ≡ settled_records r
settled_snoc [] x h = ap (λ (b : Bool). cond b (x ∷ []) []) h
settled_snoc (y ∷ r) x h =
    ap (λ (rest : List Record). cond (eqb y.channel 0) (y ∷ rest) rest) (settled_snoc r x h)

-- ---- one region after another

module _ (terms : Terms) where
  -- the budget is used up inside
  spent :
      (a : ℕ) (k : List Item) (m : List ℕ) (l : ℕ) (p : List ℕ) (r : List Record) (b : ℕ) (item : Item) (k' : List Item) (m' : List ℕ) (l' : ℕ)
      (p' : List ℕ) (g' : Log) → settled_records g'.records ≡ settled_records r
      → Passed terms a k m l p r b (final terms 0 (state (item ∷ k') m' l' p' g'))
  spent a k m l p r b item k' m' l' p' g' e =
      let w : final terms 0 (state (item ∷ k') m' l' p' g') ≡ reached (outcome Ended.Spent (state k' m' l' p' g')) =
      run_spent terms k' m' l' p' g' item
      in
      ends (λ d. not_done 2 0 (omega arith) (sym (ap (λ (x : Whole). x.said) w) ∙ d))
      (ap (λ (x : Whole). settled_records x.records) w ∙ e)

  -- the same run in another form
  moved :
      (a : ℕ) (k : List Item) (m : List ℕ) (l : ℕ) (p : List ℕ) (r : List Record) (b b' : ℕ) (w w' : Whole) → w ≡ w' → b' ≤ b
      → Passed terms a k m l p r b' w' → Passed terms a k m l p r b w
  moved a k m l p r b b' w w' e h (ends d f) =
      ends (λ done. d (sym (ap (λ (x : Whole). x.said) e) ∙ done)) (ap (λ (x : Whole). settled_records x.records) e ∙ f)
  moved a k m l p r b b' w w' e h (through b'' m'' g'' h'' eq s f) = through b'' m'' g'' (omega arith) (e ∙ eq) s f

  -- Where the region over a goes on, the run is in another region, over c: together they are one over both. The pile may
  -- have been higher in the first.
  then_on :
      (a c : ℕ) (k k' : List Item) (m : List ℕ) (l : ℕ) (p p' : List ℕ) (r : List Record) (b : ℕ) (w : Whole)
      → Passed terms a k' m l p' r b w
      → ((b' : ℕ) (m' : List ℕ) (g' : Log) → b' ≤ b
      → Passed terms c k m' (union l a) p g'.records b' (final terms b' (state k' m' (union l a) p' g')))
      → Passed terms (union a c) k m l p r b w
  then_on a c k k' m l p p' r b w (ends d e) next = ends d e
  then_on a c k k' m l p p' r b w (through b' m' g' h eq s e) next =
      go (moved c k m' (union l a) p g'.records b' b' w (final terms b' (state k' m' (union l a) p' g')) eq (omega arith) (next b' m' g' h))
    where
      go : Passed terms c k m' (union l a) p g'.records b' w → Passed terms (union a c) k m l p r b w
      go (ends d f) = ends d (f ∙ e)
      go (through b'' m'' g'' h'' eq'' s'' f) =
          through b'' m'' g'' (omega arith)
          (eq'' ∙ ap (λ (x : ℕ). final terms b'' (state k m'' x p g'')) (union_assoc l a c))
          (same_union a c s s'') (f ∙ e)

  -- the close that ends a region adds the set that was pushed when it began
  closing :
      (c : ℕ) (k : List Item) (m : List ℕ) (l : ℕ) (p : List ℕ) (b : ℕ) (g : Log)
      → Passed terms c k m l p g.records b (final terms b (state (close ∷ k) m l (c ∷ p) g))
  closing c k m l p zero g = spent c k m l p g.records 0 close k m l (c ∷ p) g refl
  closing c k m l p (suc b) g =
      through b m (counted g) (omega arith)
      (run_close terms k m l p g b c ∙ ap (λ (x : ℕ). final terms b (state k m x p (counted g))) (union_comm c l)) (same_refl c m) refl

  -- the set of a region, written another way
  over :
      (a c : ℕ) (k : List Item) (m : List ℕ) (l : ℕ) (p : List ℕ) (r : List Record) (b : ℕ) (w : Whole) → a ≡ c
      → Passed terms a k m l p r b w → Passed terms c k m l p r b w
  over a c k m l p r b w e x = subst (λ (y : ℕ). Passed terms y k m l p r b w) e x

  -- ---- the regions

  -- a statement under a pile that is not empty is a region over what it may assign
  abbrev Confined : Stmt → Type 0
  Confined s =
      (b : ℕ) (k : List Item) (m : List ℕ) (l top : ℕ) (p : List ℕ) (g : Log)
      → Passed terms (may_assign s) k m l (top ∷ p) g.records b (final terms b (state (statement s ∷ k) m l (top ∷ p) g))

  -- a branch, and the close that adds what the other branch may assign
  branch :
      (s : Stmt) (c : ℕ) → Confined s → (b : ℕ) (k : List Item) (m : List ℕ) (l : ℕ) (p : List ℕ) (g : Log)
      → Passed terms (union (may_assign s) c) k m l p g.records b (final terms b (state (statement s ∷ close ∷ k) m l (c ∷ p) g))
  branch s c confined b k m l p g =
      then_on (may_assign s) c k (close ∷ k) m l p (c ∷ p) g.records b (final terms b (state (statement s ∷ close ∷ k) m l (c ∷ p) g))
      (confined b (close ∷ k) m l c p g) (λ b' m' g' h. closing c k m' (union l (may_assign s)) p b' g')

  module _ (p : List ℕ) where
    -- an if whose test or context is provisional, with budget for its first step
    if_step :
        (e : Expr) (s t : Stmt) → Confined s → Confined t → (b : ℕ) (k : List Item) (m : List ℕ) (l : ℕ) (g : Log)
        → (provisional (level l e) || context p) ≡ true
        → Passed terms (union (may_assign s) (may_assign t)) k m l p g.records b (final terms (suc b) (state (statement (if e s t) ∷ k) m l p g))
    if_step e s t sc tc b k m l g guards = by (holds m e) refl
      where
        all : ℕ
        all = union (may_assign s) (may_assign t)

        pushed : (c : ℕ) → push (provisional (level l e) || context p) c p ≡ c ∷ p
        pushed c = ap (λ (x : Bool). push x c p) guards

        by : (x : Bool) → holds m e ≡ x → Passed terms all k m l p g.records b (final terms (suc b) (state (statement (if e s t) ∷ k) m l p g))
        by true h =
            moved all k m l p g.records b b _ _
            (run_then terms k m l p g b e s t h
            ∙ ap (λ (x : List ℕ). final terms b (state (statement s ∷ close ∷ k) m l x (counted g))) (pushed (may_assign t)))
            (omega arith) (branch s (may_assign t) sc b k m l p (counted g))
        by false h =
            moved all k m l p g.records b b _ _
            (run_else terms k m l p g b e s t h
            ∙ ap (λ (x : List ℕ). final terms b (state (statement t ∷ close ∷ k) m l x (counted g))) (pushed (may_assign s)))
            (omega arith)
            (over (union (may_assign t) (may_assign s)) all k m l p g.records b _ (union_comm (may_assign t) (may_assign s))
            (branch t (may_assign s) tc b k m l p (counted g)))

    if_region :
        (e : Expr) (s t : Stmt) → Confined s → Confined t → (b : ℕ) (k : List Item) (m : List ℕ) (l : ℕ) (g : Log)
        → (provisional (level l e) || context p) ≡ true
        → Passed terms (union (may_assign s) (may_assign t)) k m l p g.records b (final terms b (state (statement (if e s t) ∷ k) m l p g))
    if_region e s t sc tc zero k m l g guards =
        spent (union (may_assign s) (may_assign t)) k m l p g.records 0 (statement (if e s t)) k m l p g refl
    if_region e s t sc tc (suc b) k m l g guards =
        moved _ k m l p g.records (suc b) b _ _ refl (omega arith) (if_step e s t sc tc b k m l g guards)

    -- a while whose test or context is provisional, with budget for its first step, where again is the same loop with the
    -- body's variables marked and a smaller budget
    while_step :
        (e : Expr) (s : Stmt) → Confined s → (b : ℕ) (k : List Item) (m : List ℕ) (l : ℕ) (g : Log)
        → (provisional (level l e) || context p) ≡ true
        → ((b' : ℕ) (m' : List ℕ) (g' : Log) → b' ≤ b → (provisional (level (union l (may_assign s)) e) || context p) ≡ true
        → Passed terms (may_assign s) k m' (union l (may_assign s)) p g'.records b'
        (final terms b' (state (statement (while e s) ∷ k) m' (union l (may_assign s)) p g')))
        → Passed terms (may_assign s) k m l p g.records b (final terms (suc b) (state (statement (while e s) ∷ k) m l p g))
    while_step e s sc b k m l g guards again = by (holds m e) refl
      where
        a : ℕ
        a = may_assign s

        pushed : (c : ℕ) → push (provisional (level l e) || context p) c p ≡ c ∷ p
        pushed c = ap (λ (x : Bool). push x c p) guards

        still : (x y c : Bool) → (x ≡ true → y ≡ true) → (x || c) ≡ true → (y || c) ≡ true
        still true y c rises h = ap (λ (z : Bool). z || c) (rises refl)
        still false true c rises h = refl
        still false false c rises h = h

        guarded_still : (provisional (level (union l a) e) || context p) ≡ true
        guarded_still =
            still (provisional (level l e)) (provisional (level (union l a) e)) (context p)
            (level_rises l (union l a) (subset_union_left l a) e) guards

        turn : Passed terms a k m l p g.records b (final terms b (state (statement s ∷ close ∷ statement (while e s) ∷ k) m l (none ∷ p) (counted g)))
        turn =
            over (union a a) a k m l p g.records b _ (union_self a)
            (then_on a a k (statement (while e s) ∷ k) m l p p g.records b _
            (over (union a none) a (statement (while e s) ∷ k) m l p g.records b _ (union_none_right a)
            (branch s none sc b (statement (while e s) ∷ k) m l p (counted g)))
            (λ b' m' g' h. again b' m' g' h guarded_still))

        by : (x : Bool) → holds m e ≡ x → Passed terms a k m l p g.records b (final terms (suc b) (state (statement (while e s) ∷ k) m l p g))
        by true h =
            moved a k m l p g.records b b _ _
            (run_turn terms k m l p g b e s h
            ∙ ap (λ (x : List ℕ). final terms b (state (statement s ∷ close ∷ statement (while e s) ∷ k) m l x (counted g))) (pushed none))
            (omega arith) turn
        by false h =
            moved a k m l p g.records b b _ _
            (run_leave terms k m l p g b e s h
            ∙ ap (λ (x : List ℕ). final terms b (state (close ∷ k) m l x (counted g))) (pushed a))
            (omega arith) (closing a k m l p b (counted g))

    -- the whole loop, however often it turns: its test stays provisional, since marks are only added
    while_region :
        (e : Expr) (s : Stmt) → Confined s → (f b : ℕ) → b ≤ f → (k : List Item) (m : List ℕ) (l : ℕ) (g : Log)
        → (provisional (level l e) || context p) ≡ true
        → Passed terms (may_assign s) k m l p g.records b (final terms b (state (statement (while e s) ∷ k) m l p g))
    while_region e s sc zero zero bf k m l g guards = spent (may_assign s) k m l p g.records 0 (statement (while e s)) k m l p g refl
    while_region e s sc zero (suc b) bf k m l g guards = absurd (omega arith)
    while_region e s sc (suc f) zero bf k m l g guards = spent (may_assign s) k m l p g.records 0 (statement (while e s)) k m l p g refl
    while_region e s sc (suc f) (suc b) bf k m l g guards =
        moved _ k m l p g.records (suc b) b _ _ refl (omega arith)
        (while_step e s sc b k m l g guards
        (λ b' m' g' h guards'. while_region e s sc f b' (omega arith) k m' (union l (may_assign s)) g' guards'))

  -- an output in a provisional context: denied on channel 0, and a record that the stations do not read on channel 1
  output_region :
      (channel : ℕ) (e : Expr) (row b : ℕ) (k : List Item) (m : List ℕ) (l top : ℕ) (p : List ℕ) (g : Log) (zeroth : Bool)
      → eqb channel 0 ≡ zeroth
      → Passed terms none k m l (top ∷ p) g.records (suc b) (final terms (suc b) (state (statement (output channel e row) ∷ k) m l (top ∷ p) g))
  output_region channel e row b k m l top p g true h =
      let deny : denies channel e l (top ∷ p) ≡ true =
      ap₂ (λ (x y : Bool). x && y) h (or-true (provisional (level l e)))
      in
      let w = run_denied_lem terms k m l (top ∷ p) g b channel e row deny in
      ends (λ d. not_done 1 row (omega arith) (sym (ap (λ (x : Whole). x.said) w) ∙ d))
      (ap (λ (x : Whole). settled_records x.records) w)
  output_region channel e row b k m l top p g false h = by (ltb (length g.records) terms.room) refl
    where
      passes : denies channel e l (top ∷ p) ≡ false
      passes = ap (λ (x : Bool). x && (provisional (level l e) || true)) h

      by :
          (room : Bool) → ltb (length g.records) terms.room ≡ room
          → Passed terms none k m l (top ∷ p) g.records (suc b) (final terms (suc b) (state (statement (output channel e row) ∷ k) m l (top ∷ p) g))
      by true room =
          through b m (noted (record { channel = channel; value = value m e }) g) (omega arith)
          (run_record terms k m l (top ∷ p) g b channel e row passes room
          ∙ ap (λ (x : ℕ). final terms b (state k m x (top ∷ p) (noted (record { channel = channel; value = value m e }) g)))
          (sym (union_none_right l)))
          (same_refl none m) (settled_snoc g.records (record { channel = channel; value = value m e }) h)
      by false room =
          let w = run_roomless terms k m l (top ∷ p) g b channel e row passes room in
          ends (λ d. not_done 3 row (omega arith) (sym (ap (λ (x : Whole). x.said) w) ∙ d))
          (ap (λ (x : Whole). settled_records x.records) w)

  pub confined : (s : Stmt) → Confined s
  confined skip zero k m l top p g = spent none k m l (top ∷ p) g.records 0 (statement skip) k m l (top ∷ p) g refl
  confined skip (suc b) k m l top p g =
      through b m (counted g) (omega arith)
      (run_skip terms k m l (top ∷ p) g b
      ∙ ap (λ (x : ℕ). final terms b (state k m x (top ∷ p) (counted g))) (sym (union_none_right l)))
      (same_refl none m) refl
  confined (assign v e) zero k m l top p g = spent (only v) k m l (top ∷ p) g.records 0 (statement (assign v e)) k m l (top ∷ p) g refl
  confined (assign v e) (suc b) k m l top p g =
      through b (set m v (value m e)) (counted g) (omega arith)
      (run_assign terms k m l (top ∷ p) g b v e
      ∙ ap (λ (x : ℕ). final terms b (state k (set m v (value m e)) x (top ∷ p) (counted g)))
      (ap (λ (x : Bool). put v x l) (or-true (provisional (level l e))) ∙ put_union v l))
      (same_set v (value m e) m) refl
  confined (sequence s t) b k m l top p g =
      moved (union (may_assign s) (may_assign t)) k m l (top ∷ p) g.records b b _ _ (run_sequence terms k m l (top ∷ p) g b s t) (omega arith)
      (then_on (may_assign s) (may_assign t) k (statement t ∷ k) m l (top ∷ p) (top ∷ p) g.records b _
      (confined s b (statement t ∷ k) m l top p g) (λ b' m' g' h. confined t b' k m' (union l (may_assign s)) top p g'))
  confined (if e s t) b k m l top p g =
      if_region (top ∷ p) e s t (confined s) (confined t) b k m l g (or-true (provisional (level l e)))
  confined (while e s) b k m l top p g =
      while_region (top ∷ p) e s (confined s) b b (omega arith) k m l g (or-true (provisional (level l e)))
  confined (output channel e row) zero k m l top p g =
      spent none k m l (top ∷ p) g.records 0 (statement (output channel e row)) k m l (top ∷ p) g refl
  confined (output channel e row) (suc b) k m l top p g = output_region channel e row b k m l top p g (eqb channel 0) refl

  -- the two regions that a settled context meets, with budget for the first step
  pub if_confined :
      (e : Expr) (s t : Stmt) (b : ℕ) (k : List Item) (m : List ℕ) (l : ℕ) (g : Log) → provisional (level l e) ≡ true
      → Passed terms (union (may_assign s) (may_assign t)) k m l [] g.records b (final terms (suc b) (state (statement (if e s t) ∷ k) m l [] g))
  if_confined e s t b k m l g guards = if_step [] e s t (confined s) (confined t) b k m l g (ap (λ (x : Bool). x || false) guards)

  pub while_confined :
      (e : Expr) (s : Stmt) (b : ℕ) (k : List Item) (m : List ℕ) (l : ℕ) (g : Log) → provisional (level l e) ≡ true
      → Passed terms (may_assign s) k m l [] g.records b (final terms (suc b) (state (statement (while e s) ∷ k) m l [] g))
  while_confined e s b k m l g guards =
      while_step [] e s (confined s) b k m l g (ap (λ (x : Bool). x || false) guards)
      (λ b' m' g' h guards'. while_region [] e s (confined s) b' b' (omega arith) k m' (union l (may_assign s)) g' guards')
