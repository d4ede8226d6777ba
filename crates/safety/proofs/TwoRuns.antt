-- Noninterference over states: two runs from states that agree in everything settled show the stations the same. What each
-- run is given (its terms and its budget) is its own.
use Prim.Native.Nat.{ℕ, zero, suc, ◌+◌, ◌≤◌}
use native.Mathlib.Omega.{arith}
use mathlib.Core.Bool.{Bool, true, false, cond, ◌||◌, ◌&&◌, true≢false}
use mathlib.Core.List.{List, [], ◌∷◌, ◌++◌, append_assoc, append-nil}
use mathlib.Core.Logic.{◌≢◌, ◌⊎◌, inl, inr}
use mathlib.Core.Path.{◌≡◌, refl, sym, ap, ap₂, ◌∙◌, subst}
use lib.Dec.{eqb, ltb}
use lib.ListN.{length, get_or, set, length-set, get_or-eq_default}
use lib.Seq.{get_or-set_same, get_or-set_other}
use borrow.Author.Tests.{eqb-true, eqb-false, ltb-true, ltb-false}
use Rattle.rules.specs.Marks.{has, put, union, provisional}
use Rattle.rules.specs.Trees.{Expr, Stmt, skip, assign, sequence, if, while, output}
use Rattle.rules.specs.Values.{value, holds, level, may_assign}
use Rattle.rules.specs.Running.{Item, statement, close, Record, Log, state, Terms, push, counted, denies}
use Rattle.rules.specs.Answers.{verdict, Whole, final}
use Rattle.rules.proofs.MarkLaws.{has_put_same, has_put_other, not_in_union}
use Rattle.rules.proofs.AgreeLaws.{value_agree, holds_agree}
use Rattle.rules.proofs.RunLaws.{run_done, run_spent, run_sequence, run_skip, run_assign, run_close_empty, run_then, run_else, run_turn, run_leave, run_denied_lem, run_roomless, run_record}
use Rattle.rules.proofs.RunInvariants.{Keeps, run_keeps}
use Rattle.safety.specs.Stations.{settled_records, Begins}
use Rattle.safety.specs.Demands.{EitherBegins, SameToTheStations}
use Rattle.safety.proofs.Region.{Passed, ends, through, not_done, settled_snoc, if_confined, while_confined}

-- ---- what the stations read only grows

settled_append : (a b : List Record) → settled_records (a ++ b) ≡ settled_records a ++ settled_records b
settled_append [] b = refl
settled_append (x ∷ a) b =
    ap (λ (r : List Record). cond (eqb x.channel 0) (x ∷ r) r) (settled_append a b)
    ∙ split (eqb x.channel 0) x (settled_records a) (settled_records b)
  where
    split : (c : Bool) (x : Record) (r t : List Record) → cond c (x ∷ (r ++ t)) (r ++ t) ≡ cond c (x ∷ r) r ++ t
    split true x r t = refl
    split false x r t = refl

begins_more : (a b c : List Record) → Begins a b → Begins a (b ++ c)
begins_more a b c (rest, e) = (rest ++ c, ap (λ (r : List Record). r ++ c) e ∙ append_assoc a rest c)

-- the settled records from which a state set out begin what the stations read in the end
grows :
    (terms : Terms) (b : ℕ) (k : List Item) (m : List ℕ) (l : ℕ) (p : List ℕ) (g : Log)
    → Begins (settled_records g.records) (settled_records (final terms b (state k m l p g)).records)
grows terms b k m l p g = run_keeps (λ k' m' l' p' g'. Begins (settled_records g.records) (settled_records g'.records)) keeps terms b (state k m l p g) ([], sym (append-nil (settled_records g.records)))
  where
    keeps : Keeps (λ k' m' l' p' g'. Begins (settled_records g.records) (settled_records g'.records))
    keeps = record {
      skip_kept = λ f. f;
      assign_kept = λ f. f;
      sequence_kept = λ f. f;
      then_kept = λ f. f;
      else_kept = λ f. f;
      turn_kept = λ f. f;
      leave_kept = λ f. f;
      close_kept = λ f. f;
      close_empty_kept = λ f. f;
      record_kept = λ {k} {m} {l} {p} {g = g'} {channel} {e} f.
          subst (Begins (settled_records g.records)) (sym (settled_append g'.records (record { channel = channel; value = value m e } ∷ [])))
          (begins_more (settled_records g.records) (settled_records g'.records) _ f);
    }

-- ---- the relation between two states with the same pending items and marks, and piles that are empty

pub record Related (l : ℕ) (m : List ℕ) (r : List Record) (m' : List ℕ) (r' : List Record) : Type 0 where
  pub long : length m ≡ length m'
  pub same : (v : ℕ) → has l v ≡ false → get_or m v 0 ≡ get_or m' v 0
  pub seen : settled_records r ≡ settled_records r'

-- what two runs come to: one's settled records begin the other's, and if both are done the stations see the same
pub record Alike (w w' : Whole) : Type 0 where
  pub begins : EitherBegins w w'
  pub done : w.said ≡ verdict 0 0 → w'.said ≡ verdict 0 0 → SameToTheStations w w'

-- the first run ended without showing more than it set out with, and the second goes on from there; and the other way round
first_ended :
    (w w' : Whole) (r r' : List Record) → (w.said ≡ verdict 0 0 → ⊥) → settled_records w.records ≡ settled_records r
    → settled_records r ≡ settled_records r' → Begins (settled_records r') (settled_records w'.records) → Alike w w'
first_ended w w' r r' stopped shown seen more = record {
  begins = inl (subst (λ (a : List Record). Begins a (settled_records w'.records)) (sym (shown ∙ seen)) more);
  done = λ d d'. absurd (stopped d);
}

second_ended :
    (w w' : Whole) (r r' : List Record) → (w'.said ≡ verdict 0 0 → ⊥) → settled_records w'.records ≡ settled_records r'
    → settled_records r ≡ settled_records r' → Begins (settled_records r) (settled_records w.records) → Alike w w'
second_ended w w' r r' stopped shown seen more = record {
  begins = inr (subst (λ (a : List Record). Begins a (settled_records w.records)) (sym (shown ∙ sym seen)) more);
  done = λ d d'. absurd (stopped d');
}

-- ---- an assignment, and a record

-- the same value stored at the same place of two memories
stored_agree :
    (v x : ℕ) (m m' : List ℕ) → length m ≡ length m' → (w : ℕ) → (w ≢ v → get_or m w 0 ≡ get_or m' w 0)
    → get_or (set m v x) w 0 ≡ get_or (set m' v x) w 0
stored_agree v x m m' long w other = by (eqb w v) refl
  where
    at : (b : Bool) → ltb v (length m) ≡ b → get_or (set m v x) v 0 ≡ get_or (set m' v x) v 0
    at true h =
        let in_range : suc v ≤ length m = ltb-true v (length m) h in
        get_or-set_same m v x 0 in_range ∙ sym (get_or-set_same m' v x 0 (omega arith))
    at false h =
        let out : length m ≤ v = ltb-false v (length m) h in
        get_or-eq_default (set m v x) 0 (omega (arith, length-set m v x))
        ∙ sym (get_or-eq_default (set m' v x) 0 (omega (arith, length-set m' v x)))

    by : (b : Bool) → eqb w v ≡ b → get_or (set m v x) w 0 ≡ get_or (set m' v x) w 0
    by true e =
        subst (λ (u : ℕ). get_or (set m v x) u 0 ≡ get_or (set m' v x) u 0) (sym (eqb-true w v e)) (at (ltb v (length m)) refl)
    by false e =
        let differs : w ≢ v = eqb-false w v e in
        get_or-set_other m v w x 0 differs ∙ other differs ∙ sym (get_or-set_other m' v w x 0 differs)

related_assign :
    (v : ℕ) (e : Expr) (l : ℕ) (m : List ℕ) (r : List Record) (m' : List ℕ) (r' : List Record) → Related l m r m' r'
    → Related (put v (provisional (level l e) || false) l) (set m v (value m e)) r (set m' v (value m' e)) r'
related_assign v e l m r m' r' related = record {
  long = length-set m v (value m e) ∙ related.long ∙ sym (length-set m' v (value m' e));
  same = by (provisional (level l e)) refl;
  seen = related.seen;
}
  where
    unmarked : (b : Bool) (w : ℕ) → w ≢ v → has (put v b l) w ≡ false → get_or m w 0 ≡ get_or m' w 0
    unmarked b w differs h = related.same w (sym (has_put_other v w b l differs) ∙ h)

    by :
        (b : Bool) → provisional (level l e) ≡ b → (w : ℕ) → has (put v (b || false) l) w ≡ false
        → get_or (set m v (value m e)) w 0 ≡ get_or (set m' v (value m' e)) w 0
    by true known w h =
        let differs : w ≢ v = λ e'. true≢false (sym (has_put_same v true l) ∙ ap (has (put v true l)) (sym e') ∙ h) in
        get_or-set_other m v w (value m e) 0 differs ∙ unmarked true w differs h ∙ sym (get_or-set_other m' v w (value m' e) 0 differs)
    by false known w h =
        stored_agree v (value m e) m m' related.long w (λ differs. unmarked false w differs h)
        ∙ ap (λ (x : ℕ). get_or (set m' v x) w 0) (value_agree l m m' related.same e known)

-- an output that is not denied
related_record :
    (channel : ℕ) (e : Expr) (l : ℕ) (m : List ℕ) (r : List Record) (m' : List ℕ) (r' : List Record)
    → (denies channel e l []) ≡ false → Related l m r m' r'
    → Related l m (r ++ (record { channel = channel; value = value m e } ∷ [])) m' (r' ++ (record { channel = channel; value = value m' e } ∷ []))
related_record channel e l m r m' r' passes related = record {
  long = related.long;
  same = related.same;
  seen = by (eqb channel 0) refl;
}
  where
    x : ℕ → Record
    x y = record { channel = channel; value = y }

    settled : (b c : Bool) → b ≡ true → (b && (c || false)) ≡ false → c ≡ false
    settled true true h e = e
    settled true false h e = refl
    settled false c h e = absurd (true≢false (sym h))

    by : (b : Bool) → eqb channel 0 ≡ b → settled_records (r ++ (x (value m e) ∷ [])) ≡ settled_records (r' ++ (x (value m' e) ∷ []))
    by true h =
        settled_append r (x (value m e) ∷ [])
        ∙ ap₂ (λ (a : List Record) (y : ℕ). a ++ settled_records (x y ∷ [])) related.seen
        (value_agree l m m' related.same e (settled (eqb channel 0) (provisional (level l e)) h passes))
        ∙ sym (settled_append r' (x (value m' e) ∷ []))
    by false h = settled_snoc r (x (value m e)) h ∙ related.seen ∙ sym (settled_snoc r' (x (value m' e)) h)

-- ---- the two runs, step by step

module _ (terms terms' : Terms) where
  -- The two runs with these budgets and these items pending come to the same.
  abbrev Runs : ℕ → ℕ → List Item → Type 0
  Runs b b' k =
      (m : List ℕ) (l : ℕ) (g : Log) (m' : List ℕ) (g' : Log) → Related l m g.records m' g'.records
      → Alike (final terms b (state k m l [] g)) (final terms' b' (state k m' l [] g'))

  -- with budgets of at most f in all, whatever is pending
  abbrev Within : ℕ → Type 0
  Within f = (b b' : ℕ) → b + b' ≤ f → (k : List Item) → Runs b b' k

  -- the same two runs in another form
  moved :
      (w₁ w w₁' w' : Whole) → w₁ ≡ w → w₁' ≡ w' → Alike w w' → Alike w₁ w₁'
  moved w₁ w w₁' w' e e' x = subst (λ (y : Whole). Alike y w₁') (sym e) (subst (λ (y : Whole). Alike w y) (sym e') x)

  first_spent : (b' : ℕ) (item : Item) (k : List Item) → Runs 0 b' (item ∷ k)
  first_spent b' item k m l g m' g' related =
      let w = run_spent terms k m l [] g item in
      first_ended _ _ g.records g'.records (λ d. not_done 2 0 (omega arith) (sym (ap (λ (x : Whole). x.said) w) ∙ d))
      (ap (λ (x : Whole). settled_records x.records) w) related.seen (grows terms' b' (item ∷ k) m' l [] g')

  second_spent : (b : ℕ) (item : Item) (k : List Item) → Runs b 0 (item ∷ k)
  second_spent b item k m l g m' g' related =
      let w = run_spent terms' k m' l [] g' item in
      second_ended _ _ g.records g'.records (λ d. not_done 2 0 (omega arith) (sym (ap (λ (x : Whole). x.said) w) ∙ d))
      (ap (λ (x : Whole). settled_records x.records) w) related.seen (grows terms b (item ∷ k) m l [] g)

  both_done : (b b' : ℕ) → Runs b b' []
  both_done b b' m l g m' g' related =
      moved _ _ _ _ (run_done terms [] m l [] g b) (run_done terms' [] m' l [] g' b')
      (record {
        begins = inl ([], sym related.seen ∙ nil (settled_records g.records));
        done = λ d d'. record { records = related.seen; marks = refl; memory = related.same };
      })
    where
      nil : (a : List Record) → a ≡ a ++ []
      nil [] = refl
      nil (x ∷ a) = ap (λ (t : List Record). x ∷ t) (nil a)

  -- both runs meet a region over the same variables, and leave it in related states, or one of them ends within it
  regions :
      (f b b' a : ℕ) → b + b' ≤ f → Within f → (k : List Item) (m : List ℕ) (l : ℕ) (r : List Record) (m' : List ℕ) (r' : List Record) (w w' : Whole)
      → Related l m r m' r' → Begins (settled_records r) (settled_records w.records) → Begins (settled_records r') (settled_records w'.records)
      → Passed terms a k m l [] r b w → Passed terms' a k m' l [] r' b' w' → Alike w w'
  regions f b b' a few onward k m l r m' r' w w' related more more' (ends stopped shown) x' =
      first_ended w w' r r' stopped shown related.seen more'
  regions f b b' a few onward k m l r m' r' w w' related more more' (through b₁ m₁ g₁ h eq s e) (ends stopped shown) =
      second_ended w w' r r' stopped shown related.seen more
  regions f b b' a few onward k m l r m' r' w w' related more more' (through b₁ m₁ g₁ h eq s e) (through b₁' m₁' g₁' h' eq' s' e') =
      moved w _ w' _ eq eq'
      (onward b₁ b₁' (omega arith) k m₁ (union l a) g₁ m₁' g₁'
      (record {
        long = sym s.long ∙ related.long ∙ s'.long;
        same = λ v unmarked.
            let apart = not_in_union l a v unmarked in
            sym (s.outside v apart.1) ∙ related.same v apart.0 ∙ s'.outside v apart.1;
        seen = e ∙ related.seen ∙ sym e';
      }))

  -- a settled test pushes nothing on an empty pile
  unpushed : (l : ℕ) (e : Expr) (c : ℕ) → provisional (level l e) ≡ false → push (provisional (level l e) || false) c [] ≡ []
  unpushed l e c known = ap (λ (x : Bool). push (x || false) c []) known

  module _ (f b b' : ℕ) (few : b + b' ≤ f) (onward : Within f) (k : List Item) where
    both_if : (e : Expr) (s t : Stmt) → Runs (suc b) (suc b') (statement (if e s t) ∷ k)
    both_if e s t m l g m' g' related = by (provisional (level l e)) refl
      where
        opened : (s' : Stmt) (c : ℕ) → provisional (level l e) ≡ false
            → Alike
            (final terms b (state (statement s' ∷ close ∷ k) m l (push (provisional (level l e) || false) c []) (counted g)))
            (final terms' b' (state (statement s' ∷ close ∷ k) m' l (push (provisional (level l e) || false) c []) (counted g')))
        opened s' c known =
            subst (λ (p : List ℕ). Alike (final terms b (state (statement s' ∷ close ∷ k) m l p (counted g))) (final terms' b' (state (statement s' ∷ close ∷ k) m' l p (counted g'))))
            (sym (unpushed l e c known)) (onward b b' few (statement s' ∷ close ∷ k) m l (counted g) m' (counted g') related)

        settled : (x : Bool) → provisional (level l e) ≡ false → holds m e ≡ x
            → Alike (final terms (suc b) (state (statement (if e s t) ∷ k) m l [] g)) (final terms' (suc b') (state (statement (if e s t) ∷ k) m' l [] g'))
        settled true known h =
            moved _ _ _ _ (run_then terms k m l [] g b e s t h)
            (run_then terms' k m' l [] g' b' e s t (sym (holds_agree l m m' related.same e known) ∙ h)) (opened s (may_assign t) known)
        settled false known h =
            moved _ _ _ _ (run_else terms k m l [] g b e s t h)
            (run_else terms' k m' l [] g' b' e s t (sym (holds_agree l m m' related.same e known) ∙ h)) (opened t (may_assign s) known)

        by : (x : Bool) → provisional (level l e) ≡ x
            → Alike (final terms (suc b) (state (statement (if e s t) ∷ k) m l [] g)) (final terms' (suc b') (state (statement (if e s t) ∷ k) m' l [] g'))
        by true known =
            regions f b b' (union (may_assign s) (may_assign t)) few onward k m l g.records m' g'.records _ _ related
            (grows terms (suc b) (statement (if e s t) ∷ k) m l [] g) (grows terms' (suc b') (statement (if e s t) ∷ k) m' l [] g')
            (if_confined terms e s t b k m l g known) (if_confined terms' e s t b' k m' l g' known)
        by false known = settled (holds m e) known refl

    both_while : (e : Expr) (s : Stmt) → Runs (suc b) (suc b') (statement (while e s) ∷ k)
    both_while e s m l g m' g' related = by (provisional (level l e)) refl
      where
        opened : (k' : List Item) (c : ℕ) → provisional (level l e) ≡ false
            → Alike
            (final terms b (state k' m l (push (provisional (level l e) || false) c []) (counted g)))
            (final terms' b' (state k' m' l (push (provisional (level l e) || false) c []) (counted g')))
        opened k' c known =
            subst (λ (p : List ℕ). Alike (final terms b (state k' m l p (counted g))) (final terms' b' (state k' m' l p (counted g'))))
            (sym (unpushed l e c known)) (onward b b' few k' m l (counted g) m' (counted g') related)

        settled : (x : Bool) → provisional (level l e) ≡ false → holds m e ≡ x
            → Alike (final terms (suc b) (state (statement (while e s) ∷ k) m l [] g)) (final terms' (suc b') (state (statement (while e s) ∷ k) m' l [] g'))
        settled true known h =
            moved _ _ _ _ (run_turn terms k m l [] g b e s h)
            (run_turn terms' k m' l [] g' b' e s (sym (holds_agree l m m' related.same e known) ∙ h))
            (opened (statement s ∷ close ∷ statement (while e s) ∷ k) _ known)
        settled false known h =
            moved _ _ _ _ (run_leave terms k m l [] g b e s h)
            (run_leave terms' k m' l [] g' b' e s (sym (holds_agree l m m' related.same e known) ∙ h)) (opened (close ∷ k) _ known)

        by : (x : Bool) → provisional (level l e) ≡ x
            → Alike (final terms (suc b) (state (statement (while e s) ∷ k) m l [] g)) (final terms' (suc b') (state (statement (while e s) ∷ k) m' l [] g'))
        by true known =
            regions f b b' (may_assign s) few onward k m l g.records m' g'.records _ _ related
            (grows terms (suc b) (statement (while e s) ∷ k) m l [] g) (grows terms' (suc b') (statement (while e s) ∷ k) m' l [] g')
            (while_confined terms e s b k m l g known) (while_confined terms' e s b' k m' l g' known)
        by false known = settled (holds m e) known refl

    both_output : (channel : ℕ) (e : Expr) (row : ℕ) → Runs (suc b) (suc b') (statement (output channel e row) ∷ k)
    both_output channel e row m l g m' g' related = by (denies channel e l []) refl
      where
        item : Item
        item = statement (output channel e row)

        more : Begins (settled_records g.records) (settled_records (final terms (suc b) (state (item ∷ k) m l [] g)).records)
        more = grows terms (suc b) (item ∷ k) m l [] g

        more' : Begins (settled_records g'.records) (settled_records (final terms' (suc b') (state (item ∷ k) m' l [] g')).records)
        more' = grows terms' (suc b') (item ∷ k) m' l [] g'

        room' :
            (x : Bool) → (denies channel e l []) ≡ false → ltb (length g.records) terms.room ≡ true → ltb (length g'.records) terms'.room ≡ x
            → Alike (final terms (suc b) (state (item ∷ k) m l [] g)) (final terms' (suc b') (state (item ∷ k) m' l [] g'))
        room' true passes h h' =
            moved _ _ _ _ (run_record terms k m l [] g b channel e row passes h) (run_record terms' k m' l [] g' b' channel e row passes h')
            (onward b b' few k m l _ m' _ (related_record channel e l m g.records m' g'.records passes related))
        room' false passes h h' =
            let w = run_roomless terms' k m' l [] g' b' channel e row passes h' in
            second_ended _ _ g.records g'.records (λ d. not_done 3 row (omega arith) (sym (ap (λ (x : Whole). x.said) w) ∙ d))
            (ap (λ (x : Whole). settled_records x.records) w) related.seen more

        room :
            (x : Bool) → (denies channel e l []) ≡ false → ltb (length g.records) terms.room ≡ x
            → Alike (final terms (suc b) (state (item ∷ k) m l [] g)) (final terms' (suc b') (state (item ∷ k) m' l [] g'))
        room true passes h = room' (ltb (length g'.records) terms'.room) passes h refl
        room false passes h =
            let w = run_roomless terms k m l [] g b channel e row passes h in
            first_ended _ _ g.records g'.records (λ d. not_done 3 row (omega arith) (sym (ap (λ (x : Whole). x.said) w) ∙ d))
            (ap (λ (x : Whole). settled_records x.records) w) related.seen more'

        by :
            (x : Bool) → (denies channel e l []) ≡ x
            → Alike (final terms (suc b) (state (item ∷ k) m l [] g)) (final terms' (suc b') (state (item ∷ k) m' l [] g'))
        by true denies =
            let w = run_denied_lem terms k m l [] g b channel e row denies in
            first_ended _ _ g.records g'.records (λ d. not_done 1 row (omega arith) (sym (ap (λ (x : Whole). x.said) w) ∙ d))
            (ap (λ (x : Whole). settled_records x.records) w) related.seen more'
        by false passes = room (ltb (length g.records) terms.room) passes refl

  both_statement : (s : Stmt) (f b b' : ℕ) → b + b' ≤ f → Within f → (k : List Item) → Runs (suc b) (suc b') (statement s ∷ k)
  both_statement skip f b b' few onward k m l g m' g' related =
      moved _ _ _ _ (run_skip terms k m l [] g b) (run_skip terms' k m' l [] g' b')
      (onward b b' few k m l (counted g) m' (counted g') related)
  both_statement (assign v e) f b b' few onward k m l g m' g' related =
      moved _ _ _ _ (run_assign terms k m l [] g b v e) (run_assign terms' k m' l [] g' b' v e)
      (onward b b' few k _ _ (counted g) _ (counted g') (related_assign v e l m g.records m' g'.records related))
  both_statement (sequence s t) f b b' few onward k m l g m' g' related =
      moved _ _ _ _ (run_sequence terms k m l [] g (suc b) s t) (run_sequence terms' k m' l [] g' (suc b') s t)
      (both_statement s f b b' few onward (statement t ∷ k) m l g m' g' related)
  both_statement (if e s t) f b b' few onward k m l g m' g' related =
      both_if f b b' few onward k e s t m l g m' g' related
  both_statement (while e s) f b b' few onward k m l g m' g' related =
      both_while f b b' few onward k e s m l g m' g' related
  both_statement (output channel e row) f b b' few onward k m l g m' g' related =
      both_output f b b' few onward k channel e row m l g m' g' related

  both_close : (f b b' : ℕ) → b + b' ≤ f → Within f → (k : List Item) → Runs (suc b) (suc b') (close ∷ k)
  both_close f b b' few onward k m l g m' g' related =
      moved _ _ _ _ (run_close_empty terms k m l [] g b) (run_close_empty terms' k m' l [] g' b')
      (onward b b' few k m l (counted g) m' (counted g') related)

  -- nothing pending, or no budget for one of the two
  idle : (b b' : ℕ) (k : List Item) → (b ≡ 0) ⊎ (b' ≡ 0) → Runs b b' k
  idle b b' [] none_left = both_done b b'
  idle b b' (item ∷ k) (inl e) = subst (λ (x : ℕ). Runs x b' (item ∷ k)) (sym e) (first_spent b' item k)
  idle b b' (item ∷ k) (inr e) = subst (λ (x : ℕ). Runs b x (item ∷ k)) (sym e) (second_spent b item k)

  busy : (f b b' : ℕ) → b + b' ≤ f → Within f → (k : List Item) → Runs (suc b) (suc b') k
  busy f b b' few onward [] = both_done (suc b) (suc b')
  busy f b b' few onward (statement s ∷ k) = both_statement s f b b' few onward k
  busy f b b' few onward (close ∷ k) = both_close f b b' few onward k

  within : (f : ℕ) → Within f
  within zero zero b' few k = idle 0 b' k (inl refl)
  within zero (suc b) b' few k = absurd (omega arith)
  within (suc f) zero b' few k = idle 0 b' k (inl refl)
  within (suc f) (suc b) zero few k = idle (suc b) 0 k (inr refl)
  within (suc f) (suc b) (suc b') few k = busy f b b' (omega arith) (within f) k

  -- two runs from related states, each with its own terms and budget
  pub alike : (b b' : ℕ) (k : List Item) → Runs b b' k
  alike b b' k = within (b + b') b b' (omega arith) k
