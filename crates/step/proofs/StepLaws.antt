-- Each kind of step, on the arrays: from what the code stored to the rules' step.
use Prim.Native.Nat.{ℕ, ◌+◌, ◌-◌, ◌*◌, ◌≤◌, ◌<◌}
use native.Mathlib.Omega.{arith}
use mathlib.Core.Bool.{true, false, ◌||◌, ◌&&◌}
use mathlib.Core.List.{List, [], ◌∷◌}
use mathlib.Core.Logic.{◌≢◌}
use mathlib.Core.Path.{◌≡◌, refl, sym, ap, ap₂, ◌∙◌, subst}
use lib.Dec.{eqb, ltb}
use lib.ListN.{length, get_or, set, length-set}
use borrow.Author.Tests.{lt-ltb, le-ltb}
use Rattle.rules.specs.declared.Row.{Row}
use Rattle.rules.specs.Limits.{width, most_nesting}
use Rattle.rules.specs.Rows.{is_statement, row_at}
use Rattle.rules.specs.Marks.{none, put, union, provisional}
use Rattle.rules.specs.Trees.{Expr, Stmt, skip, assign, sequence, if, while, output, stmt_at, nesting}
use Rattle.rules.specs.Values.{value, holds, level, may_assign}
use Rattle.rules.specs.Running.{Item, statement, close, Log, state, Terms, context, push, counted, noted, Attempt, denied, roomless, taken, attempted}
use Rattle.rules.specs.declared.Kind.{Kind}
use Rattle.rules.specs.Sound.{Sound}
use Rattle.rules.specs.Bounds.{most_pending, need, Roomy, Bounds}
use Rattle.rules.proofs.StatementLaws.{is_sequence}
use Rattle.rules.specs.Answers.{terms_of}
use Rattle.rules.proofs.RunLaws.{attempt_sequence, attempt_skip, attempt_assign, attempt_close, attempt_close_empty, attempt_then, attempt_else, attempt_turn, attempt_leave, attempt_denied, attempt_roomless, attempt_record}
use Rattle.rules.proofs.BoundLaws.{bounds_kept, need_pos}
use lib.Pow.{pow_pos}
use lib.Seq.{get_or-set_same, get_or-set_other}
use Rattle.step.specs.declared.Machine.{Machine}
use Rattle.step.specs.Denoted.{item_of, items_of, sets_of, records_of, log_of, Held, arrays, arrays_of, held_of, Entry, Entries, Holds}
use Rattle.step.specs.Turns.{Kept, Says, Goes, Opened, Apart, Found}
use Rattle.rules.proofs.AnswerLaws.{room_law}
use Rattle.step.proofs.ArrayLaws.{item_close, item_statement, item_row, items_pop, items_push, entries_push, entries_rest, sets_pop, sets_none, sets_length, items_length, records_push, records_length, kept_push, kept_same}

bounds_parts : {k k' : List Item} {l l' : ℕ} {p p' : List ℕ} → k ≡ k' → l ≡ l' → p ≡ p' → Bounds k' l' p' → Bounds k l p
bounds_parts {k} {k'} {l} {l'} {p} {p'} ek el ep b =
    subst (λ (x : List Item). Bounds x l p) (sym ek) (subst (λ (x : ℕ). Bounds k' x p) (sym el) (subst (Bounds k' l') (sym ep) b))

-- ---- sequences at the front

-- an entry that names a statement of the table
pub entry_of : (rows : List Row) (row : ℕ) → row < length rows → is_statement (row_at rows row).kind ≡ true → Entry rows (row + 1)
entry_of rows row within sort some =
    let back : row + 1 - 1 ≡ row = omega arith in
    (omega arith, subst (λ (i : ℕ). is_statement (row_at rows i).kind ≡ true) (sym back) sort)

pub apart_then : (rows : List Row) (e e₁ e₂ : List ℕ) (n n₁ n₂ : ℕ) → Apart rows e n e₁ n₁ → Apart rows e₁ n₁ e₂ n₂ → Apart rows e n e₂ n₂
apart_then rows e e₁ e₂ n n₁ n₂ f g = record {
  some = f.some;
  higher = omega (arith, f.higher, g.higher);
  same = λ terms m l p log. f.same terms m l p log ∙ g.same terms m l p log;
  bounds = λ l p x. g.bounds l p (f.bounds l p x);
  named = g.named;
  entries_long = g.entries_long;
  kept = λ i h. g.kept i (omega (arith, f.higher)) ∙ f.kept i h;
}

-- one sequence: its second statement in its place, and its first on top
pub apart_one :
    (rows : List Row) (e : List ℕ) (n a c : ℕ) → n + 1 < most_pending → length e ≡ most_pending → Entries rows e (n + 1) → get_or e n 0 ≢ 0
    → stmt_at rows (get_or e n 0 - 1) ≡ sequence (stmt_at rows a) (stmt_at rows c) → Entry rows (a + 1) → Entry rows (c + 1)
    → Apart rows e (n + 1) (set (set e n (c + 1)) (n + 1) (a + 1)) (n + 1 + 1)
apart_one rows e n a c few long named next stands first second = record {
  some = omega arith;
  higher = omega arith;
  same = λ terms m l p g.
      ap (λ (k : List Item). attempted terms (state k m l p g)) before
      ∙ attempt_sequence terms (items_of rows e n) m l p g (stmt_at rows a) (stmt_at rows c)
      ∙ ap (λ (k : List Item). attempted terms (state k m l p g)) (sym after);
  bounds = λ l p f.
      subst (λ (k : List Item). Bounds k l p) (sym after)
      (bounds_kept.sequence_kept {m = []} {g = record { records = []; steps = 0 }} (subst (λ (k : List Item). Bounds k l p) before f));
  named =
      entries_push rows (set e n (c + 1)) (n + 1) (a + 1) (omega (arith, length-set e n (c + 1))) first
      (entries_push rows e n (c + 1) (omega arith) second (entries_rest rows e n named));
  entries_long = length-set (set e n (c + 1)) (n + 1) (a + 1) ∙ length-set e n (c + 1) ∙ long;
  kept = λ i h.
      get_or-set_other (set e n (c + 1)) (n + 1) i (a + 1) 0 (λ z. omega arith) ∙ get_or-set_other e n i (c + 1) 0 (λ z. omega arith);
}
  where
    before : items_of rows e (n + 1) ≡ statement (sequence (stmt_at rows a) (stmt_at rows c)) ∷ items_of rows e n
    before = items_pop rows e n ∙ ap (λ (x : Item). x ∷ items_of rows e n) (item_statement rows (get_or e n 0) next ∙ ap statement stands)

    after :
        items_of rows (set (set e n (c + 1)) (n + 1) (a + 1)) (n + 1 + 1)
        ≡ statement (stmt_at rows a) ∷ statement (stmt_at rows c) ∷ items_of rows e n
    after =
        items_push rows (set e n (c + 1)) (n + 1) (a + 1) (omega (arith, length-set e n (c + 1)))
        ∙ ap₂ (λ (x : Item) (k : List Item). x ∷ k) (item_row rows a)
        (items_push rows e n (c + 1) (omega arith) ∙ ap (λ (x : Item). x ∷ items_of rows e n) (item_row rows c))

-- what Roomy items are, with any other parts of a state
bare : (k : List Item) → Roomy k → Bounds k 0 []
bare k roomy = record { marks = pow_pos width; pile = omega arith; sets = tt; roomy = roomy }

-- one sequence more is taken apart: its statements stand below it, there is room, and the first of them is found on top
pub record OneMore (rows : List Row) (e : List ℕ) (n : ℕ) (e' : List ℕ) (m i : ℕ) (row : Row) : Type 0 where
  pub first : row.p < i
  pub second : row.q < length rows
  pub room : m < most_pending
  pub apart : Apart rows e n (set (set e' (m - 1) (row.q + 1)) m (row.p + 1)) (m + 1)
  pub found : Found rows (set (set e' (m - 1) (row.q + 1)) m (row.p + 1)) (m + 1) row.p (row_at rows row.p)

pub apart_more :
    (rows : List Row) → Sound rows → (e e' : List ℕ) (n m i : ℕ) (row : Row) → Roomy (items_of rows e n) → Apart rows e n e' m → Found rows e' m i row
    → row.kind ≡ Kind.Sequence → OneMore rows e n e' m i row
apart_more rows sound e e' n m i row roomy apart found kind =
    let is = is_sequence rows sound i found.within row found.read kind in
    let some : 0 < m = found.some in
    let within : i < length rows = found.within in
    let j : ℕ = m - 1 in
    let back : j + 1 ≡ m = omega arith in
    let low : row.p < i = is.1.lower in
    let low' : row.q < i = is.2.lower in
    let next : get_or e' j 0 ≢ 0 = λ z. omega (arith, found.next) in
    let stands : stmt_at rows (get_or e' j 0 - 1) ≡ sequence (stmt_at rows row.p) (stmt_at rows row.q) =
    ap (stmt_at rows) (let g : get_or e' j 0 - 1 ≡ i = omega (arith, found.next) in g) ∙ is.0
    in
    let items : items_of rows e' m ≡ statement (sequence (stmt_at rows row.p) (stmt_at rows row.q)) ∷ items_of rows e' j =
    ap (items_of rows e') (sym back) ∙ items_pop rows e' j
    ∙ ap (λ (x : Item). x ∷ items_of rows e' j) (item_statement rows (get_or e' j 0) next ∙ ap statement stands)
    in
    let room : Bounds (statement (sequence (stmt_at rows row.p) (stmt_at rows row.q)) ∷ items_of rows e' j) 0 [] =
    subst (λ (k : List Item). Bounds k 0 []) items (apart.bounds 0 [] (bare (items_of rows e n) roomy))
    in
    let few : m < most_pending = omega (arith, room.roomy.1, items_length rows e' j, need_pos (stmt_at rows row.p)) in
    let one : Apart rows e' (j + 1) (set (set e' j (row.q + 1)) (j + 1) (row.p + 1)) (j + 1 + 1) =
    apart_one rows e' j row.p row.q (omega arith) apart.entries_long (subst (Entries rows e') (sym back) apart.named) next stands
    (entry_of rows row.p (omega arith) is.1.sort) (entry_of rows row.q (omega arith) is.2.sort)
    in
    record {
      first = low;
      second = omega arith;
      room = few;
      apart =
          apart_then rows e e' _ n m (m + 1) apart
          (subst (λ (q : ℕ). Apart rows e' q (set (set e' j (row.q + 1)) q (row.p + 1)) (q + 1)) back one);
      found = record {
        some = omega arith;
        next =
            ap (λ (q : ℕ). get_or (set (set e' j (row.q + 1)) m (row.p + 1)) q 0) (let g : m + 1 - 1 ≡ m = omega arith in g)
            ∙ get_or-set_same (set e' j (row.q + 1)) m (row.p + 1) 0 (omega (arith, length-set e' j (row.q + 1), apart.entries_long));
        read = refl;
        within = omega arith;
      };
    }

module _ (rows : List Row) (w e p t : List ℕ) (h : Held) (at : Holds rows (arrays w e p t) h) (n : ℕ) (top : h.pending ≡ n + 1) where
  abbrev T : Terms
  T = terms_of (length t)

  -- what is pending below the item that is next; the pile and what the run has to show
  abbrev K : List Item
  K = items_of rows e n

  abbrev P : List ℕ
  P = sets_of p h.pile

  abbrev G : ℕ → Log
  G = log_of t h.records

  -- the items pending, where the next one is known
  front : (item : Item) → item_of rows (get_or e n 0) ≡ item → items_of rows e h.pending ≡ item ∷ K
  front item is = ap (items_of rows e) top ∙ items_pop rows e n ∙ ap (λ (x : Item). x ∷ K) is

  front_bounds : (item : Item) → item_of rows (get_or e n 0) ≡ item → Bounds (item ∷ K) h.marks P
  front_bounds item is = subst (λ (k : List Item). Bounds k h.marks P) (front item is) at.bounds

  named_rest : Entries rows e n
  named_rest = entries_rest rows e n (subst (Entries rows e) top at.named)

  -- what the rules say, where the item that is next is known
  says :
      (item : Item) → item_of rows (get_or e n 0) ≡ item → (said : ℕ → Attempt)
      → ((steps : ℕ) → attempted T (state (item ∷ K) w h.marks P (G steps)) ≡ said steps) → Says rows (arrays w e p t) h said
  says item is said step steps = ap (λ (k : List Item). attempted T (state k w h.marks P (G steps))) (front item is) ∙ step steps

  -- a step of the rules to a state that other arrays hold
  goes :
      (item : Item) → item_of rows (get_or e n 0) ≡ item → (k : List Item) (w' : List ℕ) (l : ℕ) (q : List ℕ) (g : ℕ → Log)
      → ((steps : ℕ) → attempted T (state (item ∷ K) w h.marks P (G steps)) ≡ taken (state k w' l q (g steps)))
      → Bounds k l q → (e' p' t' : List ℕ) (h' : Held) → items_of rows e' h'.pending ≡ k → h'.marks ≡ l → sets_of p' h'.pile ≡ q
      → ((steps : ℕ) → log_of t' h'.records (steps + 1) ≡ g steps) → length w' ≡ width → length e' ≡ most_pending → length p' ≡ most_nesting
      → Entries rows e' h'.pending → Kept t t' h'.records → h.records ≤ h'.records → h'.records * 2 ≤ length t'
      → Goes rows (arrays w e p t) h (arrays w' e' p' t') h'
  goes item is k w' l q g step bounds e' p' t' h' ek el eq eg lw le lp named kept more written = record {
    step = says item is _ (λ steps. step steps ∙ sym (λ i. taken (state (ek i) w' (el i) (eq i) (eg steps i))));
    holds = record {
      sound = at.sound;
      words_long = lw;
      entries_long = le;
      pile_long = lp;
      named = named;
      bounds = bounds_parts ek el eq bounds;
      written = written;
    };
    kept = kept;
    more = more;
  }

  -- ---- a close

  pub close_law :
      get_or e n 0 ≡ 0 → (below : ℕ) → h.pile ≡ below + 1
      → Goes rows (arrays w e p t) h (arrays w e p t) (record { pending = n; pile = below; records = h.records; marks = union (get_or p below 0) h.marks })
  close_law zeroth below one =
      let is : item_of rows (get_or e n 0) ≡ close = item_close rows (get_or e n 0) zeroth in
      let high : P ≡ get_or p below 0 ∷ sets_of p below = ap (sets_of p) one ∙ sets_pop p below in
      goes close is K w (union (get_or p below 0) h.marks) (sets_of p below) (λ s. counted (G s))
      (λ s.
      ap (λ (q : List ℕ). attempted T (state (close ∷ K) w h.marks q (G s))) high
      ∙ attempt_close T K w h.marks (sets_of p below) (G s) (get_or p below 0))
      (bounds_kept.close_kept {m = w} {g = G 0} (subst (λ (q : List ℕ). Bounds (close ∷ K) h.marks q) high (front_bounds close is)))
      e p t _ refl refl refl (λ s. refl) at.words_long at.entries_long at.pile_long named_rest (kept_same t h.records) (omega arith) at.written

  pub close_empty_law :
      get_or e n 0 ≡ 0 → h.pile ≡ 0
      → Goes rows (arrays w e p t) h (arrays w e p t) (record { pending = n; pile = h.pile; records = h.records; marks = h.marks })
  close_empty_law zeroth empty =
      let is : item_of rows (get_or e n 0) ≡ close = item_close rows (get_or e n 0) zeroth in
      let low : P ≡ [] = sets_none p h.pile empty in
      goes close is K w h.marks [] (λ s. counted (G s))
      (λ s.
      ap (λ (q : List ℕ). attempted T (state (close ∷ K) w h.marks q (G s))) low ∙ attempt_close_empty T K w h.marks [] (G s))
      (bounds_kept.close_empty_kept {m = w} {g = G 0} (subst (λ (q : List ℕ). Bounds (close ∷ K) h.marks q) low (front_bounds close is)))
      e p t _ refl refl low (λ s. refl) at.words_long at.entries_long at.pile_long named_rest (kept_same t h.records) (omega arith) at.written

  -- ---- statements: the entry names one

  module _ (s : Stmt) (next : get_or e n 0 ≢ 0) (stands : stmt_at rows (get_or e n 0 - 1) ≡ s) where
    is_next : item_of rows (get_or e n 0) ≡ statement s
    is_next = item_statement rows (get_or e n 0) next ∙ ap statement stands

    next_bounds : Bounds (statement s ∷ K) h.marks P
    next_bounds = front_bounds (statement s) is_next

    -- room for what the statement opens: on the pile, and among the pending items
    pub pile_room : 1 ≤ nesting s → h.pile < most_nesting
    pile_room deep = omega (arith, next_bounds.roomy.0, next_bounds.pile, sets_length p h.pile)

    pub pending_room : n + need s ≤ most_pending
    pending_room = omega (arith, next_bounds.roomy.1, items_length rows e n)

  pub skip_law :
      get_or e n 0 ≢ 0 → stmt_at rows (get_or e n 0 - 1) ≡ skip
      → Goes rows (arrays w e p t) h (arrays w e p t) (record { pending = n; pile = h.pile; records = h.records; marks = h.marks })
  skip_law next stands =
      goes (statement skip) (is_next skip next stands) K w h.marks P (λ s. counted (G s)) (λ s. attempt_skip T K w h.marks P (G s))
      (bounds_kept.skip_kept {m = w} {g = G 0} (next_bounds skip next stands)) e p t _ refl refl refl (λ s. refl) at.words_long
      at.entries_long at.pile_long named_rest (kept_same t h.records) (omega arith) at.written

  pub assign_law :
      (v : ℕ) (x : Expr) → get_or e n 0 ≢ 0 → stmt_at rows (get_or e n 0 - 1) ≡ assign v x → (marks : ℕ)
      → marks ≡ put v (provisional (level h.marks x) || context P) h.marks
      → Goes rows (arrays w e p t) h (arrays (set w v (value w x)) e p t) (record { pending = n; pile = h.pile; records = h.records; marks = marks })
  assign_law v x next stands marks em =
      goes (statement (assign v x)) (is_next (assign v x) next stands) K (set w v (value w x))
      (put v (provisional (level h.marks x) || context P) h.marks) P (λ s. counted (G s)) (λ s. attempt_assign T K w h.marks P (G s) v x)
      (bounds_kept.assign_kept {m = w} {g = G 0} (next_bounds (assign v x) next stands)) e p t _ refl em refl (λ s. refl)
      (length-set w v (value w x) ∙ at.words_long) at.entries_long at.pile_long named_rest (kept_same t h.records) (omega arith) at.written

  -- an output
  module _ (channel : ℕ) (x : Expr) (row : ℕ) (next : get_or e n 0 ≢ 0) (stands : stmt_at rows (get_or e n 0 - 1) ≡ output channel x row) where
    full_room : length t ≤ h.records * 2 + 1 → ltb (length (records_of t h.records)) T.room ≡ false
    full_room full = le-ltb (length (records_of t h.records)) T.room (omega (arith, records_length t h.records, room_law (length t)))

    free_room : h.records * 2 + 1 < length t → ltb (length (records_of t h.records)) T.room ≡ true
    free_room room = lt-ltb (length (records_of t h.records)) T.room (omega (arith, records_length t h.records, room_law (length t)))

    pub denied_law :
        (eqb channel 0 && (provisional (level h.marks x) || context P)) ≡ true
        → Says rows (arrays w e p t) h (λ steps. denied row (level h.marks x))
    denied_law deny =
        says (statement (output channel x row)) (is_next (output channel x row) next stands) _
        (λ s. attempt_denied T K w h.marks P (G s) channel x row deny)

    pub roomless_law :
        (eqb channel 0 && (provisional (level h.marks x) || context P)) ≡ false → length t ≤ h.records * 2 + 1
        → Says rows (arrays w e p t) h (λ steps. roomless row)
    roomless_law passes full =
        says (statement (output channel x row)) (is_next (output channel x row) next stands) _
        (λ s. attempt_roomless T K w h.marks P (G s) channel x row passes (full_room full))

    pub record_law :
        (eqb channel 0 && (provisional (level h.marks x) || context P)) ≡ false → h.records * 2 + 1 < length t
        → Goes rows (arrays w e p t) h (arrays w e p (set (set t (h.records * 2) channel) (h.records * 2 + 1) (value w x)))
        (record { pending = n; pile = h.pile; records = h.records + 1; marks = h.marks })
    record_law passes room =
        goes (statement (output channel x row)) (is_next (output channel x row) next stands) K w h.marks P
        (λ s. noted (record { channel = channel; value = value w x }) (G s))
        (λ s. attempt_record T K w h.marks P (G s) channel x row passes (free_room room))
        (bounds_kept.record_kept {m = w} {g = G 0} {channel = channel} {e = x} {row = row} (next_bounds (output channel x row) next stands)) e p
        (set (set t (h.records * 2) channel) (h.records * 2 + 1) (value w x)) _ refl refl refl
        (λ s i. record { records = records_push t h.records channel (value w x) room i; steps = s + 1 })
        at.words_long at.entries_long at.pile_long named_rest (kept_push t h.records channel (value w x)) (omega arith)
        (omega (arith, length-set (set t (h.records * 2) channel) (h.records * 2 + 1) (value w x), length-set t (h.records * 2) channel))

-- ---- an if or while, from what the machine opened

module _
    (rows : List Row) (s : Machine) (t : List ℕ) (at : Holds rows (arrays_of s t) (held_of s)) (n : ℕ) (top : s.pending.len ≡ n + 1)
    (next : get_or s.pending.items n 0 ≢ 0) (s' : Machine)
  where
    abbrev w : List ℕ
    w = s.words

    abbrev below : List Item
    below = items_of rows s.pending.items n

    abbrev sets : List ℕ
    sets = sets_of s.pile.items s.pile.len

    abbrev Stands : Stmt → Type 0
    Stands stmt = stmt_at rows (get_or s.pending.items n 0 - 1) ≡ stmt

    abbrev Went : Type 0
    Went = Goes rows (arrays_of s t) (held_of s) (arrays_of s' t) (held_of s')

    abbrev front_of : (stmt : Stmt) → Stands stmt → Bounds (statement stmt ∷ below) s.marks sets
    front_of stmt stands = next_bounds rows w s.pending.items s.pile.items t (held_of s) at n top stmt next stands

    opens :
        (stmt : Stmt) → Stands stmt → (x : Expr) (k : List Item) (c : ℕ) → Opened rows s k (level s.marks x) c s'
        → ((m : ℕ)
        → attempted (terms_of (length t)) (state (statement stmt ∷ below) w s.marks sets (log_of t s.records m))
        ≡ taken (state k w s.marks (push (provisional (level s.marks x) || context sets) c sets) (counted (log_of t s.records m))))
        → Bounds k s.marks (push (provisional (level s.marks x) || context sets) c sets) → Went
    opens stmt stands x k c given step bounds =
        let records : s'.records ≡ s.records = given.records in
        subst (λ (w' : List ℕ). Goes rows (arrays_of s t) (held_of s) (arrays w' s'.pending.items s'.pile.items t) (held_of s'))
        (sym given.words)
        (goes rows w s.pending.items s.pile.items t (held_of s) at n top (statement stmt)
        (is_next rows w s.pending.items s.pile.items t (held_of s) at n top stmt next stands) k w s.marks
        (push (provisional (level s.marks x) || context sets) c sets) (λ m. counted (log_of t s.records m)) step bounds s'.pending.items s'.pile.items
        t (held_of s') given.items given.marks given.sets (λ m. ap (λ (r : ℕ). log_of t r (m + 1)) given.records)
        at.words_long given.entries_long given.pile_long given.named (kept_same t s'.records) (omega arith) (omega (arith, at.written)))

    pub then_law :
        (x : Expr) (s₁ s₂ : Stmt) → Stands (if x s₁ s₂) → holds w x ≡ true
        → Opened rows s (statement s₁ ∷ close ∷ below) (level s.marks x) (may_assign s₂) s' → Went
    then_law x s₁ s₂ stands hold given =
        opens (if x s₁ s₂) stands x (statement s₁ ∷ close ∷ below) (may_assign s₂) given
        (λ m. attempt_then (terms_of (length t)) below w s.marks sets (log_of t s.records m) x s₁ s₂ hold)
        (bounds_kept.then_kept {m = w} {g = log_of t s.records 0} (front_of (if x s₁ s₂) stands))

    pub else_law :
        (x : Expr) (s₁ s₂ : Stmt) → Stands (if x s₁ s₂) → holds w x ≡ false
        → Opened rows s (statement s₂ ∷ close ∷ below) (level s.marks x) (may_assign s₁) s' → Went
    else_law x s₁ s₂ stands hold given =
        opens (if x s₁ s₂) stands x (statement s₂ ∷ close ∷ below) (may_assign s₁) given
        (λ m. attempt_else (terms_of (length t)) below w s.marks sets (log_of t s.records m) x s₁ s₂ hold)
        (bounds_kept.else_kept {m = w} {g = log_of t s.records 0} (front_of (if x s₁ s₂) stands))

    pub turn_law :
        (x : Expr) (s₁ : Stmt) → Stands (while x s₁) → holds w x ≡ true
        → Opened rows s (statement s₁ ∷ close ∷ statement (while x s₁) ∷ below) (level s.marks x) none s' → Went
    turn_law x s₁ stands hold given =
        opens (while x s₁) stands x (statement s₁ ∷ close ∷ statement (while x s₁) ∷ below) none given
        (λ m. attempt_turn (terms_of (length t)) below w s.marks sets (log_of t s.records m) x s₁ hold)
        (bounds_kept.turn_kept {m = w} {g = log_of t s.records 0} (front_of (while x s₁) stands))

    pub leave_law :
        (x : Expr) (s₁ : Stmt) → Stands (while x s₁) → holds w x ≡ false
        → Opened rows s (close ∷ below) (level s.marks x) (may_assign s₁) s' → Went
    leave_law x s₁ stands hold given =
        opens (while x s₁) stands x (close ∷ below) (may_assign s₁) given
        (λ m. attempt_leave (terms_of (length t)) below w s.marks sets (log_of t s.records m) x s₁ hold)
        (bounds_kept.leave_kept {m = w} {g = log_of t s.records 0} (front_of (while x s₁) stands))
