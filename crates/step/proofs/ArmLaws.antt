-- The statement that is next, kind by kind: what its parts need, and the rules' step from what each part did.
use Prim.Native.Nat.{ℕ, ◌+◌, ◌-◌, ◌≤◌, ◌<◌}
use native.Mathlib.Omega.{arith}
use mathlib.Core.Bool.{Bool, true, false, cond, ◌||◌, ◌&&◌, true≢false}
use Rattle.std.specs.Prelude.{Result, Ok, Err, is_err}
use mathlib.Core.List.{List, ◌∷◌}
use mathlib.Core.Logic.{◌≢◌}
use mathlib.Core.Path.{◌≡◌, refl, sym, ap, ap₂, ◌∙◌, subst, subst₂}
use lib.Dec.{eqb}
use borrow.Author.Tests.{eqb-true, eqb-false}
use lib.ListN.{length, get_or, set, length-set}
use lib.Seq.{get_or-set_same, get_or-set_other}
use Rattle.rules.specs.declared.Kind.{Kind}
use Rattle.rules.specs.declared.Row.{Row}
use Rattle.rules.specs.Limits.{most_nesting}
use Rattle.rules.specs.Marks.{put, union, provisional}
use Rattle.rules.specs.Answers.{terms_of}
use Rattle.rules.specs.Rows.{is_statement, row_at}
use Rattle.rules.specs.Trees.{Expr, Stmt, if, while, output, stmt_at, expr_at, nesting}
use Rattle.rules.specs.Values.{value, holds, level}
use Rattle.rules.specs.Running.{Item, statement, close, state, context, Attempt, denied, roomless}
use Rattle.rules.specs.Bounds.{need, most_pending, Bounds}
use Rattle.rules.proofs.MarkLaws.{none_zero}
use Rattle.rules.proofs.BoundLaws.{need_pos, few_pending, few_closes}
use Rattle.rules.proofs.StatementLaws.{Below, is_skip, is_assign, is_if, is_while, is_output}
use Rattle.step.specs.declared.Halt.{Halt}
use Rattle.step.specs.declared.Machine.{Machine}
use Rattle.step.specs.Denoted.{items_of, sets_of, log_of, Held, Arrays, arrays, arrays_of, held_of, Entry, Entries, Holds}
use Rattle.step.specs.Turns.{Turn, Went, Stopped, NoRoom, turn_of, Says, Goes, Stays, Ready, Statement, Opened, Branched, Looped, Apart, Found, denies, passed, closed_held, Passed, assigned_words, assigned_held, CanAssign, CanBranch, CanLoop, CanPutOut, PutOut, Applied, Turned}
use Rattle.step.proofs.ArrayLaws.{items_length, sets_length, item_statement, items_pop, items_same, entries_top, entries_same, context_law}
use Rattle.step.proofs.StepLaws.{close_law, close_empty_law, entry_of, pile_room, pending_room, skip_law, assign_law, then_law, else_law, turn_law, leave_law, denied_law, roomless_law, record_law}

-- Whoever has the arrays of a state can build the machine that holds it: what is held is within both stacks.
module _ (rows : List Row) (w e p t : List ℕ) (h : Held) (at : Holds rows (arrays w e p t) h) where
  pub few_entries : h.pending ≤ most_pending
  few_entries = omega (arith, few_pending (items_of rows e h.pending) at.bounds.roomy, items_length rows e h.pending)

  pub few_sets : h.pile ≤ most_nesting
  few_sets =
      omega (arith, few_closes (items_of rows e h.pending) at.bounds.roomy, at.bounds.pile, sets_length p h.pile)

-- the arrays are as they were
same_arrays : (s s' : Machine) (t : List ℕ) (h' : Held) → Passed s s' h' → ◌≡◌ {A = Arrays} (arrays_of s' t) (arrays_of s t)
same_arrays s s' t h' given = λ i. arrays (given.words i) (given.entries i) (given.sets i) t

-- .. and what is held is this
passes :
    (rows : List Row) (a : Arrays) (h : Held) (s s' : Machine) (t : List ℕ) (h' : Held) → Passed s s' h' → Goes rows a h (arrays_of s t) h'
    → Goes rows a h (arrays_of s' t) (held_of s')
passes rows a h s s' t h' given x =
    subst₂ (Goes rows a h) (sym (same_arrays s s' t h' given)) (sym given.held) x

module _
    (rows : List Row) (s : Machine) (t : List ℕ) (at : Holds rows (arrays_of s t) (held_of s)) (i : ℕ) (row : Row)
    (found : Found rows s.pending.items s.pending.len i row)
  where
    abbrev w : List ℕ
    w = s.words

    abbrev e : List ℕ
    e = s.pending.items

    abbrev p : List ℕ
    p = s.pile.items

    abbrev h : Held
    h = held_of s

    abbrev n : ℕ
    n = h.pending - 1

    top : h.pending ≡ n + 1
    top = omega (arith, found.some)

    some : get_or e n 0 ≢ 0
    some z = omega (arith, found.next)

    -- the entry names row i
    named : stmt_at rows (get_or e n 0 - 1) ≡ stmt_at rows i
    named = ap (stmt_at rows) (let g : get_or e n 0 - 1 ≡ i = omega (arith, found.next) in g)

    -- row i is a statement
    pub sort : is_statement row.kind ≡ true
    sort =
        ap (λ (r : Row). is_statement r.kind) found.read
        ∙ subst (λ (j : ℕ). is_statement (row_at rows j).kind ≡ true) (let g : get_or e n 0 - 1 ≡ i = omega (arith, found.next) in g)
        (entries_top rows e n (subst (Entries rows e) top at.named) some).1

    ready : (stmt : Stmt) → stmt_at rows i ≡ stmt → 1 ≤ nesting stmt → (more : ℕ) → more + 1 ≤ need stmt → Ready rows s more
    ready stmt stands deep more enough = record {
      sound = at.sound;
      low = pile_room rows w e p t h at n top stmt some (named ∙ stands) deep;
      some = found.some;
      few = omega (arith, pending_room rows w e p t h at n top stmt some (named ∙ stands), found.some);
      named = at.named;
    }

    -- the children of row i are in the table
    inside : {c : ℕ} → c < i → c < length rows
    inside low = omega (arith, low, found.within)

    entry : {c : ℕ} → Below rows i c → Statement rows c
    entry {c} below = (entry_of rows c (inside below.lower) below.sort, inside below.lower)

    -- ---- skip

    pub arm_skip :
        row.kind ≡ Kind.Skip → (s' : Machine) → Passed s s' (passed h h.marks) → Goes rows (arrays_of s t) h (arrays_of s' t) (held_of s')
    arm_skip kind s' given =
        passes rows (arrays_of s t) h s s' t _ given (skip_law rows w e p t h at n top some (named ∙ is_skip rows at.sound i found.within row found.read kind))

    -- ---- assign

    pub assign_needs : row.kind ≡ Kind.Assign → CanAssign rows s row
    assign_needs kind =
        let is = is_assign rows at.sound i found.within row found.read kind in
        (at.sound, inside is.2, is.1, found.some)

    pub arm_assign :
        row.kind ≡ Kind.Assign → (s' : Machine) → s'.words ≡ assigned_words rows w row → held_of s' ≡ assigned_held rows h row
        → s'.pending.items ≡ e → s'.pile.items ≡ p → Goes rows (arrays_of s t) h (arrays_of s' t) (held_of s')
    arm_assign kind s' ew eh ee ep =
        let is = is_assign rows at.sound i found.within row found.read kind in
        let x : Expr = expr_at rows row.q in
        let after : ◌≡◌ {A = Arrays} (arrays_of s' t) (arrays (set w row.p (value w x)) e p t) = λ i. arrays (ew i) (ee i) (ep i) t in
        subst₂ (Goes rows (arrays_of s t) h) (sym after) (sym eh)
        (assign_law rows w e p t h at n top row.p x some (named ∙ is.0) _
        (ap (λ (b : Bool). put row.p (provisional (level h.marks x) || b) h.marks) (sym (context_law p h.pile))))

    -- ---- if

    pub if_needs : row.kind ≡ Kind.If → CanBranch rows s row
    if_needs kind =
        let is = is_if rows at.sound i found.within row found.read kind in (
          ready (if (expr_at rows row.p) (stmt_at rows row.q) (stmt_at rows row.r)) is.0 (omega arith) 1 (omega (arith, need_pos (stmt_at rows row.q))),
          inside is.1,
          entry is.2,
          entry is.3,
        )

    pub arm_if :
        row.kind ≡ Kind.If → (s' : Machine) → Branched rows s row s'
        → Goes rows (arrays_of s t) h (arrays_of s' t) (held_of s')
    arm_if kind s' branched = by (holds w (expr_at rows row.p)) refl
      where
        stands : stmt_at rows (get_or e n 0 - 1) ≡ if (expr_at rows row.p) (stmt_at rows row.q) (stmt_at rows row.r)
        stands = named ∙ (is_if rows at.sound i found.within row found.read kind).0

        by : (b : Bool) → holds w (expr_at rows row.p) ≡ b → Goes rows (arrays_of s t) h (arrays_of s' t) (held_of s')
        by true hold = then_law rows s t at n top some s' (expr_at rows row.p) _ _ stands hold (branched.then hold)
        by false hold = else_law rows s t at n top some s' (expr_at rows row.p) _ _ stands hold (branched.otherwise hold)

    -- ---- while

    pub while_needs : row.kind ≡ Kind.While → CanLoop rows s row
    while_needs kind =
        let is = is_while rows at.sound i found.within row found.read kind in (
          ready (while (expr_at rows row.p) (stmt_at rows row.q)) is.0 (omega arith) 2 (omega (arith, need_pos (stmt_at rows row.q))),
          inside is.1,
          entry is.2,
        )

    pub arm_while :
        row.kind ≡ Kind.While → (s' : Machine) → Looped rows s row s'
        → Goes rows (arrays_of s t) h (arrays_of s' t) (held_of s')
    arm_while kind s' looped = by (holds w (expr_at rows row.p)) refl
      where
        stands : stmt_at rows (get_or e n 0 - 1) ≡ while (expr_at rows row.p) (stmt_at rows row.q)
        stands = named ∙ (is_while rows at.sound i found.within row found.read kind).0

        items : items_of rows e h.pending ≡ statement (while (expr_at rows row.p) (stmt_at rows row.q)) ∷ items_of rows e n
        items =
            ap (items_of rows e) top ∙ items_pop rows e n
            ∙ ap (λ (x : Item). x ∷ items_of rows e n) (item_statement rows (get_or e n 0) some ∙ ap statement stands)

        by : (b : Bool) → holds w (expr_at rows row.p) ≡ b → Goes rows (arrays_of s t) h (arrays_of s' t) (held_of s')
        by true hold =
            turn_law rows s t at n top some s' (expr_at rows row.p) _ stands hold
            (subst₂
            (λ (k : List Item) (c : ℕ). Opened rows s (statement (stmt_at rows row.q) ∷ close ∷ k) (level h.marks (expr_at rows row.p)) c s')
            items (sym none_zero) (looped.turns hold))
        by false hold = leave_law rows s t at n top some s' (expr_at rows row.p) _ stands hold (looped.leaves hold)

    -- ---- output

    pub output_needs : row.kind ≡ Kind.Output → CanPutOut rows s t row
    output_needs kind =
        (at.sound, inside (is_output rows at.sound i found.within row found.read kind).1, found.some, at.written)

    pub arm_output :
        row.kind ≡ Kind.Output → (s' : Machine) (t' : List ℕ) (turn : Turn) → PutOut i row.p (expr_at rows row.q) w t h t' turn
        → Passed s s' (held_of s') → Applied rows (arrays_of s t) h (arrays_of s' t') turn
    arm_output kind s' t' turn out kept =
        subst (λ (a : Arrays). Applied rows (arrays_of s t) h a turn) (sym (same_arrays s s' t' (held_of s') kept)) (by turn out)
      where
        stands : stmt_at rows (get_or e n 0 - 1) ≡ output row.p (expr_at rows row.q) i
        stands = named ∙ (is_output rows at.sound i found.within row found.read kind).0

        deny : (b : Bool) → denies row.p (level h.marks (expr_at rows row.q)) h.pile ≡ b
            → (eqb row.p 0 && (provisional (level h.marks (expr_at rows row.q)) || context (sets_of p h.pile))) ≡ b
        deny b d = ap (λ (c : Bool). eqb row.p 0 && (provisional (level h.marks (expr_at rows row.q)) || c)) (context_law p h.pile) ∙ d

        -- the turn says what the rules say, and no array has changed
        left :
            {said turned : Attempt} → turned ≡ said → t' ≡ t → Says rows (arrays w e p t) h (λ steps. said)
            → (◌≡◌ {A = Arrays} (arrays w e p t') (arrays w e p t)) × Says rows (arrays w e p t) h (λ steps. turned)
        left same et x = (ap (arrays w e p) et, λ steps. x steps ∙ sym same)

        by : (turn : Turn) → PutOut i row.p (expr_at rows row.q) w t h t' turn → Applied rows (arrays w e p t) h (arrays w e p t') turn
        by (Went h') o =
            subst (λ (y : List ℕ). Goes rows (arrays w e p t) h (arrays w e p y) h') (sym o.2)
            (subst (Goes rows (arrays w e p t) h _) (sym o.3)
            (record_law rows w e p t h at n top row.p (expr_at rows row.q) i some stands (deny false o.0) o.1))
        by (Stopped row' because) o =
            left (ap₂ denied o.0 o.2) o.3
            (denied_law rows w e p t h at n top row.p (expr_at rows row.q) i some stands (deny true o.1))
        by (NoRoom row') o =
            left (ap roomless o.0) o.3
            (roomless_law rows w e p t h at n top row.p (expr_at rows row.q) i some stands (deny false o.1) o.2)

-- ---- the step as a whole

module _ (rows : List Row) (s : Machine) (t : List ℕ) (at : Holds rows (arrays_of s t) (held_of s)) where
  pub arm_close :
      0 < s.pending.len → get_or s.pending.items (s.pending.len - 1) 0 ≡ 0 → (s' : Machine) → Passed s s' (closed_held s.pile.items (held_of s))
      → Goes rows (arrays_of s t) (held_of s) (arrays_of s' t) (held_of s')
  arm_close some zeroth s' given = passes rows (arrays_of s t) (held_of s) s s' t _ given (by (eqb s.pile.len 0) refl)
    where
      closed : Bool → Held
      closed b =
          cond b (passed (held_of s) s.marks)
          (record { pending = s.pending.len - 1; pile = s.pile.len - 1; records = s.records; marks = union (get_or s.pile.items (s.pile.len - 1) 0) s.marks })

      by : (b : Bool) → eqb s.pile.len 0 ≡ b → Goes rows (arrays s.words s.pending.items s.pile.items t) (held_of s) (arrays s.words s.pending.items s.pile.items t) (closed_held s.pile.items (held_of s))
      by true z =
          subst (λ (b : Bool). Goes rows (arrays s.words s.pending.items s.pile.items t) (held_of s) (arrays s.words s.pending.items s.pile.items t) (closed b)) (sym z)
          (close_empty_law rows s.words s.pending.items s.pile.items t (held_of s) at (s.pending.len - 1) (omega arith) zeroth (eqb-true s.pile.len 0 z))
      by false z =
          let other : s.pile.len ≢ 0 = eqb-false s.pile.len 0 z in
          subst (λ (b : Bool). Goes rows (arrays s.words s.pending.items s.pile.items t) (held_of s) (arrays s.words s.pending.items s.pile.items t) (closed b)) (sym z)
          (close_law rows s.words s.pending.items s.pile.items t (held_of s) at (s.pending.len - 1) (omega arith) zeroth (s.pile.len - 1) (omega arith))

  -- the statement that is next
  pub found_next :
      0 < s.pending.len → (i : ℕ) → get_or s.pending.items (s.pending.len - 1) 0 ≡ i + 1
      → Found rows s.pending.items s.pending.len i (row_at rows i)
  found_next some i is =
      let back : s.pending.len - 1 + 1 ≡ s.pending.len = omega arith in
      let named : Entry rows (get_or s.pending.items (s.pending.len - 1) 0) =
      entries_top rows s.pending.items (s.pending.len - 1) (subst (Entries rows s.pending.items) (sym back) at.named)
      in
      let within : i + 1 ≤ length rows = subst (λ (x : ℕ). x ≤ length rows) is (named (λ z. omega arith)).0 in
      record { some = some; next = is; read = refl; within = omega arith }

  module _ (s₁ : Machine) (apart : Apart rows s.pending.items s.pending.len s₁.pending.items s₁.pending.len) (rest : s₁ ≡ record s { pending = s₁.pending }) where
    pub holds_apart : Holds rows (arrays_of s₁ t) (held_of s₁)
    holds_apart =
        subst (λ (m : Machine). Holds rows (arrays_of m t) (held_of m)) (sym rest)
        (record {
          sound = at.sound;
          words_long = at.words_long;
          entries_long = apart.entries_long;
          pile_long = at.pile_long;
          named = apart.named;
          bounds = apart.bounds s.marks (sets_of s.pile.items s.pile.len) at.bounds;
          written = at.written;
        })

    -- what is said of the state taken apart is said of the state before
    says_apart : (said : ℕ → Attempt) → Says rows (arrays_of s₁ t) (held_of s₁) said → Says rows (arrays_of s t) (held_of s) said
    says_apart said x steps =
        apart.same (terms_of (length t)) s.words s.marks (sets_of s.pile.items s.pile.len) (log_of t s.records steps)
        ∙ subst (λ (m : Machine). Says rows (arrays_of m t) (held_of m) said) rest x steps

    -- a turn that went, from there
    pub went_apart :
        {A : Type 0} (r : Result A Halt) → is_err r ≡ false → (a' : Arrays) (h' : Held) → Applied rows (arrays_of s₁ t) (held_of s₁) a' (turn_of r h')
        → Turned rows (arrays_of s t) (held_of s) a' (turn_of r h')
    went_apart (Ok done) fine a' h' x = record {
      step = says_apart _ x.step;
      holds = x.holds;
      kept = x.kept;
      more = subst (λ (m : Machine). m.records ≤ h'.records) rest x.more;
    }
    went_apart (Err halt) fine a' h' x = absurd (true≢false fine)

    -- where the step was not taken, the entry that was taken apart is stored again
    module _ (entry : ℕ) (is : get_or s.pending.items (s.pending.len - 1) 0 ≡ entry) where
      long_set : length (set s₁.pending.items (s.pending.len - 1) entry) ≡ most_pending
      long_set = length-set s₁.pending.items (s.pending.len - 1) entry ∙ apart.entries_long

      as_before : (i : ℕ) → i < s.pending.len → get_or (set s₁.pending.items (s.pending.len - 1) entry) i 0 ≡ get_or s.pending.items i 0
      as_before i low = by (eqb i (s.pending.len - 1)) refl
        where
          inside : s.pending.len - 1 < length s₁.pending.items
          inside = omega (arith, apart.entries_long, s.pending.within, apart.some)

          by : (b : Bool) → eqb i (s.pending.len - 1) ≡ b → get_or (set s₁.pending.items (s.pending.len - 1) entry) i 0 ≡ get_or s.pending.items i 0
          by true z =
              let same : i ≡ s.pending.len - 1 = eqb-true i (s.pending.len - 1) z in
              ap (λ (j : ℕ). get_or (set s₁.pending.items (s.pending.len - 1) entry) j 0) same ∙ get_or-set_same s₁.pending.items (s.pending.len - 1) entry 0 inside ∙ sym is
              ∙ ap (λ (j : ℕ). get_or s.pending.items j 0) (sym same)
          by false z =
              let other : i ≢ s.pending.len - 1 = eqb-false i (s.pending.len - 1) z in
              get_or-set_other s₁.pending.items (s.pending.len - 1) i entry 0 other ∙ apart.kept i (omega arith)

      items_again : items_of rows (set s₁.pending.items (s.pending.len - 1) entry) s.pending.len ≡ items_of rows s.pending.items s.pending.len
      items_again = items_same rows (set s₁.pending.items (s.pending.len - 1) entry) s.pending.items s.pending.len as_before

      stays_apart : (said : Attempt) → Says rows (arrays_of s₁ t) (held_of s₁) (λ steps. said) → Stays rows (arrays_of s t) (held_of s) (arrays s.words (set s₁.pending.items (s.pending.len - 1) entry) s.pile.items t) said
      stays_apart said x = record {
        step = says_apart _ x;
        same = λ steps. ap (λ (k : List Item). state k s.words s.marks (sets_of s.pile.items s.pile.len) (log_of t s.records steps)) items_again;
        holds = record {
          sound = at.sound;
          words_long = at.words_long;
          entries_long = long_set;
          pile_long = at.pile_long;
          named = entries_same rows s.pending.items (set s₁.pending.items (s.pending.len - 1) entry) s.pending.len (λ i low. sym (as_before i low)) at.named;
          bounds = subst (λ (k : List Item). Bounds k s.marks (sets_of s.pile.items s.pile.len)) (sym items_again) at.bounds;
          written = at.written;
        };
        trace = refl;
      }

      -- a turn that did not go: the machine afterwards, from the one that was given back
      module _ (s₂ s₃ : Machine) (t' : List ℕ) (rest' : s₃ ≡ record s₂ { pending = s₃.pending }) (items : s₃.pending.items ≡ set s₂.pending.items (s.pending.len - 1) entry) where
        arrays_again : ◌≡◌ {A = Arrays} (arrays_of s₂ t') (arrays_of s₁ t) → ◌≡◌ {A = Arrays} (arrays_of s₃ t') (arrays s.words (set s₁.pending.items (s.pending.len - 1) entry) s.pile.items t)
        arrays_again same =
            ap (λ (m : Machine). arrays m.words s₃.pending.items m.pile.items t') rest'
            ∙ ap (λ (x : List ℕ). arrays s₂.words x s₂.pile.items t') items
            ∙ ap (λ (a : Arrays). arrays a.words (set a.entries (s.pending.len - 1) entry) a.pile a.trace) same
            ∙ ap (λ (m : Machine). arrays m.words (set s₁.pending.items (s.pending.len - 1) entry) m.pile.items t) rest

        pub unwent_apart :
            {A : Type 0} (r : Result A Halt) → is_err r ≡ true → (h' h'' : Held) → Applied rows (arrays_of s₁ t) (held_of s₁) (arrays_of s₂ t') (turn_of r h')
            → Turned rows (arrays_of s t) (held_of s) (arrays_of s₃ t') (turn_of r h'')
        unwent_apart (Ok done) failed h' h'' x = absurd (true≢false (sym failed))
        unwent_apart (Err (Halt.Stopped row because)) failed h' h'' x =
            subst (λ (a : Arrays). Stays rows (arrays_of s t) (held_of s) a (denied row because)) (sym (arrays_again x.0)) (stays_apart (denied row because) x.1)
        unwent_apart (Err (Halt.NoRoom row)) failed h' h'' x =
            subst (λ (a : Arrays). Stays rows (arrays_of s t) (held_of s) a (roomless row)) (sym (arrays_again x.0)) (stays_apart (roomless row) x.1)
