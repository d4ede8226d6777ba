-- The arrays as stacks and as a list of records: what a store makes of the items, the sets and the records that they hold.
use Prim.Native.Nat.{ℕ, zero, suc, ◌+◌, ◌-◌, ◌*◌, ◌≤◌, ◌<◌, min}
use native.Mathlib.Numerals.{add-one}
use native.Mathlib.Omega.{arith}
use mathlib.Core.Bool.{Bool, true, false, cond, not, ◌||◌, true≢false}
use mathlib.Core.List.{List, [], ◌∷◌, ◌++◌, append_assoc}
use mathlib.Core.Logic.{◌≢◌}
use mathlib.Core.Path.{◌≡◌, refl, sym, ap, ap₂, ◌∙◌, subst, subst₂}
use lib.Dec.{eqb}
use lib.ListN.{length, get_or, set, take, drop, length-set, length-append, length-take, length-drop, take-append-drop}
use lib.Seq.{get_or-set_same, get_or-set_other, take-suc, get_or-drop, ext_get_or}
use borrow.Author.Tests.{eq-eqb, ne_eqb}
use Rattle.rules.specs.declared.Row.{Row}
use Rattle.rules.specs.Marks.{provisional}
use Rattle.rules.specs.Trees.{Expr, stmt_at}
use Rattle.rules.specs.Values.{value, holds, level}
use Rattle.rules.specs.Answers.{trace_words_of, trace_after}
use Rattle.rules.proofs.AgreeLaws.{test_holds, test_fails}
use Rattle.rules.proofs.AnswerLaws.{trace_words_none, trace_words_snoc, trace_after_law}
use Rattle.expression.specs.declared.values.Valued.{Valued}
use Rattle.expression.specs.Valued.{valued_of}
use Rattle.rules.specs.Running.{Item, statement, close, context, push}
use Rattle.rules.specs.Bounds.{most_pending}
use Rattle.step.specs.declared.Machine.{Machine}
use Rattle.step.specs.Denoted.{item_of, items_of, sets_of, records_of, Entry, Entries}
use Rattle.step.specs.Turns.{guards, Kept, Ready}

-- ---- one entry

pub item_close : (rows : List Row) (entry : ℕ) → entry ≡ 0 → item_of rows entry ≡ close
unfolding item_of
item_close rows entry e = ap (λ (b : Bool). cond b close (statement (stmt_at rows (entry - 1)))) (eq-eqb entry 0 e)

pub item_statement : (rows : List Row) (entry : ℕ) → entry ≢ 0 → item_of rows entry ≡ statement (stmt_at rows (entry - 1))
unfolding item_of
item_statement rows entry e = ap (λ (b : Bool). cond b close (statement (stmt_at rows (entry - 1)))) (ne_eqb entry 0 e)

pub item_row : (rows : List Row) (row : ℕ) → item_of rows (row + 1) ≡ statement (stmt_at rows row)
item_row rows row =
    item_statement rows (row + 1) (λ e. omega arith)
    ∙ ap (λ (n : ℕ). statement (stmt_at rows n)) (let e : row + 1 - 1 ≡ row = omega arith in e)

-- ---- the pending items

pub items_pop : (rows : List Row) (entries : List ℕ) (n : ℕ) → items_of rows entries (n + 1) ≡ item_of rows (get_or entries n 0) ∷ items_of rows entries n
unfolding items_of
items_pop rows entries n = ap (items_of rows entries) (add-one n)

items_above : (rows : List Row) (entries : List ℕ) (j x n : ℕ) → n ≤ j → items_of rows (set entries j x) n ≡ items_of rows entries n
unfolding items_of
items_above rows entries j x zero h = refl
items_above rows entries j x (suc n) h =
    ap₂ (λ (y : ℕ) (k : List Item). item_of rows y ∷ k) (get_or-set_other entries j n x 0 (λ e. omega arith))
    (items_above rows entries j x n (omega arith))

pub items_push :
    (rows : List Row) (entries : List ℕ) (n x : ℕ) → n < length entries
    → items_of rows (set entries n x) (n + 1) ≡ item_of rows x ∷ items_of rows entries n
items_push rows entries n x h =
    items_pop rows (set entries n x) n
    ∙ ap₂ (λ (y : ℕ) (k : List Item). item_of rows y ∷ k) (get_or-set_same entries n x 0 h) (items_above rows entries n x n (omega arith))

pub items_none : (rows : List Row) (entries : List ℕ) → items_of rows entries 0 ≡ []
unfolding items_of
items_none rows entries = refl

pub items_length : (rows : List Row) (entries : List ℕ) (n : ℕ) → length (items_of rows entries n) ≡ n
unfolding items_of
items_length rows entries zero = refl
items_length rows entries (suc n) = ap suc (items_length rows entries n)

-- entries that are the same hold the same items
pub items_same :
    (rows : List Row) (entries entries' : List ℕ) (n : ℕ) → ((i : ℕ) → i < n → get_or entries i 0 ≡ get_or entries' i 0)
    → items_of rows entries n ≡ items_of rows entries' n
unfolding items_of
items_same rows entries entries' zero same = refl
items_same rows entries entries' (suc n) same =
    ap₂ (λ (y : ℕ) (k : List Item). item_of rows y ∷ k) (same n (omega arith)) (items_same rows entries entries' n (λ i h. same i (omega arith)))

pub entries_same :
    (rows : List Row) (entries entries' : List ℕ) (n : ℕ) → ((i : ℕ) → i < n → get_or entries i 0 ≡ get_or entries' i 0)
    → Entries rows entries n → Entries rows entries' n
entries_same rows entries entries' zero same named = tt
entries_same rows entries entries' (suc n) same named =
    (subst (Entry rows) (same n (omega arith)) named.0, entries_same rows entries entries' n (λ i h. same i (omega arith)) named.1)

entries_pop : (rows : List Row) (entries : List ℕ) (n : ℕ) → Entries rows entries (n + 1) → Entry rows (get_or entries n 0) × Entries rows entries n
entries_pop rows entries n h = subst (Entries rows entries) (add-one n) h

entries_above : (rows : List Row) (entries : List ℕ) (j x n : ℕ) → n ≤ j → Entries rows entries n → Entries rows (set entries j x) n
entries_above rows entries j x zero h named = tt
entries_above rows entries j x (suc n) h named = (
  subst (Entry rows) (sym (get_or-set_other entries j n x 0 (λ e. omega arith))) named.0,
  entries_above rows entries j x n (omega arith) named.1,
)

pub entries_push :
    (rows : List Row) (entries : List ℕ) (n x : ℕ) → n < length entries → Entry rows x → Entries rows entries n
    → Entries rows (set entries n x) (n + 1)
entries_push rows entries n x h entry named =
    subst (Entries rows (set entries n x)) (sym (add-one n))
    (subst (Entry rows) (sym (get_or-set_same entries n x 0 h)) entry, entries_above rows entries n x n (omega arith) named)

pub entries_top : (rows : List Row) (entries : List ℕ) (n : ℕ) → Entries rows entries (n + 1) → Entry rows (get_or entries n 0)
entries_top rows entries n h = (entries_pop rows entries n h).0

pub entries_rest : (rows : List Row) (entries : List ℕ) (n : ℕ) → Entries rows entries (n + 1) → Entries rows entries n
entries_rest rows entries n h = (entries_pop rows entries n h).1

-- ---- the pile

pub sets_pop : (pile : List ℕ) (n : ℕ) → sets_of pile (n + 1) ≡ get_or pile n 0 ∷ sets_of pile n
unfolding sets_of
sets_pop pile n = ap (sets_of pile) (add-one n)

sets_above : (pile : List ℕ) (j x n : ℕ) → n ≤ j → sets_of (set pile j x) n ≡ sets_of pile n
unfolding sets_of
sets_above pile j x zero h = refl
sets_above pile j x (suc n) h =
    ap₂ (λ (y : ℕ) (k : List ℕ). y ∷ k) (get_or-set_other pile j n x 0 (λ e. omega arith)) (sets_above pile j x n (omega arith))

pub sets_push : (pile : List ℕ) (n x : ℕ) → n < length pile → sets_of (set pile n x) (n + 1) ≡ x ∷ sets_of pile n
sets_push pile n x h =
    sets_pop (set pile n x) n
    ∙ ap₂ (λ (y : ℕ) (k : List ℕ). y ∷ k) (get_or-set_same pile n x 0 h) (sets_above pile n x n (omega arith))

pub sets_none : (pile : List ℕ) (n : ℕ) → n ≡ 0 → sets_of pile n ≡ []
unfolding sets_of
sets_none pile n e = ap (sets_of pile) e

pub sets_length : (pile : List ℕ) (n : ℕ) → length (sets_of pile n) ≡ n
unfolding sets_of
sets_length pile zero = refl
sets_length pile (suc n) = ap suc (sets_length pile n)

-- the context that the pile makes
pub context_law : (pile : List ℕ) (n : ℕ) → context (sets_of pile n) ≡ not (eqb n 0)
unfolding sets_of
context_law pile zero = refl
context_law pile (suc n) = sym (ap not (ne_eqb (suc n) 0 (λ e. omega arith)))

-- ---- the records

records_above : (trace : List ℕ) (j x n : ℕ) → n * 2 ≤ j → records_of (set trace j x) n ≡ records_of trace n
unfolding records_of
records_above trace j x zero h = refl
records_above trace j x (suc n) h =
    λ i.
    records_above trace j x n (omega arith) i
    ++ (record {
      channel = get_or-set_other trace j (n * 2) x 0 (λ e. omega arith) i;
      value = get_or-set_other trace j (n * 2 + 1) x 0 (λ e. omega arith) i;
    } ∷ [])

pub records_length : (trace : List ℕ) (n : ℕ) → length (records_of trace n) ≡ n
unfolding records_of
records_length trace zero = refl
records_length trace (suc n) = length-append (records_of trace n) _ ∙ ap (λ (m : ℕ). m + 1) (records_length trace n) ∙ add-one n

pub records_push :
    (trace : List ℕ) (n c x : ℕ) → n * 2 + 1 < length trace
    → records_of (set (set trace (n * 2) c) (n * 2 + 1) x) (n + 1) ≡ records_of trace n ++ (record { channel = c; value = x } ∷ [])
unfolding records_of
records_push trace n c x h =
    ap (records_of (set (set trace (n * 2) c) (n * 2 + 1) x)) (add-one n)
    ∙ (λ i. below i ++ (record { channel = first i; value = second i } ∷ []))
  where
    below : records_of (set (set trace (n * 2) c) (n * 2 + 1) x) n ≡ records_of trace n
    below = records_above (set trace (n * 2) c) (n * 2 + 1) x n (omega arith) ∙ records_above trace (n * 2) c n (omega arith)

    first : get_or (set (set trace (n * 2) c) (n * 2 + 1) x) (n * 2) 0 ≡ c
    first =
        get_or-set_other (set trace (n * 2) c) (n * 2 + 1) (n * 2) x 0 (λ e. omega arith) ∙ get_or-set_same trace (n * 2) c 0 (omega arith)

    second : get_or (set (set trace (n * 2) c) (n * 2 + 1) x) (n * 2 + 1) 0 ≡ x
    second = get_or-set_same (set trace (n * 2) c) (n * 2 + 1) x 0 (omega (arith, length-set trace (n * 2) c))

-- what is written as one record leaves the rest of the trace
pub kept_push : (trace : List ℕ) (n c x : ℕ) → Kept trace (set (set trace (n * 2) c) (n * 2 + 1) x) (n + 1)
kept_push trace n c x = record {
  long = length-set (set trace (n * 2) c) (n * 2 + 1) x ∙ length-set trace (n * 2) c;
  rest = λ i h.
      get_or-set_other (set trace (n * 2) c) (n * 2 + 1) i x 0 (λ e. omega arith) ∙ get_or-set_other trace (n * 2) i c 0 (λ e. omega arith);
}

pub kept_same : (trace : List ℕ) (n : ℕ) → Kept trace trace n
kept_same trace n = record { long = refl; rest = λ i h. refl }

pub kept_then : (a b c : List ℕ) (m n : ℕ) → m ≤ n → Kept a b m → Kept b c n → Kept a c n
kept_then a b c m n h f g = record {
  long = g.long ∙ f.long;
  rest = λ i k. g.rest i k ∙ f.rest i (omega arith);
}

-- ---- a push that depends on the level of a test and on the context

-- the sets, with one more on top where a test of this level or the context is provisional
abbrev pub pushed_sets : List ℕ → ℕ → ℕ → ℕ → List ℕ
pushed_sets pile n level x = push (provisional level || context (sets_of pile n)) x (sets_of pile n)

module _ (pile : List ℕ) (n level x : ℕ) where
  guard_law : (b : Bool) → b ≡ guards level n → pushed_sets pile n level x ≡ push b x (sets_of pile n)
  guard_law b e =
      ap (λ (c : Bool). push c x (sets_of pile n)) (ap (λ (c : Bool). provisional level || c) (context_law pile n) ∙ sym e)

  pub pushed_law :
      true ≡ guards level n → n < length pile → (pile' : List ℕ) (n' : ℕ) → pile' ≡ set pile n x → n' ≡ n + 1
      → sets_of pile' n' ≡ pushed_sets pile n level x
  pushed_law e h pile' n' ep en = ap₂ sets_of ep en ∙ sets_push pile n x h ∙ sym (guard_law true e)

  pub unpushed_law : false ≡ guards level n → sets_of pile n ≡ pushed_sets pile n level x
  unpushed_law e = sym (guard_law false e)

-- ---- what an if or while opens

module _ (rows : List Row) (e : List ℕ) (n : ℕ) (long : length e ≡ most_pending) (few : n < most_pending) (named : Entries rows e n) where
  -- a close on top
  close_items : items_of rows (set e n 0) (n + 1) ≡ close ∷ items_of rows e n
  close_items = items_push rows e n 0 (omega arith) ∙ ap (λ (x : Item). x ∷ items_of rows e n) (item_close rows 0 refl)

  close_named : Entries rows (set e n 0) (n + 1)
  close_named = entries_push rows e n 0 (omega arith) (λ some. absurd (some refl)) named

  -- a close, and a statement on top of it
  two_items : (x : ℕ) → n + 1 < most_pending → items_of rows (set (set e n 0) (n + 1) (x + 1)) (n + 1 + 1) ≡ statement (stmt_at rows x) ∷ close ∷ items_of rows e n
  two_items x h =
      items_push rows (set e n 0) (n + 1) (x + 1) (omega (arith, length-set e n 0))
      ∙ ap₂ (λ (y : Item) (k : List Item). y ∷ k) (item_row rows x) close_items

  two_named : (x : ℕ) → n + 1 < most_pending → Entry rows (x + 1) → Entries rows (set (set e n 0) (n + 1) (x + 1)) (n + 1 + 1)
  two_named x h entry = entries_push rows (set e n 0) (n + 1) (x + 1) (omega (arith, length-set e n 0)) entry close_named

  two_long : (x : ℕ) → length (set (set e n 0) (n + 1) (x + 1)) ≡ most_pending
  two_long x = length-set (set e n 0) (n + 1) (x + 1) ∙ length-set e n 0 ∙ long

-- what a machine's pending items are, by its array and how many of it are pending
pending_are :
    (rows : List Row) (s' : Machine) (k : List Item) (e' : List ℕ) (n : ℕ) → s'.pending.items ≡ e' → s'.pending.len ≡ n → items_of rows e' n ≡ k
    → Entries rows e' n → length e' ≡ most_pending → (items_of rows s'.pending.items s'.pending.len ≡ k) × Entries rows s'.pending.items s'.pending.len
    × (length s'.pending.items ≡ most_pending)
pending_are rows s' k e' n ee en items named long = (
  ap₂ (λ (x : List ℕ) (m : ℕ). items_of rows x m) ee en ∙ items,
  subst₂ (λ (x : List ℕ) (m : ℕ). Entries rows x m) (sym ee) (sym en) named,
  ap length ee ∙ long,
)

module _ (rows : List Row) (s : Machine) (long : length s.pending.items ≡ most_pending) (s' : Machine) where
  abbrev e : List ℕ
  e = s.pending.items

  abbrev n : ℕ
  n = s.pending.len

  abbrev Pending : List Item → Type 0
  Pending k =
      (items_of rows s'.pending.items s'.pending.len ≡ k) × Entries rows s'.pending.items s'.pending.len × (length s'.pending.items ≡ most_pending)

  -- a close in the place of the statement, and a statement on top of it
  pub opened_branch :
      (taken : ℕ) → Ready rows s 1 → Entry rows (taken + 1) → s'.pending.items ≡ set (set e (n - 1) 0) n (taken + 1) → s'.pending.len ≡ n + 1
      → Pending (statement (stmt_at rows taken) ∷ close ∷ items_of rows e (n - 1))
  opened_branch taken ready entry ee en =
      let m : ℕ = n - 1 in
      let some : 0 < n = ready.some in
      let few : n + 1 ≤ most_pending = ready.few in
      let back : m + 1 ≡ n = omega arith in
      let named : Entries rows e m = entries_rest rows e m (subst (Entries rows e) (sym back) ready.named) in
      pending_are rows s' _ (set (set e m 0) (m + 1) (taken + 1)) (m + 1 + 1)
      (ee ∙ ap (λ (q : ℕ). set (set e m 0) q (taken + 1)) (sym back)) (omega arith)
      (two_items rows e m long (omega arith) named taken (omega arith)) (two_named rows e m long (omega arith) named taken (omega arith) entry)
      (two_long rows e m long (omega arith) named taken)

  -- a close in the place of the statement
  pub opened_leave :
      Ready rows s 0 → s'.pending.items ≡ set e (n - 1) 0 → s'.pending.len ≡ n → Pending (close ∷ items_of rows e (n - 1))
  opened_leave ready ee en =
      let m : ℕ = n - 1 in
      let some : 0 < n = ready.some in
      let few : n + 0 ≤ most_pending = ready.few in
      let back : m + 1 ≡ n = omega arith in
      let named : Entries rows e m = entries_rest rows e m (subst (Entries rows e) (sym back) ready.named) in
      pending_are rows s' _ (set e m 0) (m + 1) ee (omega arith) (close_items rows e m long (omega arith) named)
      (close_named rows e m long (omega arith) named) (length-set e m 0 ∙ long)

  -- a close and a statement on top of the loop, which stays
  pub opened_turn :
      (body : ℕ) → Ready rows s 2 → Entry rows (body + 1) → s'.pending.items ≡ set (set e n 0) (n + 1) (body + 1) → s'.pending.len ≡ n + 1 + 1
      → Pending (statement (stmt_at rows body) ∷ close ∷ items_of rows e n)
  opened_turn body ready entry ee en =
      let few : n + 2 ≤ most_pending = ready.few in
      pending_are rows s' _ (set (set e n 0) (n + 1) (body + 1)) (n + 1 + 1) ee en
      (two_items rows e n long (omega arith) ready.named body (omega arith)) (two_named rows e n long (omega arith) ready.named body (omega arith) entry)
      (two_long rows e n long (omega arith) ready.named body)

-- ---- an expression that was evaluated

module _ (w : List ℕ) (marks : ℕ) (x : Expr) (v : Valued) (evaluated : v ≡ valued_of w marks x) where
  pub level_found : v.level ≡ level marks x
  level_found = ap (λ (y : Valued). y.level) evaluated

  pub value_found : v.value ≡ value w x
  value_found = ap (λ (y : Valued). y.value) evaluated

  pub found_holds : {A : Type 0} → (v.value ≡ 0 → ⊥) → holds w x ≡ false → A
  found_holds other fails = absurd (true≢false (sym (test_holds w x (λ e. other (value_found ∙ e))) ∙ fails))

  pub found_fails : {A : Type 0} → v.value ≡ 0 → holds w x ≡ true → A
  found_fails same holds' = absurd (true≢false (sym holds' ∙ test_fails w x (sym value_found ∙ same)))

pub records_none : (trace : List ℕ) → records_of trace 0 ≡ []
unfolding records_of
records_none trace = refl

-- the words of the first n records are the first words of the trace
pub records_words : (trace : List ℕ) (n : ℕ) → n * 2 ≤ length trace → trace_words_of (records_of trace n) ≡ take (n * 2) trace
unfolding records_of
records_words trace zero h = trace_words_none
records_words trace (suc n) h =
    let two : suc n * 2 ≡ suc (suc (n * 2)) = omega arith in
    let one : n * 2 + 1 ≡ suc (n * 2) = omega arith in
    trace_words_snoc (records_of trace n) _
    ∙ ap (λ (k : List ℕ). k ++ (get_or trace (n * 2) 0 ∷ get_or trace (n * 2 + 1) 0 ∷ [])) (records_words trace n (omega arith))
    ∙ sym
    (ap (λ (k : ℕ). take k trace) two ∙ take-suc trace (suc (n * 2)) 0 (omega arith)
    ∙ ap (λ (k : List ℕ). k ++ (get_or trace (suc (n * 2)) 0 ∷ [])) (take-suc trace (n * 2) 0 (omega arith))
    ∙ append_assoc (take (n * 2) trace) (get_or trace (n * 2) 0 ∷ []) (get_or trace (suc (n * 2)) 0 ∷ [])
    ∙ ap (λ (k : ℕ). take (n * 2) trace ++ (get_or trace (n * 2) 0 ∷ get_or trace k 0 ∷ [])) (sym one))

-- a trace whose rest was kept is what the rules say it holds afterwards
pub trace_law : (t t' : List ℕ) (n : ℕ) → n * 2 ≤ length t' → Kept t t' n → t' ≡ trace_after (records_of t' n) t
trace_law t t' n h kept =
    sym
    (trace_after_law (records_of t' n) t ∙ ap (λ (k : List ℕ). k ++ drop (length k) t) (records_words t' n h)
    ∙ ap (λ (k : ℕ). take (n * 2) t' ++ drop k t) (length-take (n * 2) t' ∙ (let g : min (n * 2) (length t') ≡ n * 2 = omega arith in g))
    ∙ ap (λ (k : List ℕ). take (n * 2) t' ++ k) rest
    ∙ take-append-drop (n * 2) t')
  where
    rest : drop (n * 2) t ≡ drop (n * 2) t'
    rest =
        ext_get_or 0 (drop (n * 2) t) (drop (n * 2) t')
        (length-drop (n * 2) t ∙ sym (length-drop (n * 2) t' ∙ ap (λ (k : ℕ). k - n * 2) kept.long))
        (λ i g. get_or-drop (n * 2) t i 0 ∙ sym (kept.rest (n * 2 + i) (omega arith)) ∙ sym (get_or-drop (n * 2) t' i 0))
