-- A whole call of the run: the state that it starts from, and its answer and trace from how it went.
use Prim.Native.Nat.{ℕ, ◌+◌, ◌-◌, ◌/◌, ◌^◌, ◌≤◌, ◌<◌}
use native.Mathlib.Omega.{arith}
use mathlib.Core.List.{List, [], ◌∷◌}
use mathlib.Core.Path.{◌≡◌, refl, sym, ap, ap₂, ◌∙◌, subst, subst₂}
use lib.ListN.{length, set, replicate, length-set}
use Rattle.rules.specs.declared.Answer.{Answer}
use Rattle.rules.specs.declared.Ended.{Ended}
use Rattle.rules.specs.declared.Refusal.{Refusal}
use Rattle.rules.specs.Judged.{Judged}
use Rattle.rules.specs.Limits.{width, most_trace_words, most_nesting}
use Rattle.rules.specs.Rows.{rows_of, row_at}
use Rattle.rules.specs.Trees.{recipe}
use Rattle.rules.specs.Judging.{judge}
use Rattle.rules.specs.Running.{Item, statement, State, state, run}
use Rattle.rules.specs.Bounds.{most_pending, Bounds}
use Rattle.rules.specs.Sound.{Sound}
use Rattle.rules.specs.Answers.{Whole, Inputs, inputs, number_of, said_of_run, because_of, reached, answered, answer, trace_after, told_of, telling, Tells, RunAnswers, terms_of}
use Rattle.rules.proofs.RowLaws.{statement_left}
use Rattle.rules.proofs.JudgeLaws.{accepted_sound, accepted_count}
use Rattle.rules.proofs.TreeLaws.{recipe_law}
use Rattle.rules.proofs.BoundLaws.{bounds_start}
use Rattle.rules.proofs.AnswerLaws.{start_of, shown_law, turned_away, answer_ran, telling_law, trace_kept}
use Rattle.step.specs.declared.Machine.{Machine}
use Rattle.step.specs.Denoted.{items_of, sets_of, records_of, Held, Arrays, arrays, arrays_of, held_of, state_of, Entry, Holds}
use Rattle.step.specs.Turns.{Starts}
use Rattle.step.proofs.ArrayLaws.{item_row, items_push, items_none, entries_push, sets_none, records_none, records_length, trace_law}
use Rattle.step.proofs.StepLaws.{entry_of}
use Rattle.monitor.specs.Going.{Reached, Went}

-- what the trace and this end show
abbrev shown : List ℕ → Reached → Whole
shown trace r = record {
  said = said_of_run r.ended;
  because = because_of r.ended;
  steps = r.steps;
  records = records_of trace r.held.records;
  memory = r.memory.words;
  marks = r.held.marks;
}

-- the state of which nothing is used yet but the recipe that is next
abbrev pub start_held : ℕ → Held
start_held marks = record { pending = 1; pile = 0; records = 0; marks = marks }

module _ (words m : List ℕ) (l : ℕ) (ok : judge words ≡ Judged.Accepted) (e p t : List ℕ) (long : length e ≡ most_pending) where
  sound : Sound (rows_of words)
  sound = accepted_sound words ok

  -- the table's last row is a statement
  last_entry : Entry (rows_of words) (length (rows_of words) - 1 + 1)
  last_entry =
      let some : 0 < length (rows_of words) = sound.some in
      entry_of (rows_of words) (length (rows_of words) - 1) (omega arith)
      (statement_left (row_at (rows_of words) (length (rows_of words) - 1)).kind (sound.row (length (rows_of words) - 1) (omega arith)).known
      (sound.last (length (rows_of words) - 1) (omega arith)))

  first_item : items_of (rows_of words) (set e 0 (length (rows_of words) - 1 + 1)) 1 ≡ statement (recipe (rows_of words)) ∷ []
  first_item =
      items_push (rows_of words) e 0 (length (rows_of words) - 1 + 1) (omega arith)
      ∙ ap₂ (λ (x : Item) (k : List Item). x ∷ k) (item_row (rows_of words) (length (rows_of words) - 1) ∙ ap statement (sym (recipe_law (rows_of words))))
      (items_none (rows_of words) e)

  -- the first entry is the last row's, by the number of rows
  first_is : (rows : ℕ) → rows ≡ length words / 4 → length (rows_of words) - 1 + 1 ≡ rows
  first_is rows count = omega (arith, accepted_count words ok, sound.some)

  -- the arrays from which a run of an accepted table starts
  pub start_holds :
      (rows : ℕ) → rows ≡ length words / 4 → length m ≡ width → l < 2 ^ width → length p ≡ most_nesting
      → Holds (rows_of words) (arrays m (set e 0 rows) p t) (start_held l)
  start_holds rows count whole small plong =
      subst (λ (x : ℕ). Holds (rows_of words) (arrays m (set e 0 x) p t) (start_held l)) (first_is rows count)
      (record {
        sound = sound;
        words_long = whole;
        entries_long = length-set e 0 _ ∙ long;
        pile_long = plong;
        named = entries_push (rows_of words) e 0 (length (rows_of words) - 1 + 1) (omega arith) last_entry tt;
        bounds =
            subst (λ (k : List Item). Bounds k l (sets_of p 0)) (sym first_item)
            (subst (Bounds (statement (recipe (rows_of words)) ∷ []) l) (sym (sets_none p 0 refl)) (bounds_start words l ok small));
        written = omega arith;
      })

  -- the state that they hold is the one from which the recipe starts
  start_state : (rows : ℕ) → rows ≡ length words / 4 → state_of (rows_of words) (arrays m (set e 0 rows) p t) (start_held l) 0 ≡ start_of words m l
  start_state rows count =
      let items : items_of (rows_of words) (set e 0 rows) 1 ≡ statement (recipe (rows_of words)) ∷ [] =
      subst (λ (x : ℕ). items_of (rows_of words) (set e 0 x) 1 ≡ statement (recipe (rows_of words)) ∷ []) (first_is rows count) first_item
      in
      λ i. state (items i) m l (sets_none p 0 refl i) (record { records = records_none t i; steps = 0 })

  -- what the run of an accepted table answers, from how it went
  pub ran_answer :
      (rows : ℕ) → rows ≡ length words / 4 → (budget : ℕ) (e' p' t' : List ℕ) (r : Reached)
      → Went (rows_of words) (arrays m (set e 0 rows) p t) (start_held l) budget e' p' t' r
      → answered Judged.Accepted (inputs words m l budget t) ≡ shown t' r
  ran_answer rows count budget e' p' t' r went =
      shown_law (inputs words m l budget t)
      ∙ ap (λ (σ : State). reached (run (terms_of (length t)) budget σ)) (sym (start_state rows count))
      ∙ ap reached went.ran

-- ---- the contract's two parts

pub ran_told :
    (i : Inputs) (e p : List ℕ) (h : Held) (e' p' t' : List ℕ) (r : Reached)
    → Went (rows_of i.words) (arrays i.memory e p i.trace) h i.budget e' p' t' r → (w : Whole) → w ≡ shown t' r → (a : Answer)
    → a ≡ record { ended = r.ended; steps = r.steps; records = r.held.records; memory = r.memory; marks = r.held.marks }
    → Tells w i.trace a t'
ran_told i e p h e' p' t' r went w is a ea = record {
  told =
      telling_law a (shown t' r) (ap (λ (x : Answer). said_of_run x.ended) ea) (ap (λ (x : Answer). because_of x.ended) ea) (ap (λ (x : Answer). x.steps) ea)
      (ap (λ (x : Answer). x.records) ea ∙ sym (records_length t' r.held.records)) (ap (λ (x : Answer). x.memory.words) ea) (ap (λ (x : Answer). x.marks) ea)
      ∙ ap telling (sym is);
  after_trace =
      trace_law i.trace t' r.held.records went.holds.written went.kept ∙ ap (λ (x : Whole). trace_after x.records i.trace) (sym is);
}

-- ---- on a machine

module _ (words m : List ℕ) (l : ℕ) (ok : judge words ≡ Judged.Accepted) (t : List ℕ) (s : Machine) (starts : Starts m l (length words / 4 - 1) s) where
  abbrev as_started : Arrays
  as_started = arrays m (set (replicate most_pending 0) 0 (length words / 4)) (replicate most_nesting 0) t

  arrays_start : ◌≡◌ {A = Arrays} (arrays_of s t) as_started
  arrays_start =
      let count : length words / 4 - 1 + 1 ≡ length words / 4 = omega (arith, accepted_count words ok, (accepted_sound words ok).some) in
      λ i. arrays (starts.words i) ((starts.first ∙ ap (set (replicate most_pending 0) 0) count) i) (starts.sets i) t

  held_start : ◌≡◌ {A = Held} (held_of s) (start_held l)
  held_start = λ i. record { pending = starts.one i; pile = starts.no_sets i; records = starts.no_records i; marks = starts.marks i }

  pub machine_holds : length m ≡ width → l < 2 ^ width → Holds (rows_of words) (arrays_of s t) (held_of s)
  machine_holds whole small =
      subst₂ (Holds (rows_of words)) (sym arrays_start) (sym held_start)
      (start_holds words m l ok (replicate most_pending 0) (replicate most_nesting 0) t refl _ refl whole small refl)

  -- what a call answers and leaves, from how it went
  pub machine_told :
      (budget : ℕ) (e' p' t' : List ℕ) (r : Reached) → Went (rows_of words) (arrays_of s t) (held_of s) budget e' p' t' r → (a : Answer)
      → a ≡ record { ended = r.ended; steps = r.steps; records = r.held.records; memory = r.memory; marks = r.held.marks }
      → Tells (answered Judged.Accepted (inputs words m l budget t)) t a t'
  machine_told budget e' p' t' r went a ea =
      let went' : Went (rows_of words) as_started (start_held l) budget e' p' t' r =
      subst₂ (λ (x : Arrays) (h : Held). Went (rows_of words) x h budget e' p' t' r) arrays_start held_start went
      in
      ran_told (inputs words m l budget t) _ _ _ _ _ _ r went' _
      (ran_answer words m l ok (replicate most_pending 0) (replicate most_nesting 0) t refl _ refl budget _ _ _ r went') a ea

-- a call that ran
pub run_told :
    (i : Inputs) → judge i.words ≡ Judged.Accepted → length i.trace ≤ most_trace_words → (a : Answer) (after : List ℕ)
    → Tells (answered Judged.Accepted i) i.trace a after → RunAnswers i a after
run_told i ok fits a after told = subst (λ (w : Whole). Tells w i.trace a after) (sym (answer_ran i ok fits)) told

-- a refused call
pub away_told :
    (i : Inputs) (refusal : Refusal) → answer i ≡ turned_away (number_of refusal.fault) refusal.row i → (a : Answer)
    → a ≡ record { ended = Ended.Refused (number_of refusal.fault) refusal.row; steps = 0; records = 0; memory = record { words = i.memory }; marks = i.marks }
    → RunAnswers i a i.trace
away_told i refusal is a ea = record {
  told = ap told_of ea ∙ telling_law _ (turned_away (number_of refusal.fault) refusal.row i) refl refl refl refl refl refl ∙ ap telling (sym is);
  after_trace = sym (trace_kept i.trace) ∙ ap (λ (x : Whole). trace_after x.records i.trace) (sym is);
}
