-- Which state of the rules stands in the arrays.
use Rattle.std.specs.Prelude.{ℕ, zero, suc, ◌+◌, ◌-◌, ◌*◌, ◌≤◌, true, cond, List, [], ◌∷◌, ◌++◌, ◌≡◌, eqb, length, get_or}
use Rattle.rules.specs.declared.Row.{Row}
use Rattle.rules.specs.Limits.{width, most_nesting}
use Rattle.rules.specs.Rows.{is_statement, row_at}
use Rattle.rules.specs.Trees.{stmt_at}
use Rattle.rules.specs.Running.{Item, statement, close, Record, Log, State, state}
use Rattle.rules.specs.Bounds.{most_pending, Bounds}
use Rattle.rules.specs.Sound.{Sound}
use Rattle.step.specs.declared.Machine.{Machine}

-- an entry of the pending array: 0 is a close, and any other number a statement's row and 1
unfoldable pub item_of : List Row → ℕ → Item
item_of rows entry = cond (eqb entry 0) close (statement (stmt_at rows (entry - 1)))

-- the first n entries, the last of them next
unfoldable pub items_of : List Row → List ℕ → ℕ → List Item
items_of rows entries zero = []
items_of rows entries (suc n) = item_of rows (get_or entries n 0) ∷ items_of rows entries n

-- the first n sets of the pile, the last of them on top
unfoldable pub sets_of : List ℕ → ℕ → List ℕ
sets_of pile zero = []
sets_of pile (suc n) = get_or pile n 0 ∷ sets_of pile n

-- the first n records of the trace
unfoldable pub records_of : List ℕ → ℕ → List Record
records_of trace zero = []
records_of trace (suc n) = records_of trace n ++ (record { channel = get_or trace (n * 2) 0; value = get_or trace (n * 2 + 1) 0 } ∷ [])

-- what the run has to show, after so many steps, where so many records stand in the trace
abbrev pub log_of : List ℕ → ℕ → ℕ → Log
log_of trace records steps = record { records = records_of trace records; steps = steps }

-- How much of each array the state takes, and its marks.
pub record Held : Type 0 where
  pub pending : ℕ
  pub pile : ℕ
  pub records : ℕ
  pub marks : ℕ

-- The arrays in which a run's state stands: memory's words, the pending entries, the pile's sets, the trace.
pub record Arrays : Type 0 where
  pub words : List ℕ
  pub entries : List ℕ
  pub pile : List ℕ
  pub trace : List ℕ

abbrev pub arrays : List ℕ → List ℕ → List ℕ → List ℕ → Arrays
arrays words entries pile trace = record { words = words; entries = entries; pile = pile; trace = trace }

-- the arrays of a machine, with the trace that is lent beside it, and how much of each its state takes
abbrev pub arrays_of : Machine → List ℕ → Arrays
arrays_of s trace = arrays s.words s.pending.items s.pile.items trace

abbrev pub held_of : Machine → Held
held_of s = record { pending = s.pending.len; pile = s.pile.len; records = s.records; marks = s.marks }

-- the state that the arrays hold, after so many steps
abbrev pub state_of : List Row → Arrays → Held → ℕ → State
state_of rows a held steps =
    state (items_of rows a.entries held.pending) a.words held.marks (sets_of a.pile held.pile) (log_of a.trace held.records steps)

-- the entry is a close, or names a statement of the table
abbrev pub Entry : List Row → ℕ → Type 0
Entry rows entry = (entry ≡ 0 → ⊥) → (entry ≤ length rows) × (is_statement (row_at rows (entry - 1)).kind ≡ true)

abbrev pub Entries : List Row → List ℕ → ℕ → Type 0
Entries rows entries zero = Unit {0}
Entries rows entries (suc n) = Entry rows (get_or entries n 0) × Entries rows entries n

-- the arrays hold a state of a run of a judged table
pub record Holds (rows : List Row) (a : Arrays) (held : Held) : Type 0 where
  pub sound : Sound rows
  pub words_long : length a.words ≡ width
  pub entries_long : length a.entries ≡ most_pending
  pub pile_long : length a.pile ≡ most_nesting
  pub named : Entries rows a.entries held.pending
  pub bounds : Bounds (items_of rows a.entries held.pending) held.marks (sets_of a.pile held.pile)
  pub written : held.records * 2 ≤ length a.trace
