-- What a step does to the state that the arrays hold.
use Rattle.std.specs.Prelude.{ℕ, ◌+◌, ◌-◌, ◌*◌, ◌≤◌, ◌<◌, Bool, true, false, cond, not, ◌||◌, ◌&&◌, eqb, List, ◌∷◌, ◌≡◌, length, get_or, set, replicate, Result, Ok, Err}
use Rattle.rules.specs.Limits.{width, most_nesting}
use Rattle.rules.specs.declared.Ended.{Ended}
use Rattle.rules.specs.declared.Row.{Row}
use Rattle.rules.specs.declared.Kind.{Kind}
use Rattle.rules.specs.Marks.{put, union, provisional}
use Rattle.rules.specs.Rows.{row_at}
use Rattle.rules.specs.Trees.{Expr, stmt_at, expr_at}
use Rattle.rules.specs.Values.{value, holds, level, may_assign}
use Rattle.rules.specs.Running.{Item, statement, close, Log, Terms, state, context, push, Attempt, denied, roomless, taken, attempted}
use Rattle.rules.specs.Bounds.{most_pending, Roomy, Bounds}
use Rattle.rules.specs.Sound.{Sound}
use Rattle.rules.specs.Answers.{terms_of}
use Rattle.step.specs.declared.Halt.{Halt}
use Rattle.step.specs.declared.Machine.{Machine}
use Rattle.step.specs.Denoted.{items_of, sets_of, Held, Arrays, held_of, state_of, Entry, Entries, Holds}

-- ---- a whole step

-- What comes of a step: the state goes on, or the output at a row is denied, because of these variables, or without room.
pub data Turn : Type 0 where
  Went : Held → Turn
  Stopped : ℕ → ℕ → Turn
  NoRoom : ℕ → Turn

-- what is said of a step by its result, where so much is held afterwards
abbrev pub turn_of : {A : Type 0} → Result A Halt → Held → Turn
turn_of (Ok done) h = Went h
turn_of (Err (Halt.Stopped row because)) h = Stopped row because
turn_of (Err (Halt.NoRoom row)) h = NoRoom row

-- how a run ends that halts
abbrev pub ended_of : Halt → Ended
ended_of (Halt.Stopped row because) = Ended.Stopped row because
ended_of (Halt.NoRoom row) = Ended.NoRoom row

-- the words of the trace after the first n records are as they were
pub record Kept (trace trace' : List ℕ) (records : ℕ) : Type 0 where
  pub long : length trace' ≡ length trace
  pub rest : (i : ℕ) → records * 2 ≤ i → get_or trace' i 0 ≡ get_or trace i 0

-- What the rules say comes of going on with the state that the arrays hold, with the room that the trace has.
abbrev pub Says : List Row → Arrays → Held → (ℕ → Attempt) → Type 0
Says rows a h said = (steps : ℕ) → attempted (terms_of (length a.trace)) (state_of rows a h steps) ≡ said steps

-- The rules take the step, to the state that the arrays hold afterwards.
pub record Goes (rows : List Row) (a : Arrays) (h : Held) (a' : Arrays) (h' : Held) : Type 0 where
  pub step : Says rows a h (λ steps. taken (state_of rows a' h' (steps + 1)))
  pub holds : Holds rows a' h'
  pub kept : Kept a.trace a'.trace h'.records
  pub more : h.records ≤ h'.records

-- The rules do not take the step: the arrays hold the state before, and the trace is as it was.
pub record Stays (rows : List Row) (a : Arrays) (h : Held) (a' : Arrays) (said : Attempt) : Type 0 where
  pub step : Says rows a h (λ steps. said)
  pub same : (steps : ℕ) → state_of rows a' h steps ≡ state_of rows a h steps
  pub holds : Holds rows a' h
  pub trace : a'.trace ≡ a.trace

-- what a turn says of the arrays before and after
abbrev pub Turned : List Row → Arrays → Held → Arrays → Turn → Type 0
Turned rows a h a' (Went h') = Goes rows a h a' h'
Turned rows a h a' (Stopped row because) = Stays rows a h a' (denied row because)
Turned rows a h a' (NoRoom row) = Stays rows a h a' (roomless row)

-- The same for a statement that is no sequence: where the step is not taken no array has changed.
abbrev pub Applied : List Row → Arrays → Held → Arrays → Turn → Type 0
Applied rows a h a' (Went h') = Goes rows a h a' h'
Applied rows a h a' (Stopped row because) = (a' ≡ a) × Says rows a h (λ steps. denied row because)
Applied rows a h a' (NoRoom row) = (a' ≡ a) × Says rows a h (λ steps. roomless row)

-- ---- where a run starts

-- The statement of the row is pending, with this memory and these marks, and nothing else is.
pub record Starts (memory : List ℕ) (given row : ℕ) (s : Machine) : Type 0 where
  pub words : s.words ≡ memory
  pub marks : s.marks ≡ given
  pub first : s.pending.items ≡ set (replicate most_pending 0) 0 (row + 1)
  pub one : s.pending.len ≡ 1
  pub sets : s.pile.items ≡ replicate most_nesting 0
  pub no_sets : s.pile.len ≡ 0
  pub no_records : s.records ≡ 0

-- ---- the statement that is next

-- The item that is next is a statement, and this is its row.
pub record Found (rows : List Row) (e : List ℕ) (n i : ℕ) (row : Row) : Type 0 where
  pub some : 0 < n
  pub next : get_or e (n - 1) 0 ≡ i + 1
  pub read : row ≡ row_at rows i
  pub within : i < length rows

-- The same state to the rules, with sequences at the front of the pending items taken apart. What is pending below them stands
-- where it stood.
pub record Apart (rows : List Row) (e : List ℕ) (n : ℕ) (e' : List ℕ) (n' : ℕ) : Type 0 where
  pub some : 0 < n
  pub higher : n ≤ n'
  pub same :
      (terms : Terms) (m : List ℕ) (l : ℕ) (p : List ℕ) (g : Log)
      → attempted terms (state (items_of rows e n) m l p g) ≡ attempted terms (state (items_of rows e' n') m l p g)
  pub bounds : (l : ℕ) (p : List ℕ) → Bounds (items_of rows e n) l p → Bounds (items_of rows e' n') l p
  pub named : Entries rows e' n'
  pub entries_long : length e' ≡ most_pending
  pub kept : (i : ℕ) → i + 1 < n → get_or e' i 0 ≡ get_or e i 0

-- sequences can be taken apart: the entries name statements, and have room for what these open
pub record CanTakeApart (rows : List Row) (e : List ℕ) (n i : ℕ) (row : Row) : Type 0 where
  pub sound : Sound rows
  pub entries_long : length e ≡ most_pending
  pub named : Entries rows e n
  pub roomy : Roomy (items_of rows e n)
  pub found : Found rows e n i row

-- they are taken apart, and the statement that is next then, which is no sequence, is found
pub record TakenApart (rows : List Row) (e : List ℕ) (n : ℕ) (e' : List ℕ) (n' i : ℕ) (row : Row) : Type 0 where
  pub apart : Apart rows e n e' n'
  pub found : Found rows e' n' i row
  pub other : row.kind ≡ Kind.Sequence → ⊥

-- ---- an if and a while

-- the row is of a statement of the table
abbrev pub Statement : List Row → ℕ → Type 0
Statement rows row = Entry rows (row + 1) × (row < length rows)

-- The state has room for what a statement opens: a set on the pile, and so many entries more.
pub record Ready (rows : List Row) (s : Machine) (more : ℕ) : Type 0 where
  pub sound : Sound rows
  pub low : s.pile.len < most_nesting
  pub some : 0 < s.pending.len
  pub few : s.pending.len + more ≤ most_pending
  pub named : Entries rows s.pending.items s.pending.len

-- The pile afterwards: this set is pushed if a test of this level or the context is provisional.
pub record Pushed (s : Machine) (level pushed : ℕ) (s' : Machine) : Type 0 where
  pub sets :
      sets_of s'.pile.items s'.pile.len
      ≡ push (provisional level || context (sets_of s.pile.items s.pile.len)) pushed (sets_of s.pile.items s.pile.len)
  pub pile_long : length s'.pile.items ≡ most_nesting
  pub rest : s' ≡ record s { pile = s'.pile }

-- A test of this level was looked at: these items are pending, and this set is pushed if the test or the context is
-- provisional; words, records and marks are as they were.
pub record Opened (rows : List Row) (s : Machine) (k : List Item) (level pushed : ℕ) (s' : Machine) : Type 0 where
  pub items : items_of rows s'.pending.items s'.pending.len ≡ k
  pub named : Entries rows s'.pending.items s'.pending.len
  pub entries_long : length s'.pending.items ≡ most_pending
  pub pile_long : length s'.pile.items ≡ most_nesting
  pub sets :
      sets_of s'.pile.items s'.pile.len
      ≡ push (provisional level || context (sets_of s.pile.items s.pile.len)) pushed (sets_of s.pile.items s.pile.len)
  pub words : s'.words ≡ s.words
  pub marks : s'.marks ≡ s.marks
  pub records : s'.records ≡ s.records

module _ (rows : List Row) (s : Machine) where
  -- what is pending below the item that is next
  abbrev pub below : List Item
  below = items_of rows s.pending.items (s.pending.len - 1)

  -- the branch that the test chooses, with the set of the other
  -- 5.8: If makes the branch that the test chooses pending, and a close after it; ..
  abbrev pub BranchOpened : ℕ → ℕ → ℕ → Machine → Type 0
  BranchOpened level chosen other = Opened rows s (statement (stmt_at rows chosen) ∷ close ∷ below) level (may_assign (stmt_at rows other))

  -- with the empty set, the number 0
  -- 5.9: While makes its body, a close and itself again pending where the test holds; ..
  abbrev pub LoopTurned : ℕ → ℕ → Machine → Type 0
  LoopTurned level body = Opened rows s (statement (stmt_at rows body) ∷ close ∷ items_of rows s.pending.items s.pending.len) level 0

  -- with the set of the body
  -- 5.10: While makes a close pending where the test fails; ..
  abbrev pub LoopLeft : ℕ → ℕ → Machine → Type 0
  LoopLeft level body = Opened rows s (close ∷ below) level (may_assign (stmt_at rows body))

-- what the statement of a row needs, that it may be taken as an if, or as a while
abbrev pub CanBranch : List Row → Machine → Row → Type 0
CanBranch rows s row = Ready rows s 1 × (row.p < length rows) × Statement rows row.q × Statement rows row.r

abbrev pub CanLoop : List Row → Machine → Row → Type 0
CanLoop rows s row = Ready rows s 2 × (row.p < length rows) × Statement rows row.q

-- The branch that the test takes is opened.
pub record Branched (rows : List Row) (s : Machine) (row : Row) (s' : Machine) : Type 0 where
  pub then :
      holds s.words (expr_at rows row.p) ≡ true → BranchOpened rows s (level s.marks (expr_at rows row.p)) row.q row.r s'
  pub otherwise :
      holds s.words (expr_at rows row.p) ≡ false → BranchOpened rows s (level s.marks (expr_at rows row.p)) row.r row.q s'

-- The loop is turned where its test holds, else left.
pub record Looped (rows : List Row) (s : Machine) (row : Row) (s' : Machine) : Type 0 where
  pub turns : holds s.words (expr_at rows row.p) ≡ true → LoopTurned rows s (level s.marks (expr_at rows row.p)) row.q s'
  pub leaves : holds s.words (expr_at rows row.p) ≡ false → LoopLeft rows s (level s.marks (expr_at rows row.p)) row.q s'

-- ---- a close, an assignment and an output

-- the expression of this level, or the context of a pile of this height, is provisional
abbrev pub guards : ℕ → ℕ → Bool
guards level height = provisional level || not (eqb height 0)

-- what is held after an item that opens nothing
abbrev pub passed : Held → ℕ → Held
passed h marks = record { pending = h.pending - 1; pile = h.pile; records = h.records; marks = marks }

-- 5.11: Close takes the topmost set off the pile, if there is one, and marks all its variables.
abbrev pub closed_held : List ℕ → Held → Held
closed_held p h =
    cond (eqb h.pile 0) (passed h h.marks)
    (record { pending = h.pending - 1; pile = h.pile - 1; records = h.records; marks = union (get_or p (h.pile - 1) 0) h.marks })

-- what is held afterwards, by the state before and after; the arrays that the state has are as they were
pub record Passed (s s' : Machine) (h' : Held) : Type 0 where
  pub held : held_of s' ≡ h'
  pub words : s'.words ≡ s.words
  pub entries : s'.pending.items ≡ s.pending.items
  pub sets : s'.pile.items ≡ s.pile.items

-- an assignment's row can be taken
abbrev pub CanAssign : List Row → Machine → Row → Type 0
CanAssign rows s row = Sound rows × (row.q < length rows) × (row.p < width) × (0 < s.pending.len)

-- the value, and whether the variable is marked
abbrev pub assigned_words : List Row → List ℕ → Row → List ℕ
assigned_words rows w row = set w row.p (value w (expr_at rows row.q))

abbrev pub assigned_held : List Row → Held → Row → Held
assigned_held rows h row = passed h (put row.p (guards (level h.marks (expr_at rows row.q)) h.pile) h.marks)

-- an output's row can be taken
abbrev pub CanPutOut : List Row → Machine → List ℕ → Row → Type 0
CanPutOut rows s t row = Sound rows × (row.q < length rows) × (0 < s.pending.len) × (s.records * 2 ≤ length t)

-- whether the monitor denies an output on this channel, of this level, under a pile of this height
abbrev pub denies : ℕ → ℕ → ℕ → Bool
denies channel level height = eqb channel 0 && guards level height

-- What comes of the output at a row, on this channel, of this expression: the trace afterwards, and the turn.
abbrev pub PutOut : ℕ → ℕ → Expr → List ℕ → List ℕ → Held → List ℕ → Turn → Type 0
PutOut at channel e w t h t' (Went h') =
    (denies channel (level h.marks e) h.pile ≡ false) × (h.records * 2 + 1 < length t)
    × (t' ≡ set (set t (h.records * 2) channel) (h.records * 2 + 1) (value w e))
    × (h' ≡ record { pending = h.pending - 1; pile = h.pile; records = h.records + 1; marks = h.marks })
PutOut at channel e w t h t' (Stopped row because) =
    (row ≡ at) × (denies channel (level h.marks e) h.pile ≡ true) × (because ≡ level h.marks e) × (t' ≡ t)
PutOut at channel e w t h t' (NoRoom row) =
    (row ≡ at) × (denies channel (level h.marks e) h.pile ≡ false) × (length t ≤ h.records * 2 + 1) × (t' ≡ t)
