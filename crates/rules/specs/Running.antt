-- Sections 5 and 6 of the rules: the state, one step, and the run.
use Rattle.std.specs.Prelude.{ℕ, zero, suc, ◌+◌, Bool, true, false, ◌||◌, ◌&&◌, List, [], ◌∷◌, ◌++◌, eqb, ltb, length, set}
use Rattle.rules.specs.declared.Ended.{Ended}
use Rattle.rules.specs.Marks.{none, put, union, provisional}
use Rattle.rules.specs.Trees.{Expr, Stmt, skip, assign, sequence, if, while, output}
use Rattle.rules.specs.Values.{value, holds, level, may_assign}

-- 5.1: A run has a list of what is pending, statements and closes, and always goes on with the first; ..
pub data Item : Type 0 where
  statement : Stmt → Item
  close : Item

-- 5.14: A record is a channel and a value: ..
pub record Record : Type 0 where
  pub channel : ℕ
  pub value : ℕ

-- What a run has to show so far: its records, and how many steps it took.
pub record Log : Type 0 where
  pub records : List Record
  pub steps : ℕ

-- The pending items, next one first; memory, marks and pile, its top first; what the run has to show so far.
pub record State : Type 0 where
  pub pending : List Item
  pub memory : List ℕ
  pub marks : ℕ
  pub pile : List ℕ
  pub log : Log

-- a state by its parts
abbrev pub state : List Item → List ℕ → ℕ → List ℕ → Log → State
state pending memory marks pile log = record {
  pending = pending;
  memory = memory;
  marks = marks;
  pile = pile;
  log = log;
}

-- nothing to show yet
abbrev pub blank : Log
blank = record { records = []; steps = 0 }

-- What a run is given besides the state: the room for records.
pub record Terms : Type 0 where
  pub room : ℕ

-- 5.1: .. at the start the recipe alone is pending.
-- 5.2: The monitor holds the marks, at the start those given, and a pile of sets of variables, at the start an empty one.
unfoldable pub start : Stmt → List ℕ → ℕ → State
start recipe memory marks = state (statement recipe ∷ []) memory marks [] blank

-- 5.3: The context is provisional while the pile is not empty.
abbrev pub context : List ℕ → Bool
context [] = false
context (top ∷ below) = true

-- 5.4: An expression is guarded where it is provisional or the context is.
unfoldable pub guarded : Expr → State → Bool
guarded e σ = provisional (level σ.marks e) || context σ.pile

-- where the test is guarded, this set is put on the pile
abbrev pub push : Bool → ℕ → List ℕ → List ℕ
push true pushed pile = pushed ∷ pile
push false pushed pile = pile

-- one step more, and one record more where it writes one
-- 5.5: Each of the following is one step; ..
abbrev pub counted : Log → Log
counted log = record { records = log.records; steps = log.steps + 1 }

abbrev pub noted : Record → Log → Log
noted entry log = record { records = log.records ++ (entry ∷ []); steps = log.steps + 1 }

-- 5.6: Skip does nothing.
unfoldable pub skipped : List Item → State → State
skipped rest σ = record {
  pending = rest;
  memory = σ.memory;
  marks = σ.marks;
  pile = σ.pile;
  log = counted σ.log;
}

-- 5.7: Assign gives its variable the expression's value, and marks it where the expression is guarded and unmarks it where
-- not.
unfoldable pub assigned : ℕ → Expr → List Item → State → State
assigned v e rest σ = record {
  pending = rest;
  memory = set σ.memory v (value σ.memory e);
  marks = put v (guarded e σ) σ.marks;
  pile = σ.pile;
  log = counted σ.log;
}

-- a test was looked at: these items come next, and this set is put on the pile where the test is guarded
unfoldable pub opened : List Item → Expr → ℕ → State → State
opened next test pushed σ = record {
  pending = next;
  memory = σ.memory;
  marks = σ.marks;
  pile = push (guarded test σ) pushed σ.pile;
  log = counted σ.log;
}

-- 5.8: If makes the branch that the test chooses pending, and a close after it; where the test is guarded, what the other
-- branch may assign is put on the pile.
unfoldable pub branched : Bool → Expr → Stmt → Stmt → List Item → State → State
branched true test then else rest σ = opened (statement then ∷ close ∷ rest) test (may_assign else) σ
branched false test then else rest σ = opened (statement else ∷ close ∷ rest) test (may_assign then) σ

-- 5.9: While makes its body, a close and itself again pending where the test holds; where the test is guarded, the empty
-- set is put on the pile.
-- 5.10: While makes a close pending where the test fails; where the test is guarded, what the body may assign is put on the
-- pile.
unfoldable pub turned : Bool → Expr → Stmt → List Item → State → State
turned true test body rest σ = opened (statement body ∷ close ∷ statement (while test body) ∷ rest) test none σ
turned false test body rest σ = opened (close ∷ rest) test (may_assign body) σ

-- 5.11: Close takes the topmost set off the pile, if there is one, and marks all its variables.
unfoldable pub closed_marks : List ℕ → ℕ → ℕ
closed_marks [] marks = marks
closed_marks (top ∷ below) marks = union top marks

unfoldable pub popped : List ℕ → List ℕ
popped [] = []
popped (top ∷ below) = below

unfoldable pub closed : List Item → State → State
closed rest σ = record {
  pending = rest;
  memory = σ.memory;
  marks = closed_marks σ.pile σ.marks;
  pile = popped σ.pile;
  log = counted σ.log;
}

-- 5.12: Output writes a record, ..
-- 5.14: .. the output's channel, and its expression's value.
unfoldable pub recorded : ℕ → Expr → List Item → State → State
recorded channel e rest σ = record {
  pending = rest;
  memory = σ.memory;
  marks = σ.marks;
  pile = σ.pile;
  log = noted (record { channel = channel; value = value σ.memory e }) σ.log;
}

-- What comes of going on with a state: nothing is pending; the output at this row is denied, because of these variables, or
-- without room; or the step is taken.
pub data Attempt : Type 0 where
  finished : Attempt
  denied : ℕ → ℕ → Attempt
  roomless : ℕ → Attempt
  taken : State → Attempt

-- 5.13: An output is denied where its channel is 0 and its expression guarded.
abbrev pub denies : ℕ → Expr → ℕ → List ℕ → Bool
denies channel e marks pile = eqb channel 0 && (provisional (level marks e) || context pile)

unfoldable pub is_denied : ℕ → Expr → State → Bool
is_denied channel e σ = denies channel e σ.marks σ.pile

-- whether the output is denied, and whether there is room for one record more; the output's row, and its expression's level
-- 5.12: Output writes a record, unless it is denied.
-- 6.2: .. the step is an output that is denied, and the run is stopped; it is an output and the trace has no room for a
-- further record, and the run ends without room; else the step is taken, ..
unfoldable pub output_attempt : Bool → Bool → ℕ → ℕ → State → Attempt
output_attempt true room row spoiled next = denied row spoiled
output_attempt false false row spoiled next = roomless row
output_attempt false true row spoiled next = taken next

-- The next step where a statement is next.
-- 5.5: .. a sequence is none, it only puts its two statements in its place.
-- 6.10: A run is stopped because of the variables in the level of the denied output's expression, ..
unfoldable pub begin : Terms → Stmt → List Item → State → Attempt
begin terms skip rest σ = taken (skipped rest σ)
begin terms (assign v e) rest σ = taken (assigned v e rest σ)
begin terms (sequence s t) rest σ = begin terms s (statement t ∷ rest) σ
begin terms (if e s t) rest σ = taken (branched (holds σ.memory e) e s t rest σ)
begin terms (while e s) rest σ = taken (turned (holds σ.memory e) e s rest σ)
begin terms (output channel e row) rest σ =
    output_attempt (is_denied channel e σ) (ltb (length σ.log.records) terms.room) row (level σ.marks e) (recorded channel e rest σ)

unfoldable pub attempt : Terms → List Item → State → Attempt
attempt terms [] σ = finished
attempt terms (statement s ∷ rest) σ = begin terms s rest σ
attempt terms (close ∷ rest) σ = taken (closed rest σ)

-- what comes of going on with a state
abbrev pub attempted : Terms → State → Attempt
attempted terms σ = attempt terms σ.pending σ

-- How a run ended, and the state that it reached.
pub record Outcome : Type 0 where
  pub ended : Ended
  pub state : State

abbrev pub outcome : Ended → State → Outcome
outcome ended σ = record { ended = ended; state = σ }

-- 6.1: A run with nothing pending is done, also where its last step has used up the budget.
unfoldable pub at_budget : List Item → Ended
at_budget [] = Ended.Done
at_budget (item ∷ rest) = Ended.Spent

-- where the step is taken, onward goes on
-- 6.2: .. else the step is taken, and counted.
unfoldable pub follow : (State → Outcome) → State → Attempt → Outcome
follow onward σ finished = outcome Ended.Done σ
follow onward σ (denied row because) = outcome (Ended.Stopped row because) σ
follow onward σ (roomless row) = outcome (Ended.NoRoom row) σ
follow onward σ (taken next) = onward next

-- 6.2: With something pending, these are looked at before each step, in this order: the budget is used up, and the run is
-- spent; the step is an output that is denied, and the run is stopped; it is an output and the trace has no room for a
-- further record, and the run ends without room; else the step is taken, and counted.
unfoldable pub run : Terms → ℕ → State → Outcome
run terms zero σ = outcome (at_budget σ.pending) σ
run terms (suc budget) σ = follow (run terms budget) σ (attempted terms σ)
