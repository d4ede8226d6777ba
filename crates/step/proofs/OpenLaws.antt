-- What the contract of a step leaves open.
use Prim.Native.Nat.{ℕ, ◌+◌, ◌≤◌}
use native.Mathlib.Omega.{arith}
use mathlib.Core.List.{List}
use mathlib.Core.Path.{◌≡◌, refl, sym, ap, ap₂, ◌∙◌}
use mathlib.Core.HLevel.{is_prop→PathP}
use lib.ListN.{length}
use Rattle.std.specs.Prelude.{Result, Ok, Err}
use Rattle.rules.specs.declared.Row.{Row}
use Rattle.rules.specs.Running.{Record, State, Attempt, finished, denied, roomless, taken}
use Rattle.rules.specs.Answers.{trace_after}
use Rattle.rules.specs.Limits.{most_nesting}
use Rattle.rules.specs.Bounds.{most_pending}
use Rattle.std.proofs.Math.Bridge.{le_prop}
use Rattle.step.specs.declared.Halt.{Halt}
use Rattle.step.specs.declared.Machine.{Machine}
use Rattle.step.specs.Denoted.{records_of, Held, Arrays, state_of}
use Rattle.step.specs.Turns.{Turn, Went, Stopped, NoRoom, turn_of, Goes}
use Rattle.step.specs.Open.{SameTurn, TurnIsDecided}
use Rattle.step.proofs.ArrayLaws.{items_length, sets_length, records_length, trace_law}

-- two results of which the same is said are the same, whatever is held after each
turn_back : Turn → Result (Unit {0}) Halt
turn_back (Went h) = Ok tt
turn_back (Stopped row because) = Err (Halt.Stopped row because)
turn_back (NoRoom row) = Err (Halt.NoRoom row)

turn_back_lem : (result : Result (Unit {0}) Halt) (h : Held) → turn_back (turn_of result h) ≡ result
unfolding turn_back
turn_back_lem (Ok done) h = refl
turn_back_lem (Err (Halt.Stopped row because)) h = refl
turn_back_lem (Err (Halt.NoRoom row)) h = refl

pub turn_unique : (a b : Result (Unit {0}) Halt) (h h' : Held) → turn_of a h ≡ turn_of b h' → a ≡ b
turn_unique a b h h' e = sym (turn_back_lem a h) ∙ ap turn_back e ∙ turn_back_lem b h'

-- an attempt's state, its row and its set: what two equal attempts have in common
abbrev state_in : State → Attempt → State
state_in σ finished = σ
state_in σ (denied row because) = σ
state_in σ (roomless row) = σ
state_in σ (taken next) = next

abbrev row_in : Attempt → ℕ
row_in finished = 0
row_in (denied row because) = row
row_in (roomless row) = row
row_in (taken next) = 0

abbrev set_in : Attempt → ℕ
set_in finished = 0
set_in (denied row because) = because
set_in (roomless row) = 0
set_in (taken next) = 0

-- the two attempts are not alike
apart : {A : Type 0} {x y : Attempt} → (number : Attempt → ℕ) → (number x ≡ 0) → (number y ≡ 1) → x ≡ y → A
apart number zeroth first e = let z = sym zeroth ∙ ap number e ∙ first in absurd (omega arith)

abbrev is_taken : Attempt → ℕ
is_taken finished = 0
is_taken (denied row because) = 0
is_taken (roomless row) = 0
is_taken (taken next) = 1

abbrev is_roomless : Attempt → ℕ
is_roomless finished = 0
is_roomless (denied row because) = 0
is_roomless (roomless row) = 1
is_roomless (taken next) = 0

-- two steps that were taken
module _ (rows : List Row) (before : Arrays) (h : Held) (a b : Arrays) (h₁ h₂ : Held) (x : Goes rows before h a h₁) (y : Goes rows before h b h₂) where
  states : (steps : ℕ) → state_of rows a h₁ (steps + 1) ≡ state_of rows b h₂ (steps + 1)
  states steps = ap (state_in (state_of rows a h₁ 0)) (sym (x.step steps) ∙ y.step steps)

  records : records_of a.trace h₁.records ≡ records_of b.trace h₂.records
  records = ap (λ (σ : State). σ.log.records) (states 0)

  pending_same : h₁.pending ≡ h₂.pending
  pending_same =
      sym (items_length rows a.entries h₁.pending) ∙ ap (λ (σ : State). length σ.pending) (states 0) ∙ items_length rows b.entries h₂.pending

  pile_same : h₁.pile ≡ h₂.pile
  pile_same = sym (sets_length a.pile h₁.pile) ∙ ap (λ (σ : State). length σ.pile) (states 0) ∙ sets_length b.pile h₂.pile

  records_same : h₁.records ≡ h₂.records
  records_same = sym (records_length a.trace h₁.records) ∙ ap length records ∙ records_length b.trace h₂.records

  went_same : SameTurn rows h a (Went h₁) b (Went h₂)
  went_same = record {
    turn_same = λ i. Went (record { pending = pending_same i; pile = pile_same i; records = records_same i; marks = ap (λ (σ : State). σ.marks) (states 0) i });
    state_same = states;
    words_same = ap (λ (σ : State). σ.memory) (states 0);
    trace_same =
        trace_law before.trace a.trace h₁.records x.holds.written x.kept
        ∙ ap (λ (r : List Record). trace_after r before.trace) records
        ∙ sym (trace_law before.trace b.trace h₂.records y.holds.written y.kept);
  }

pub turn_is_decided : TurnIsDecided
turn_is_decided rows before h a b (Went h₁) (Went h₂) x y = went_same rows before h a b h₁ h₂ x y
turn_is_decided rows before h a b (Went h₁) (Stopped row because) x y = apart is_taken refl refl (sym (y.step 0) ∙ x.step 0)
turn_is_decided rows before h a b (Went h₁) (NoRoom row) x y = apart is_taken refl refl (sym (y.step 0) ∙ x.step 0)
turn_is_decided rows before h a b (Stopped row because) (Went h₂) x y = apart is_taken refl refl (sym (x.step 0) ∙ y.step 0)
turn_is_decided rows before h a b (Stopped row because) (Stopped row' because') x y = record {
  turn_same = let same = sym (x.step 0) ∙ y.step 0 in ap₂ Stopped (ap row_in same) (ap set_in same);
  state_same = λ steps. x.same steps ∙ sym (y.same steps);
  words_same = ap (λ (σ : State). σ.memory) (x.same 0 ∙ sym (y.same 0));
  trace_same = x.trace ∙ sym y.trace;
}
turn_is_decided rows before h a b (Stopped row because) (NoRoom row') x y = apart is_roomless refl refl (sym (x.step 0) ∙ y.step 0)
turn_is_decided rows before h a b (NoRoom row) (Went h₂) x y = apart is_taken refl refl (sym (x.step 0) ∙ y.step 0)
turn_is_decided rows before h a b (NoRoom row) (Stopped row' because') x y = apart is_roomless refl refl (sym (y.step 0) ∙ x.step 0)
turn_is_decided rows before h a b (NoRoom row) (NoRoom row') x y = record {
  turn_same = ap NoRoom (ap row_in (sym (x.step 0) ∙ y.step 0));
  state_same = λ steps. x.same steps ∙ sym (y.same steps);
  words_same = ap (λ (σ : State). σ.memory) (x.same 0 ∙ sym (y.same 0));
  trace_same = x.trace ∙ sym y.trace;
}

-- two machines with the same fields
pub machine_unique :
    (a b : Machine) → a.words ≡ b.words → a.marks ≡ b.marks → a.pending.items ≡ b.pending.items → a.pending.len ≡ b.pending.len
    → a.pile.items ≡ b.pile.items → a.pile.len ≡ b.pile.len → a.records ≡ b.records → a ≡ b
machine_unique a b words marks entries pending sets pile records = λ i. record {
  words = words i;
  marks = marks i;
  pending = record {
    items = entries i;
    len = pending i;
    within = is_prop→PathP (λ i. pending i ≤ most_pending) (λ i. le_prop) a.pending.within b.pending.within i;
  };
  pile = record {
    items = sets i;
    len = pile i;
    within = is_prop→PathP (λ i. pile i ≤ most_nesting) (λ i. le_prop) a.pile.within b.pile.within i;
  };
  records = records i;
}
