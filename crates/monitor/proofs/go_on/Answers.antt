-- `monitor::go_on` meets its contract.
use native.Mathlib.Omega.{arith}
use Prim.Native.Nat.{ℕ}
use mathlib.Core.Path.{◌≡◌, sym, ◌∙◌, subst}
use mathlib.Core.Bool.{true≢false}
use Rattle.rules.specs.declared.Ended.{Ended}
use Rattle.rules.specs.Rows.{rows_of}
use Rattle.step.specs.Denoted.{arrays_of, held_of}
use Rattle.monitor.specs.Going.{reached_by, Went}
use Rattle.monitor.proofs.GoingLaws.{done_here, spent_here, halts_here, goes_on}
use Rattle.monitor.proofs.go_on.Goals as goal

pub returns-then-is_done : goal.returns-then-is_done
returns-then-is_done c =
    let a = c.args in
    let now = c.loop-steps in
    done_here (rows_of a.table.now) (arrays_of a.machine.now a.trace.now) (held_of a.machine.now) a.budget (arrays_of now.machine now.trace)
    (held_of now.machine) now.steps now.invariant (c.is_done.ensures.0 c.if-is_done.true)

pub returns-in-Err : goal.returns-in-Err
returns-in-Err c =
    let a = c.args in
    let now = c.loop-steps in
    halts_here (rows_of a.table.now) (arrays_of a.machine.now a.trace.now) (held_of a.machine.now) a.budget (arrays_of now.machine now.trace)
    (held_of now.machine) now.steps now.invariant (λ e. omega arith) c.in-Err.halt c.step.new.self c.step.new.trace _ c.in-Err.ensures.turned
    c.in-Err.ensures.err c.into.result c.into.ensures

pub loop-steps-preserved : goal.loop-steps-preserved
loop-steps-preserved c =
    let a = c.args in
    let now = c.loop-steps in
    goes_on (rows_of a.table.now) (arrays_of a.machine.now a.trace.now) (held_of a.machine.now) a.budget (arrays_of now.machine now.trace)
    (held_of now.machine) now.steps now.invariant (λ e. omega arith) (arrays_of c.step.new.self c.step.new.trace) (held_of c.step.new.self)
    c.in_default.ensures.turned

pub returns-then-is_done-2 : goal.returns-then-is_done-2
returns-then-is_done-2 c =
    let a = c.args in
    let now = c.loop-steps in
    let spent : now.steps ≡ a.budget = omega arith in
    subst (λ (n : ℕ). Went (rows_of a.table.now) (arrays_of a.machine.now a.trace.now) (held_of a.machine.now) a.budget now.machine.pending.items now.machine.pile.items now.trace (reached_by (record { ended = Ended.Done; steps = n }) now.machine))
    spent
    (done_here (rows_of a.table.now) (arrays_of a.machine.now a.trace.now) (held_of a.machine.now) a.budget (arrays_of now.machine now.trace)
    (held_of now.machine) now.steps now.invariant (c.is_done-2.ensures.0 c.if-is_done-2.true))

pub returns-else-is_done-2 : goal.returns-else-is_done-2
returns-else-is_done-2 c =
    let a = c.args in
    let now = c.loop-steps in
    let spent : now.steps ≡ a.budget = omega arith in
    subst (λ (n : ℕ). Went (rows_of a.table.now) (arrays_of a.machine.now a.trace.now) (held_of a.machine.now) a.budget now.machine.pending.items now.machine.pile.items now.trace (reached_by (record { ended = Ended.Spent; steps = n }) now.machine))
    spent
    (spent_here (rows_of a.table.now) (arrays_of a.machine.now a.trace.now) (held_of a.machine.now) a.budget (arrays_of now.machine now.trace)
    (held_of now.machine) now.steps now.invariant (λ e. true≢false (sym (c.is_done-2.ensures.1 e) ∙ c.if-is_done-2.false)) spent)
