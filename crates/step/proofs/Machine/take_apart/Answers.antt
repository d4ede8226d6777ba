-- `step::Machine::take_apart` meets its contract.
use Prim.Native.Nat.{ℕ, ◌-◌, ◌+◌}
use mathlib.Core.List.{List}
use mathlib.Core.Path.{◌≡◌, sym, ap, ◌∙◌, subst, subst₂}
use native.Mathlib.Omega.{arith}
use borrow.Author.Rules.{rules}
use lib.ListN.{set}
use Rattle.rules.specs.declared.Kind.{Kind}
use Rattle.rules.specs.declared.Row.{Row}
use Rattle.rules.specs.Rows.{rows_of, row_at}
use Rattle.step.specs.declared.Machine.{Machine}
use Rattle.step.specs.Turns.{Apart, Found, CanTakeApart}
use Rattle.step.proofs.StepLaws.{OneMore, apart_more}
use Rattle.step.proofs.Machine.take_apart.Goals as goal

-- the row at hand is a sequence: it is taken apart too
more :
    {rows : List Row} {e e' : List ℕ} {n m at i : ℕ} {row here : Row} → CanTakeApart rows e n at row → Apart rows e n e' m → Found rows e' m i here
    → here.kind ≡ Kind.Sequence → OneMore rows e n e' m i here
more asked apart found sequence = apart_more _ asked.sound _ _ _ _ _ _ asked.roomy apart found sequence

pub entry_of-requires : goal.entry_of-requires
entry_of-requires c =
    let next = more c.requires c.loop-row.invariant.apart c.loop-row.invariant.found (search rules) in
    omega (arith, next.second, c.requires.sound.few)

pub entry_of-requires-in-Sequence : goal.entry_of-requires-in-Sequence
entry_of-requires-in-Sequence c =
    let next = more c.requires c.loop-row.invariant.apart c.loop-row.invariant.found (search rules) in
    omega (arith, next.first, c.loop-row.invariant.found.within, c.requires.sound.few)

pub push-requires : goal.push-requires
push-requires c =
    let next = more c.requires c.loop-row.invariant.apart c.loop-row.invariant.found (search rules) in
    (omega arith, omega (arith, next.room, c.set_top.ensures.len))

pub read_row-row-requires-in-Sequence : goal.read_row-row-requires-in-Sequence
read_row-row-requires-in-Sequence c =
    let next = more c.requires c.loop-row.invariant.apart c.loop-row.invariant.found (search rules) in
    next.found.within

pub loop-row-smaller : goal.loop-row-smaller
loop-row-smaller c =
    let next = more c.requires c.loop-row.invariant.apart c.loop-row.invariant.found (search rules) in
    next.first

pub loop-row-preserved : goal.loop-row-preserved
loop-row-preserved c =
    let next = more c.requires c.loop-row.invariant.apart c.loop-row.invariant.found (search rules) in
    let rows = rows_of c.args.table.now in
    let here = c.loop-row in
    let items : c.push.new.self.items ≡ set (set here.self.pending.items (here.self.pending.len - 1) (here.row.q + 1)) here.self.pending.len (here.row.p + 1) =
    c.push.ensures.items ∙ (λ i. set (c.set_top.ensures.items i) (c.set_top.ensures.len i) (c.entry_of-in-Sequence.ensures i))
    ∙ (λ i. set (set here.self.pending.items (here.self.pending.len - 1) (c.entry_of.ensures i)) here.self.pending.len (here.row.p + 1))
    in
    let len : c.push.new.self.len ≡ here.self.pending.len + 1 = c.push.ensures.len ∙ (λ i. c.set_top.ensures.len i + 1) in
    record {
      apart = subst₂ (λ (x : List ℕ) (k : ℕ). Apart rows c.args.self.now.pending.items c.args.self.now.pending.len x k) (sym items) (sym len) next.apart;
      found =
          subst (λ (r : Row). Found rows c.push.new.self.items c.push.new.self.len here.row.p r) (sym c.read_row-row-in-Sequence.ensures)
          (subst₂ (λ (x : List ℕ) (k : ℕ). Found rows x k here.row.p (row_at rows here.row.p)) (sym items) (sym len) next.found);
      rest = ap (λ (m : Machine). record m { pending = c.push.new.self }) here.invariant.rest;
    }
