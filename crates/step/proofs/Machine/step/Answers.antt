-- `step::Machine::step` meets its contract.
use mathlib.Core.Path.{refl, sym, ◌∙◌}
use Prim.Native.Nat.{◌-◌}
use lib.ListN.{set}
use Rattle.std.proofs.lemmas.Option.{get_or_from_slice_get}
use Rattle.rules.specs.Rows.{rows_of}
use Rattle.step.proofs.ArmLaws.{arm_close, found_next, holds_apart, went_apart, unwent_apart}
use Rattle.step.proofs.Machine.step.Goals as goal

pub returns-in_default-clause-turned : goal.returns-in_default-clause-turned
returns-in_default-clause-turned c =
    let m = c.args.self.now in
    arm_close (rows_of c.args.table.now) m c.args.trace.now c.requires.0 c.requires.1
    (get_or_from_slice_get m.pending.items _ _ 0 c.top-entry.ensures ∙ c.in_default.ensures.close.0 refl) c.close.new.self c.close.ensures

pub take_apart-at-requires : goal.take_apart-at-requires
take_apart-at-requires c =
    let m = c.args.self.now in
    record {
      sound = c.requires.0.sound;
      entries_long = c.requires.0.entries_long;
      named = c.requires.0.named;
      roomy = c.requires.0.bounds.roomy;
      found =
          found_next (rows_of c.args.table.now) m c.args.trace.now c.requires.0 c.requires.1 c.in-Some.first
          (get_or_from_slice_get m.pending.items _ _ 0 c.top-entry.ensures ∙ c.in-Some.ensures.statement);
    }

pub apply-done-requires : goal.apply-done-requires
apply-done-requires c =
    let next = c.take_apart-at.ensures in (
      holds_apart (rows_of c.args.table.now) c.args.self.now c.args.trace.now c.requires.0 c.take_apart-at.new.self next.apart.apart next.rest,
      next.apart.found,
      next.apart.other,
    )

pub returns-then-is_err-clause-turned : goal.returns-then-is_err-clause-turned
returns-then-is_err-clause-turned c =
    let next = c.take_apart-at.ensures in
    let after = c.apply-done.new.self in
    unwent_apart (rows_of c.args.table.now) c.args.self.now c.args.trace.now c.requires.0 c.take_apart-at.new.self next.apart.apart next.rest
    c.top-entry.result (get_or_from_slice_get c.args.self.now.pending.items _ _ 0 c.top-entry.ensures) after
    (record after { pending = c.set_top.new.self }) c.apply-done.new.trace refl
    (c.set_top.ensures.items ∙ (λ i. set (c.truncate.ensures.items i) (c.truncate.ensures.len i - 1) c.top-entry.result)) c.apply-done.result
    (sym c.is_err.ensures.value ∙ c.if-is_err.true) _ _ c.apply-done.ensures.applied

pub returns-else-is_err-clause-turned : goal.returns-else-is_err-clause-turned
returns-else-is_err-clause-turned c =
    let next = c.take_apart-at.ensures in
    went_apart (rows_of c.args.table.now) c.args.self.now c.args.trace.now c.requires.0 c.take_apart-at.new.self next.apart.apart next.rest
    c.apply-done.result (sym c.is_err.ensures.value ∙ c.if-is_err.false) _ _ c.apply-done.ensures.applied
