-- `job::read_field` meets its contract. Assumes nothing.
use mathlib.Core.Path.{refl, ◌∙◌}
use Prim.Native.Nat.{ℕ}
use mathlib.Core.List.{List}
use mathlib.Core.Path.{◌≡◌}
use lib.ListN.{drop}
use Rattle.std.specs.Prelude.{Option, Some, None, MatchResult}
use Rattle.std.specs.Option.{ok_or}
use Rattle.lines.specs.Numbers.{Number, no_number, number}
use Rattle.numbers.specs.declared.Parsed.{Parsed}
use Rattle.numbers.specs.Read.{field_said}
use Rattle.job.specs.declared.Fault.{Fault}
use Rattle.numbers.proofs.ErrLaws.{handed_on}
use Rattle.lines.proofs.LineLaws.{field_absent, field_after}
use Rattle.job.proofs.read_field.Goals as goal

told : (text : List ℕ) (found : Option (Parsed ℕ)) (is : Number) → field_said text found ≡ is
    → MatchResult (ok_or found Fault.LacksForm) (λ read. number read.value (drop read.next text) ≡ is) (λ fault. (fault ≡ Fault.LacksForm) × (no_number ≡ is))
told text None is e = (refl, e)
told text (Some read) is e = e

pub returns-in_err-after : goal.returns-in_err-after
returns-in_err-after c =
    let text = c.args.text.now in
    let none = rw c.in_err-after.ensures.ok_part at c.after_key.ensures in
    let given = rw c.in_err-after.ensures.ok_part at c.in_err-after.ensures.value in
    rw (handed_on _ c.from_residual.ensures.1) (cc, field_absent c.args.key.now (drop c.args.at text) none)

pub returns : goal.returns
returns c =
    let text = c.args.text.now in
    let found = rw c.in_ok-after.ensures.ok_part at c.after_key.ensures in
    rw c.ok_or-2.ensures.value
    (told text c.number_at.result _ (c.number_at.ensures.0 ∙ field_after c.args.key.now (drop c.args.at text) (drop c.in_ok-after.after text) found))
