-- `reader::atoms::number_to_end` meets its contract. Assumes nothing.
use mathlib.Core.Path.{sym, ◌∙◌}
use Rattle.reader.proofs.AtomLaws.{to_none, to_over, to_joined, to_is}
use Rattle.reader.proofs.atoms.number_to_end.Goals as goal
use Rattle.reader.proofs.atoms.number_to_end.Goals.{then-most-value-via-then-most-value, then-most-value-via-else-most-value+then-is_joined}

pub returns-in_err-value : goal.returns-in_err-value
returns-in_err-value c =
    rw c.from_residual.ensures
    (λ end j. to_none c.args.text.now c.args.at c.args.most j (rw c.in_err-value.was at c.number_at.ensures.0))

pub returns-then-most-value : goal.returns-then-most-value
returns-then-most-value c =
    λ end j.
    let read = c.in_ok-value.field-0 in
    let said = c.in_ok-value.ensures.0 in
    elim c.then-most-value.branch [
      | then-most-value-via-then-most-value w ↦ to_over c.args.text.now c.args.at c.args.most j read.value read.next said w.if-most-value.true
      | then-most-value-via-else-most-value+then-is_joined w ↦
          to_joined c.args.text.now c.args.at c.args.most j read.value read.next said (sym w.is_joined.ensures ∙ w.if-is_joined.true)
    ]

pub returns : goal.returns
returns c =
    let few = c.if-most-value.false in
    let read = c.in_ok-value.field-0 in
    λ end j.
    let is = to_is c.args.text.now c.args.at c.args.most j read.value read.next c.in_ok-value.ensures.0
    (sym c.is_joined.ensures ∙ c.if-is_joined.false) c.in_ok-value.ensures.1 few in
    (is.0, few, is.1)
