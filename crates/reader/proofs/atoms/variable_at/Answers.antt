-- `reader::atoms::variable_at` meets its contract. Assumes nothing.
use native.Mathlib.Omega.{arith}
use mathlib.Core.Path.{sym, ◌∙◌}
use Rattle.reader.proofs.AtomLaws.{variable_absent, variable_other, variable_told}
use Rattle.reader.proofs.atoms.variable_at.Goals as goal

pub returns-in_err-get : goal.returns-in_err-get
returns-in_err-get c =
    rw c.from_residual.ensures (λ inside shown w cut. variable_absent inside shown w cut c.in_err-get.ensures.lookup.3)

pub returns-in-118 : goal.returns-in-118
returns-in-118 c =
    let found = c.in_ok-get.ensures.lookup.3 in
    λ inside shown w cut.
    variable_told inside shown w cut found.0 (sym (found.1 0) ∙ c.in-118.is) c.number_to_end.result c.number_to_end.ensures

pub returns-in_default : goal.returns-in_default
returns-in_default c =
    let found = c.in_ok-get.ensures.lookup.3 in
    let is = found.1 0 in
    λ inside shown w cut. variable_other inside shown w cut found.0 (λ e. omega arith)
