-- `reader::atoms::sign_at` meets its contract. Assumes nothing.
use mathlib.Core.Path.{refl}
use native.Mathlib.Omega.{arith}
use Rattle.rules.specs.declared.Operator.{Operator}
use Rattle.lines.specs.Numbers.{is_digit}
use Rattle.language.specs.Words.{is_letter, is_joining}
use Rattle.reader.proofs.KeyLaws.{spelling}
use Rattle.reader.proofs.AtomLaws.{sign_at_byte, sign_at_none}
use Rattle.reader.proofs.atoms.sign_at.Goals as goal

pub returns-in_err-get : goal.returns-in_err-get
returns-in_err-get c = rw c.from_residual.ensures (sign_at_none (λ h. let over = c.in_err-get.ensures.lookup.3 in absurd (omega arith)))

pub returns-in-43 : goal.returns-in-43
unfolding spelling is_joining is_letter is_digit
returns-in-43 c =
    let found = c.in_ok-get.ensures.lookup.3 in sign_at_byte Operator.Sum refl refl found.0 (found.1 0) c.in-43.is

pub returns-in-45 : goal.returns-in-45
unfolding spelling is_joining is_letter is_digit
returns-in-45 c =
    let found = c.in_ok-get.ensures.lookup.3 in sign_at_byte Operator.Difference refl refl found.0 (found.1 0) c.in-45.is

pub returns-in-42 : goal.returns-in-42
unfolding spelling is_joining is_letter is_digit
returns-in-42 c =
    let found = c.in_ok-get.ensures.lookup.3 in sign_at_byte Operator.Product refl refl found.0 (found.1 0) c.in-42.is

pub returns-in-47 : goal.returns-in-47
unfolding spelling is_joining is_letter is_digit
returns-in-47 c =
    let found = c.in_ok-get.ensures.lookup.3 in sign_at_byte Operator.Quotient refl refl found.0 (found.1 0) c.in-47.is

pub returns-in-61 : goal.returns-in-61
unfolding spelling is_joining is_letter is_digit
returns-in-61 c =
    let found = c.in_ok-get.ensures.lookup.3 in sign_at_byte Operator.Equal refl refl found.0 (found.1 0) c.in-61.is

pub returns-in-60 : goal.returns-in-60
unfolding spelling is_joining is_letter is_digit
returns-in-60 c =
    let found = c.in_ok-get.ensures.lookup.3 in sign_at_byte Operator.Less refl refl found.0 (found.1 0) c.in-60.is

pub returns-in_default : goal.returns-in_default
returns-in_default c =
    sign_at_none
    (λ h byte e.
    let is = c.in_ok-get.ensures.lookup.3.1 0 in
    ((λ q. omega arith), (λ q. omega arith), (λ q. omega arith), (λ q. omega arith), (λ q. omega arith), λ q. omega arith))
