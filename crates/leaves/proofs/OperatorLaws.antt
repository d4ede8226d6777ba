-- The operators as the code has them, by what the library says of the calls.
use Rattle.std.proofs.Common.{◌≡◌, ℕ, ◌/◌, ◌<◌, Bool, true, false, Option, None, Some, sym, ◌∙◌, arith}
use Rattle.std.specs.Int.{from_bool}
use Rattle.std.specs.Option.{SomeIff, unwrap_or}
use Rattle.std.proofs.lemmas.Bool.{eqb-true, eqb-false, ltb-true, ltb-false}
use lib.Dec.{eqb, ltb}
use Rattle.rules.specs.declared.Operator.{Operator}
use Rattle.rules.specs.Limits.{quotient_by_zero}
use Rattle.rules.specs.Values.{operate}
use Rattle.rules.proofs.ValueLaws.{quotient_none, quotient_law, equal_law, unequal_law, less_law, not_less_law}

-- the quotient where there is one, and else the highest value
pub quotient_or : (a b : ℕ) (o : Option ℕ) → SomeIff o (0 < b) (a / b) → unwrap_or o quotient_by_zero ≡ operate Operator.Quotient a b
quotient_or a b None none = sym (quotient_none a b (omega (arith, none)))
quotient_or a b (Some x) some = some.1 ∙ sym (quotient_law a b (λ e. omega (arith, some.0, e)))

pub equal_word : (a b : ℕ) (same : Bool) → eqb a b ≡ same → from_bool same ≡ operate Operator.Equal a b
equal_word a b true e = sym (equal_law a b (eqb-true a b e))
equal_word a b false e = sym (unequal_law a b (eqb-false a b e))

pub less_word : (a b : ℕ) (below : Bool) → ltb a b ≡ below → from_bool below ≡ operate Operator.Less a b
less_word a b true e = sym (less_law a b (ltb-true a b e))
less_word a b false e = sym (not_less_law a b (ltb-false a b e))
