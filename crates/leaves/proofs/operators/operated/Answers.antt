-- `leaves::operators::operated` meets its contract: each arm is one operator.
use Rattle.std.proofs.Common.{◌≡◌, ℕ, refl, sym, ap, ◌∙◌, arith, rules}
use Rattle.rules.specs.declared.Operator.{Operator}
use Rattle.rules.specs.Trees.{operator_of}
use Rattle.rules.specs.Values.{operate}
use Rattle.rules.proofs.ValueLaws.{sum_law, difference_law}
use Rattle.leaves.proofs.OperatorLaws.{quotient_or, equal_word, less_word}
use Rattle.leaves.proofs.operators.operated.Goals as goal

-- an operator that was read from its number
read : {o p : Operator} (number a b : ℕ) → p ≡ operator_of number → p ≡ o → operate o a b ≡ operate (operator_of number) a b
read number a b e is = ap (λ (o : Operator). operate o a b) (sym is ∙ e)

pub returns-in-Sum : goal.returns-in-Sum
returns-in-Sum c =
    let a = c.args in
    sym (sum_law a.a a.b) ∙ read a.operator a.a a.b c.from.ensures c.in-Sum.is

pub returns-in-Difference : goal.returns-in-Difference
returns-in-Difference c =
    let a = c.args in
    difference_law a.a a.b _ (search rules) (search rules) (omega arith) ∙ read a.operator a.a a.b c.from.ensures c.in-Difference.is

pub returns-in-Product : goal.returns-in-Product
returns-in-Product c = c.product.ensures ∙ read c.args.operator _ _ c.from.ensures c.in-Product.is

pub returns-in-Quotient : goal.returns-in-Quotient
returns-in-Quotient c =
    let a = c.args in
    c.unwrap_or.ensures ∙ quotient_or a.a a.b _ c.checked_div.ensures ∙ read a.operator a.a a.b c.from.ensures c.in-Quotient.is

pub returns-in-Equal : goal.returns-in-Equal
returns-in-Equal c =
    let a = c.args in
    c.from-in-Equal.ensures ∙ equal_word a.a a.b _ refl ∙ read a.operator a.a a.b c.from.ensures c.in-Equal.is

pub returns-in-Less : goal.returns-in-Less
returns-in-Less c =
    let a = c.args in
    c.from-in-Less.ensures ∙ less_word a.a a.b _ refl ∙ read a.operator a.a a.b c.from.ensures c.in-Less.is
