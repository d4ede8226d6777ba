-- Section 3 of the rules: the operators, an expression's value and level, and what a statement may assign.
use Rattle.std.specs.Prelude.{ℕ, ◌+◌, ◌-◌, ◌*◌, ◌/◌, ◌%◌, ◌^◌, Bool, cond, not, List, eqb, ltb, get_or}
use Rattle.rules.specs.declared.Operator.{Operator}
use Rattle.rules.specs.Limits.{word_bits, quotient_by_zero}
use Rattle.rules.specs.Marks.{none, has, only, union}
use Rattle.rules.specs.Trees.{Expr, constant, variable, binary, Stmt, skip, assign, sequence, if, while, output}

-- 3.2: Sum, difference and product are modulo 2^32.
-- 3.3: The quotient is rounded down, and it is 4,294,967,295 where the divisor is 0, whatever the dividend.
-- 3.4: Equal and less give 1 where the left side is equal to or less than the right one, and else 0.
unfoldable pub operate : Operator → ℕ → ℕ → ℕ
operate Operator.Sum a b = (a + b) % 2 ^ word_bits
operate Operator.Difference a b = (a + 2 ^ word_bits - b) % 2 ^ word_bits
operate Operator.Product a b = (a * b) % 2 ^ word_bits
operate Operator.Quotient a b = cond (eqb b 0) quotient_by_zero (a / b)
operate Operator.Equal a b = cond (eqb a b) 1 0
operate Operator.Less a b = cond (ltb a b) 1 0

-- 3.1: The value of a constant is its p, that of a variable is what the memory holds for it, and that of a binary row is
-- what its operator makes of the values of its two sides.
unfoldable pub value : List ℕ → Expr → ℕ
value memory (constant c) = c
value memory (variable v) = get_or memory v 0
value memory (binary o a b) = operate o (value memory a) (value memory b)

-- 3.5: A test holds where its value is not 0, and else it fails.
unfoldable pub holds : List ℕ → Expr → Bool
holds memory test = not (eqb (value memory test) 0)

-- 3.6: The level of an expression is the set of the marked variables that are read anywhere in it, whatever their values.
unfoldable pub level : ℕ → Expr → ℕ
level marks (constant c) = none
level marks (variable v) = cond (has marks v) (only v) none
level marks (binary o a b) = union (level marks a) (level marks b)

-- 3.8: What a statement may assign is the set of the variables of all assigns in it, at any depth.
abbrev pub may_assign : Stmt → ℕ
may_assign skip = none
may_assign (assign v e) = only v
may_assign (sequence s t) = union (may_assign s) (may_assign t)
may_assign (if e s t) = union (may_assign s) (may_assign t)
may_assign (while e s) = may_assign s
may_assign (output c e row) = none
