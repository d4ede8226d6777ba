-- The laws of the operators, of an expression's value and level, and of what a statement may assign.
use Prim.Native.Nat.{ℕ, ◌+◌, ◌*◌, ◌/◌, ◌%◌, ◌^◌, ◌≤◌, ◌<◌}
use native.Mathlib.Nat.{lt_of_le_of_lt, le_of_lt, mul-le-mul_left, mul-lt-mul_of_pos_right}
use native.Mathlib.Omega.{arith}
use mathlib.Core.Bool.{Bool, true, false, cond, ◌||◌}
use mathlib.Core.List.{List, [], ◌∷◌}
use mathlib.Core.Path.{◌≡◌, refl, sym, ap, ◌∙◌}
use lib.Bits.{bit_and}
use lib.ListN.{get_or}
use lib.Pow.{pow_pos}
use borrow.Author.Tests.{eq-eqb, ne_eqb, lt-ltb, le-ltb}
use Rattle.rules.specs.declared.Kind.{Kind}
use Rattle.rules.specs.declared.Operator.{Operator}
use Rattle.rules.specs.declared.Row.{Row}
use Rattle.rules.specs.Limits.{word_bits, quotient_by_zero}
use Rattle.rules.specs.Marks.{none, has, only, union, provisional}
use Rattle.rules.specs.Trees.{Expr, constant, variable, binary, Stmt, skip, expr_node, stmt_node}
use Rattle.rules.specs.Values.{operate, value, level, may_assign}
use Rattle.rules.proofs.MarkLaws.{and_bit, only_power, has_only_same, has_provisional, provisional_none, provisional_union}
use Rattle.rules.proofs.RowLaws.{Arm, kind_at}

-- ---- the operators by their numbers

-- ---- the operators' values

pub sum_law : (a b : ℕ) → operate Operator.Sum a b ≡ (a + b) % 2 ^ word_bits
unfolding operate
sum_law a b = refl

-- the difference is what the subtrahend added to wraps back
pub difference_law : (a b r : ℕ) → b < 2 ^ word_bits → r < 2 ^ word_bits → (r + b) % 2 ^ word_bits ≡ a → r ≡ operate Operator.Difference a b
unfolding operate
difference_law a b r hb hr e = omega arith

pub product_law : (a b : ℕ) → operate Operator.Product a b ≡ (a * b) % 2 ^ word_bits
unfolding operate
product_law a b = refl

-- the whole product of two words fits a word of twice as many bits
pub product_fits : (a b : ℕ) → a < 2 ^ word_bits → b < 2 ^ word_bits → a * b < 2 ^ (word_bits + word_bits)
product_fits a b ha hb =
    lt_of_le_of_lt (mul-le-mul_left a (le_of_lt hb)) (mul-lt-mul_of_pos_right {k = 2 ^ word_bits} ha (pow_pos word_bits))

pub quotient_none : (a b : ℕ) → b ≡ 0 → operate Operator.Quotient a b ≡ quotient_by_zero
unfolding operate
quotient_none a b h = ap (λ (t : Bool). cond t quotient_by_zero (a / b)) (eq-eqb b 0 h)

pub quotient_law : (a b : ℕ) → (b ≡ 0 → ⊥) → operate Operator.Quotient a b ≡ a / b
unfolding operate
quotient_law a b h = ap (λ (t : Bool). cond t quotient_by_zero (a / b)) (ne_eqb b 0 h)

pub equal_law : (a b : ℕ) → a ≡ b → operate Operator.Equal a b ≡ 1
unfolding operate
equal_law a b h = ap (λ (t : Bool). cond t 1 0) (eq-eqb a b h)

pub unequal_law : (a b : ℕ) → (a ≡ b → ⊥) → operate Operator.Equal a b ≡ 0
unfolding operate
unequal_law a b h = ap (λ (t : Bool). cond t 1 0) (ne_eqb a b h)

pub less_law : (a b : ℕ) → a < b → operate Operator.Less a b ≡ 1
unfolding operate
less_law a b h = ap (λ (t : Bool). cond t 1 0) (lt-ltb a b h)

pub not_less_law : (a b : ℕ) → b ≤ a → operate Operator.Less a b ≡ 0
unfolding operate
not_less_law a b h = ap (λ (t : Bool). cond t 1 0) (le-ltb a b h)

-- ---- value and level of each form of expression

module _ (memory : List ℕ) where
  pub value_constant : (c : ℕ) → value memory (constant c) ≡ c
  unfolding value
  value_constant c = refl

  pub value_variable : (v : ℕ) → value memory (variable v) ≡ get_or memory v 0
  unfolding value
  value_variable v = refl

  pub value_binary : (o : Operator) (a b : Expr) → value memory (binary o a b) ≡ operate o (value memory a) (value memory b)
  unfolding value
  value_binary o a b = refl

module _ (marks : ℕ) where
  pub level_constant : (c : ℕ) → level marks (constant c) ≡ 0
  unfolding level none
  level_constant c = refl

  -- what the marks and the set of the variable have in common
  pub level_variable : (v : ℕ) → level marks (variable v) ≡ bit_and marks (only v)
  unfolding level none
  level_variable v =
      ap (λ (n : ℕ). cond (has marks v) n 0) (only_power v) ∙ sym (and_bit marks v) ∙ ap (bit_and marks) (sym (only_power v))

  pub level_binary : (o : Operator) (a b : Expr) → level marks (binary o a b) ≡ union (level marks a) (level marks b)
  unfolding level
  level_binary o a b = refl

-- ---- whether a row is provisional, by the arms of a match on its kind

variable_provisional : (marks v : ℕ) (b : Bool) → has marks v ≡ b → provisional (cond b (only v) none) ≡ b
variable_provisional marks v true h = has_provisional (only v) v (has_only_same v)
variable_provisional marks v false h = provisional_none

pub provisional_arms :
    (marks : ℕ) (child : ℕ → Expr) (row : Row)
    → Arm kind_at (λ (kind : Kind). provisional (level marks (expr_node child row kind))) (has marks row.p) (7 ∷ [])
    × Arm
    kind_at
    (λ (kind : Kind). provisional (level marks (expr_node child row kind)))
    (provisional (level marks (child row.q)) || provisional (level marks (child row.r)))
    (8 ∷ [])
    × Arm kind_at (λ (kind : Kind). provisional (level marks (expr_node child row kind))) false (0 ∷ 1 ∷ 2 ∷ 3 ∷ 4 ∷ 5 ∷ 6 ∷ 9 ∷ [])
unfolding expr_node level provisional none
provisional_arms marks child row = (
  record { each = ap (λ (b : Bool). b ∷ []) (variable_provisional marks row.p (has marks row.p) refl) },
  record { each = ap (λ (b : Bool). b ∷ []) (provisional_union (level marks (child row.q)) (level marks (child row.r))) },
  record { each = refl },
)

-- ---- what a row may assign, by the arms of a match on its kind

pub assign_arms :
    (test : ℕ → Expr) (child : ℕ → Stmt) (i : ℕ) (row : Row)
    → Arm kind_at (λ (kind : Kind). may_assign (stmt_node test child i row kind)) (only row.p) (1 ∷ [])
    × Arm
    kind_at
    (λ (kind : Kind). may_assign (stmt_node test child i row kind))
    (union (may_assign (child row.p)) (may_assign (child row.q)))
    (2 ∷ [])
    × Arm
    kind_at
    (λ (kind : Kind). may_assign (stmt_node test child i row kind))
    (union (may_assign (child row.q)) (may_assign (child row.r)))
    (3 ∷ [])
    × Arm kind_at (λ (kind : Kind). may_assign (stmt_node test child i row kind)) (may_assign (child row.q)) (4 ∷ [])
    × Arm kind_at (λ (kind : Kind). may_assign (stmt_node test child i row kind)) 0 (0 ∷ 5 ∷ 6 ∷ 7 ∷ 8 ∷ 9 ∷ [])
unfolding stmt_node none
assign_arms test child i row =
    (record { each = refl }, record { each = refl }, record { each = refl }, record { each = refl }, record { each = refl })

pub may_skip : may_assign skip ≡ 0
unfolding none
may_skip = refl
