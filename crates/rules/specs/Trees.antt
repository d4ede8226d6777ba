-- Section 2 of the rules: the tree that a table's rows form, its height, nesting and loop nesting.
use Rattle.std.specs.Prelude.{ℕ, zero, suc, ◌+◌, ◌-◌, max, cond, List, eqb, length}
use Rattle.rules.specs.declared.Kind.{Kind}
use Rattle.rules.specs.declared.Operator.{Operator}
use Rattle.rules.specs.declared.Row.{Row}
use Rattle.rules.specs.Rows.{row_at}

pub data Expr : Type 0 where
  constant : ℕ → Expr
  variable : ℕ → Expr
  binary : Operator → Expr → Expr → Expr

-- An output carries its row, which is the place of a run that ends there.
pub data Stmt : Type 0 where
  skip : Stmt
  assign : ℕ → Expr → Stmt
  sequence : Stmt → Stmt → Stmt
  if : Expr → Stmt → Stmt → Stmt
  while : Expr → Stmt → Stmt
  output : ℕ → Expr → ℕ → Stmt

-- A number over 5 is read as less; refusal 2 is given for it.
-- 2.7: The operators are 0 sum, 1 difference, 2 product, 3 quotient, 4 equal and 5 less.
unfoldable pub operator_of : ℕ → Operator
operator_of n =
    cond (eqb n 0) Operator.Sum
    (cond (eqb n 1) Operator.Difference
    (cond (eqb n 2) Operator.Product
    (cond (eqb n 3) Operator.Quotient
    (cond (eqb n 4) Operator.Equal Operator.Less))))

-- 2.7: The operators are 0 sum, 1 difference, 2 product, 3 quotient, 4 equal and 5 less.
unfoldable pub operator_number : Operator → ℕ
operator_number Operator.Sum = 0
operator_number Operator.Difference = 1
operator_number Operator.Product = 2
operator_number Operator.Quotient = 3
operator_number Operator.Equal = 4
operator_number Operator.Less = 5

-- What a row stands for, where child gives what its children stand for. A row of the wrong sort is read as the constant 0
-- or as skip; refusal 2 or 3 is given for it.
-- 2.6: A row and its children, their children and so on are a tree, ..
unfoldable pub expr_node : (ℕ → Expr) → Row → Kind → Expr
expr_node child row Kind.Skip = constant 0
expr_node child row Kind.Assign = constant 0
expr_node child row Kind.Sequence = constant 0
expr_node child row Kind.If = constant 0
expr_node child row Kind.While = constant 0
expr_node child row Kind.Output = constant 0
expr_node child row Kind.Constant = constant row.p
expr_node child row Kind.Variable = variable row.p
expr_node child row Kind.Binary = binary (operator_of row.p) (child row.q) (child row.r)
expr_node child row Kind.Unknown = constant 0

unfoldable pub stmt_node : (ℕ → Expr) → (ℕ → Stmt) → ℕ → Row → Kind → Stmt
stmt_node test child i row Kind.Skip = skip
stmt_node test child i row Kind.Assign = assign row.p (test row.q)
stmt_node test child i row Kind.Sequence = sequence (child row.p) (child row.q)
stmt_node test child i row Kind.If = if (test row.p) (child row.q) (child row.r)
stmt_node test child i row Kind.While = while (test row.p) (child row.q)
stmt_node test child i row Kind.Output = output row.p (test row.q) i
stmt_node test child i row Kind.Constant = skip
stmt_node test child i row Kind.Variable = skip
stmt_node test child i row Kind.Binary = skip
stmt_node test child i row Kind.Unknown = skip

-- A tree of at most so many levels. Below row i stand at most i levels, since a child's number is below its parent's.
unfoldable pub expr_in : ℕ → List Row → ℕ → Expr
expr_in zero rows i = constant 0
expr_in (suc levels) rows i = expr_node (expr_in levels rows) (row_at rows i) (row_at rows i).kind

unfoldable pub expr_at : List Row → ℕ → Expr
expr_at rows i = expr_in (suc i) rows i

unfoldable pub stmt_in : ℕ → List Row → ℕ → Stmt
stmt_in zero rows i = skip
stmt_in (suc levels) rows i = stmt_node (expr_at rows) (stmt_in levels rows) i (row_at rows i) (row_at rows i).kind

unfoldable pub stmt_at : List Row → ℕ → Stmt
stmt_at rows i = stmt_in (suc i) rows i

-- 2.6: .. the last row's tree is the recipe.
unfoldable pub recipe : List Row → Stmt
recipe rows = stmt_at rows (length rows - 1)

-- 2.9: The height of a constant or a variable is 1, and that of a binary row is 1 more than the larger height of its sides.
abbrev pub height : Expr → ℕ
height (constant c) = 1
height (variable v) = 1
height (binary o a b) = max (height a) (height b) + 1

-- 2.10: The nesting of a skip, an assign or an output is 0, that of a sequence is the larger of its two, and that of an if
-- or a while is 1 more than the largest of its statements.
abbrev pub nesting : Stmt → ℕ
nesting skip = 0
nesting (assign v e) = 0
nesting (sequence s t) = max (nesting s) (nesting t)
nesting (if e s t) = max (nesting s) (nesting t) + 1
nesting (while e s) = nesting s + 1
nesting (output c e row) = 0

-- 2.11: Loop nesting is counted as nesting is, but an if adds nothing.
abbrev pub loop_nesting : Stmt → ℕ
loop_nesting skip = 0
loop_nesting (assign v e) = 0
loop_nesting (sequence s t) = max (loop_nesting s) (loop_nesting t)
loop_nesting (if e s t) = max (loop_nesting s) (loop_nesting t)
loop_nesting (while e s) = loop_nesting s + 1
loop_nesting (output c e row) = 0
