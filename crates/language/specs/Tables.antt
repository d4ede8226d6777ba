-- The table of a recipe, the tree that its rows stand for, and its start marks.
use Rattle.std.specs.Prelude.{ℕ, ◌+◌, Bool, true, false, ◌&&◌, ◌||◌, List, [], ◌∷◌, ◌++◌, eqb}
use Rattle.rules.specs.declared.Kind.{Kind}
use Rattle.rules.specs.Rows.{kind_number}
use Rattle.rules.specs.Marks.{none, put}
use Rattle.rules.specs.Trees as tree
use Rattle.rules.specs.Trees.{Expr, constant, variable, binary, Stmt, operator_number}
use Rattle.rules.specs.Cases.{Quad, words_of}
use Rattle.language.specs.Recipes.{Statement, skip, set, if, while, Block, one, more, Level, plain, Declaration, Recipe}
use Rattle.language.specs.Recipes as recipe

-- ---- how many rows stand before the last one of each, which is its own

abbrev pub expr_below : Expr → ℕ
expr_below (constant value) = 0
expr_below (variable v) = 0
expr_below (binary o a b) = expr_below a + 1 + (expr_below b + 1)

abbrev pub expr_size : Expr → ℕ
expr_size e = expr_below e + 1

abbrev mutual
  pub statement_below : Statement → ℕ
  statement_below skip = 0
  statement_below (set v e) = expr_size e
  statement_below (if e s t) = expr_size e + (block_below s + 1) + (block_below t + 1)
  statement_below (while e s) = expr_size e + (block_below s + 1)
  statement_below (recipe.settled e) = expr_size e
  statement_below (recipe.provisional e) = expr_size e

  pub block_below : Block → ℕ
  block_below (one s) = statement_below s
  block_below (more s b) = statement_below s + 1 + (block_below b + 1)

abbrev pub statement_size : Statement → ℕ
statement_size s = statement_below s + 1

abbrev pub block_size : Block → ℕ
block_size b = block_below b + 1

-- ---- the rows of each, the first of them at row base; a child's rows come before its own, in reading order

abbrev pub expr_rows : ℕ → Expr → List Quad
expr_rows base (constant value) = (kind_number Kind.Constant, value, 0, 0) ∷ []
expr_rows base (variable v) = (kind_number Kind.Variable, v, 0, 0) ∷ []
expr_rows base (binary o a b) =
    expr_rows base a
    ++ (expr_rows (base + expr_size a) b ++ (kind_number Kind.Binary, operator_number o, base + expr_below a, base + expr_size a + expr_below b) ∷ [])

abbrev mutual
  -- 2.8: Channel 0 is the settled one, which the stations read, and channel 1 the provisional one.
  pub statement_rows : ℕ → Statement → List Quad
  statement_rows base skip = (kind_number Kind.Skip, 0, 0, 0) ∷ []
  statement_rows base (set v e) = expr_rows base e ++ (kind_number Kind.Assign, v, base + expr_below e, 0) ∷ []
  statement_rows base (if e s t) =
      expr_rows base e
      ++ (block_rows (base + expr_size e) s
      ++ (block_rows (base + expr_size e + block_size s) t
      ++ (kind_number Kind.If, base + expr_below e, base + expr_size e + block_below s, base + expr_size e + block_size s + block_below t) ∷ []))
  statement_rows base (while e s) =
      expr_rows base e ++ (block_rows (base + expr_size e) s ++ (kind_number Kind.While, base + expr_below e, base + expr_size e + block_below s, 0) ∷ [])
  statement_rows base (recipe.settled e) = expr_rows base e ++ (kind_number Kind.Output, 0, base + expr_below e, 0) ∷ []
  statement_rows base (recipe.provisional e) = expr_rows base e ++ (kind_number Kind.Output, 1, base + expr_below e, 0) ∷ []

  -- 13.10: .. a block of more than one statement is a sequence of its first statement and the block of the others.
  pub block_rows : ℕ → Block → List Quad
  block_rows base (one s) = statement_rows base s
  block_rows base (more s b) =
      statement_rows base s
      ++ (block_rows (base + statement_size s) b ++ (kind_number Kind.Sequence, base + statement_below s, base + statement_size s + block_below b, 0) ∷ [])

-- 13.10: In the table of a recipe the rows of a child come before its parent's, in reading order; a block of more than one
-- statement is a sequence of its first statement and the block of the others.
unfoldable pub table_of : Recipe → List ℕ
table_of r = words_of (block_rows 0 r.block)

-- ---- the tree of the rules that the rows stand for; an output carries its row

abbrev mutual
  pub statement_tree : ℕ → Statement → Stmt
  statement_tree base skip = tree.skip
  statement_tree base (set v e) = tree.assign v e
  statement_tree base (if e s t) =
      tree.if e (block_tree (base + expr_size e) s) (block_tree (base + expr_size e + block_size s) t)
  statement_tree base (while e s) = tree.while e (block_tree (base + expr_size e) s)
  statement_tree base (recipe.settled e) = tree.output 0 e (base + expr_size e)
  statement_tree base (recipe.provisional e) = tree.output 1 e (base + expr_size e)

  pub block_tree : ℕ → Block → Stmt
  block_tree base (one s) = statement_tree base s
  block_tree base (more s b) = tree.sequence (statement_tree base s) (block_tree (base + statement_size s) b)

-- ---- the marks

-- whether a level word, or none, makes the variable provisional; what none means is given
unfoldable pub makes_provisional : Bool → Level → Bool
makes_provisional meant plain = meant
makes_provisional meant recipe.settled = false
makes_provisional meant recipe.provisional = true

-- what the declarations make of the marks, one after the other
-- 13.11: The start marks are the variables that are declared provisional; a variable that is not declared is settled.
unfoldable pub marks_from : Bool → ℕ → List Declaration → ℕ
marks_from meant marks [] = marks
marks_from meant marks (d ∷ ds) = marks_from meant (put d.variable (makes_provisional meant d.level) marks) ds

unfoldable pub marks_of : Bool → List Declaration → ℕ
marks_of meant ds = marks_from meant none ds

-- whether some declaration makes the variable provisional
unfoldable pub is_declared_provisional : Bool → ℕ → List Declaration → Bool
is_declared_provisional meant v [] = false
is_declared_provisional meant v (d ∷ ds) =
    (eqb v d.variable && makes_provisional meant d.level) || is_declared_provisional meant v ds
