-- The rows of a recipe: each is what its kind asks, each but the last is a child at one place, and they stand for the tree that
-- was written.
use Prim.Native.Nat.{ℕ, ◌+◌, ◌≤◌}
use native.Mathlib.Omega.{arith}
use mathlib.Core.Bool.{true, false}
use mathlib.Core.List.{List, [], ◌∷◌, ◌++◌}
use mathlib.Core.Path.{◌≡◌, refl, sym, ap, ◌∙◌, subst}
use Rattle.rules.specs.declared.Kind.{Kind}
use Rattle.rules.specs.declared.Operator.{Operator}
use Rattle.rules.specs.declared.Row.{Row}
use Rattle.rules.specs.Limits.{highest_channel, highest_operator}
use Rattle.rules.specs.Rows.{kind_of, roles_of, is_statement, is_expression, is_unknown, row_of, row_at}
use Rattle.rules.specs.Trees as tree
use Rattle.rules.specs.Trees.{Expr, constant, variable, binary, Stmt, operator_of, expr_node, stmt_node, expr_at, stmt_at}
use Rattle.rules.specs.Judging.{child_of}
use Rattle.rules.specs.OnePass.{children_of}
use Rattle.rules.specs.Sound.{Fitting}
use Rattle.rules.specs.Cases.{Quad}
use Rattle.rules.proofs.TreeLaws.{expr_of_fitting, stmt_of_fitting}
use Rattle.language.specs.Recipes.{Statement, skip, set, if, while, Block, one, more, expr_tokens, statement_tokens, block_tokens}
use Rattle.language.specs.Recipes as recipe
use Rattle.rules.specs.Trees.{operator_number}
use Rattle.language.specs.Tables.{expr_below, expr_size, statement_below, statement_size, block_below, block_size, expr_rows, statement_rows, block_rows, statement_tree, block_tree}
use Rattle.language.proofs.KnownWords.{AllKnown, known_first, known_rest}
use Rattle.rules.proofs.PartLaws.{row_from, made, Part, part_first, part_rest, part_row, part_within, Grown, own, join}

-- ---- operators

operator_low : (o : Operator) → operator_number o ≤ highest_operator
unfolding operator_number
operator_low Operator.Sum = omega arith
operator_low Operator.Difference = omega arith
operator_low Operator.Product = omega arith
operator_low Operator.Quotient = omega arith
operator_low Operator.Equal = omega arith
operator_low Operator.Less = omega arith

operator_back : (o : Operator) → operator_of (operator_number o) ≡ o
unfolding operator_number operator_of
operator_back Operator.Sum = refl
operator_back Operator.Difference = refl
operator_back Operator.Product = refl
operator_back Operator.Quotient = refl
operator_back Operator.Equal = refl
operator_back Operator.Less = refl

-- ---- rows of a table that are a tree: what they stand for is read at the last of them

pub record Stands {T : Type 0} (Sort : Kind → Type 0) (read : List Row → ℕ → T) (all : List Quad) (base below : ℕ)
    (quads : List Quad) (what : T) : Type 0 where
  pub grown : Grown all base (below + 1) quads [] ((base + below) ∷ [])
  pub sort : Sort (row_at (made all) (base + below)).kind
  pub tree : Fitting (made all) → read (made all) (base + below) ≡ what

abbrev pub IsExpression : Kind → Type 0
IsExpression kind = is_expression kind ≡ true

-- a parent asks the first, refusal 4 the second
abbrev pub IsStatement : Kind → Type 0
IsStatement kind = (is_statement kind ≡ true) × (is_expression kind ≡ false)

module _ (all : List Quad) where
  abbrev pub ExprStands : ℕ → Expr → Type 0
  ExprStands base e = Stands IsExpression expr_at all base (expr_below e) (expr_rows base e) e

  abbrev pub StatementStands : ℕ → Statement → Type 0
  StatementStands base s = Stands IsStatement stmt_at all base (statement_below s) (statement_rows base s) (statement_tree base s)

  abbrev pub BlockStands : ℕ → Block → Type 0
  BlockStands base b = Stands IsStatement stmt_at all base (block_below b) (block_rows base b) (block_tree base b)

-- the last row, from what stands below it
module _ {all : List Quad} {base below at : ℕ} {q : Quad} (quads : List Quad) (last : Part all at (q ∷ []))
    (same : at ≡ base + below) where
  expr_top :
      (e : Expr) → IsExpression (row_from q).kind → Grown all base (below + 1) quads [] ((base + below) ∷ [])
      → (Fitting (made all) → expr_node (expr_at (made all)) (row_from q) (row_from q).kind ≡ e)
      → Stands IsExpression expr_at all base below quads e
  expr_top e sort grown node = record {
    grown = grown;
    sort = subst (λ (row : Row). IsExpression row.kind) (sym (part_row last same)) sort;
    tree = λ fitting.
        expr_of_fitting (made all) fitting (base + below) (part_within last same)
        ∙ ap (λ (row : Row). expr_node (expr_at (made all)) row row.kind) (part_row last same)
        ∙ node fitting;
  }

  stmt_top :
      (s : Stmt) → IsStatement (row_from q).kind → Grown all base (below + 1) quads [] ((base + below) ∷ [])
      → (Fitting (made all) → stmt_node (expr_at (made all)) (stmt_at (made all)) (base + below) (row_from q) (row_from q).kind ≡ s)
      → Stands IsStatement stmt_at all base below quads s
  stmt_top s sort grown node = record {
    grown = grown;
    sort = subst (λ (row : Row). IsStatement row.kind) (sym (part_row last same)) sort;
    tree = λ fitting.
        stmt_of_fitting (made all) fitting (base + below) (part_within last same)
        ∙ ap (λ (row : Row). stmt_node (expr_at (made all)) (stmt_at (made all)) (base + below) row row.kind) (part_row last same)
        ∙ node fitting;
  }

module _ {all : List Quad} where
  expr_stands : (e : Expr) (base : ℕ) → AllKnown (expr_tokens e) → Part all base (expr_rows base e) → ExprStands all base e
  unfolding kind_of roles_of row_of is_expression is_unknown children_of child_of expr_node
  expr_stands (constant value) base known part =
      let same : base ≡ base + 0 = omega arith in
      expr_top _ part same _ refl (own part same (record { known = refl; p = tt; q = refl; r = refl })) (λ fitting. refl)
  expr_stands (variable v) base known part =
      let same : base ≡ base + 0 = omega arith in
      expr_top _ part same _ refl (own part same (record { known = refl; p = known.0; q = refl; r = refl })) (λ fitting. refl)
  expr_stands (binary o a b) base known part =
      let at : ℕ = base + expr_size a in
      let left = expr_stands a base (known_first (expr_tokens a) _ known.1) (part_first (expr_rows base a) _ part) in
      let after = part_rest (expr_rows base a) _ left.grown.size part in
      let more-known = (known_rest (expr_tokens a) _ known.1).1 in
      let right = expr_stands b at (known_first (expr_tokens b) _ more-known) (part_first (expr_rows at b) _ after) in
      let last = part_rest (expr_rows at b) _ right.grown.size after in
      let same : at + expr_size b ≡ base + (expr_size a + expr_size b) = omega arith in
      expr_top _ last same _ refl
      (join (expr_rows base a) _ [] (omega arith) left.grown
      (join (expr_rows at b) _ ((base + expr_below a) ∷ []) refl right.grown
      (own last same (record { known = refl; p = operator_low o; q = (omega arith, left.sort); r = (omega arith, right.sort) }))))
      (λ fitting i. binary (operator_back o i) (left.tree fitting i) (right.tree fitting i))

  -- an output, on either channel
  output_stands :
      (channel : ℕ) → channel ≤ highest_channel → (e : Expr) (base : ℕ) → AllKnown (expr_tokens e)
      → Part all base (expr_rows base e ++ (5, channel, base + expr_below e, 0) ∷ [])
      → Stands IsStatement stmt_at all base (expr_size e) (expr_rows base e ++ (5, channel, base + expr_below e, 0) ∷ [])
      (tree.output channel e (base + expr_size e))
  unfolding kind_of roles_of row_of is_statement is_expression is_unknown children_of child_of stmt_node
  output_stands channel low e base known part =
      let value = expr_stands e base known (part_first (expr_rows base e) _ part) in
      let last = part_rest (expr_rows base e) _ value.grown.size part in
      stmt_top _ last refl _ (refl, refl)
      (join (expr_rows base e) _ [] refl value.grown
      (own last refl (record { known = refl; p = low; q = (omega arith, value.sort); r = refl })))
      (λ fitting i. tree.output channel (value.tree fitting i) (base + expr_size e))

  mutual
    unfolding kind_of roles_of row_of is_statement is_expression is_unknown children_of child_of stmt_node

    statement_stands :
        (s : Statement) (base : ℕ) → AllKnown (statement_tokens s) → Part all base (statement_rows base s) → StatementStands all base s
    statement_stands skip base known part =
        let same : base ≡ base + 0 = omega arith in
        stmt_top _ part same _ (refl, refl) (own part same (record { known = refl; p = refl; q = refl; r = refl })) (λ fitting. refl)
    statement_stands (set v e) base known part =
        let value = expr_stands e base known.1.1.1 (part_first (expr_rows base e) _ part) in
        let last = part_rest (expr_rows base e) _ value.grown.size part in
        stmt_top _ last refl _ (refl, refl)
        (join (expr_rows base e) _ [] refl value.grown
        (own last refl (record { known = refl; p = known.1.0; q = (omega arith, value.sort); r = refl })))
        (λ fitting i. tree.assign v (value.tree fitting i))
    statement_stands (if e s t) base known part =
        let at : ℕ = base + expr_size e in
        let at_other : ℕ = at + block_size s in
        let test = expr_stands e base (known_first (expr_tokens e) _ known.1) (part_first (expr_rows base e) _ part) in
        let after = part_rest (expr_rows base e) _ test.grown.size part in
        let more-known = (known_rest (expr_tokens e) _ known.1).1 in
        let one_way = block_stands s at (known_first (block_tokens s) _ more-known) (part_first (block_rows at s) _ after) in
        let further = part_rest (block_rows at s) _ one_way.grown.size after in
        let other-known = known_first (block_tokens t) _ (known_rest (block_tokens s) _ more-known).1 in
        let other_way = block_stands t at_other other-known (part_first (block_rows at_other t) _ further) in
        let last = part_rest (block_rows at_other t) _ other_way.grown.size further in
        let same : at_other + block_size t ≡ base + (expr_size e + block_size s + block_size t) = omega arith in
        stmt_top _ last same _ (refl, refl)
        (join (expr_rows base e) _ [] (omega arith) test.grown
        (join (block_rows at s) _ ((base + expr_below e) ∷ []) refl one_way.grown
        (join (block_rows at_other t) _ ((base + expr_below e) ∷ (at + block_below s) ∷ []) refl other_way.grown
        (own last same
        (record {
          known = refl;
          p = (omega arith, test.sort);
          q = (omega arith, one_way.sort.0);
          r = (omega arith, other_way.sort.0);
        })))))
        (λ fitting i. tree.if (test.tree fitting i) (one_way.tree fitting i) (other_way.tree fitting i))
    statement_stands (while e s) base known part =
        let at : ℕ = base + expr_size e in
        let test = expr_stands e base (known_first (expr_tokens e) _ known.1) (part_first (expr_rows base e) _ part) in
        let after = part_rest (expr_rows base e) _ test.grown.size part in
        let more-known = (known_rest (expr_tokens e) _ known.1).1 in
        let body = block_stands s at (known_first (block_tokens s) _ more-known) (part_first (block_rows at s) _ after) in
        let last = part_rest (block_rows at s) _ body.grown.size after in
        let same : at + block_size s ≡ base + (expr_size e + block_size s) = omega arith in
        stmt_top _ last same _ (refl, refl)
        (join (expr_rows base e) _ [] (omega arith) test.grown
        (join (block_rows at s) _ ((base + expr_below e) ∷ []) refl body.grown
        (own last same (record { known = refl; p = (omega arith, test.sort); q = (omega arith, body.sort.0); r = refl }))))
        (λ fitting i. tree.while (test.tree fitting i) (body.tree fitting i))
    statement_stands (recipe.settled e) base known part = output_stands 0 (omega arith) e base known.1 part
    statement_stands (recipe.provisional e) base known part = output_stands 1 (omega arith) e base known.1 part

    pub block_stands : (b : Block) (base : ℕ) → AllKnown (block_tokens b) → Part all base (block_rows base b) → BlockStands all base b
    block_stands (one s) base known part = statement_stands s base known part
    block_stands (more s b) base known part =
        let at : ℕ = base + statement_size s in
        let first = statement_stands s base (known_first (statement_tokens s) _ known) (part_first (statement_rows base s) _ part) in
        let after = part_rest (statement_rows base s) _ first.grown.size part in
        let others = block_stands b at (known_rest (statement_tokens s) _ known).1 (part_first (block_rows at b) _ after) in
        let last = part_rest (block_rows at b) _ others.grown.size after in
        let same : at + block_size b ≡ base + (statement_size s + block_size b) = omega arith in
        stmt_top _ last same _ (refl, refl)
        (join (statement_rows base s) _ [] (omega arith) first.grown
        (join (block_rows at b) _ ((base + statement_below s) ∷ []) refl others.grown
        (own last same (record { known = refl; p = (omega arith, first.sort.0); q = (omega arith, others.sort.0); r = refl }))))
        (λ fitting i. tree.sequence (first.tree fitting i) (others.tree fitting i))
