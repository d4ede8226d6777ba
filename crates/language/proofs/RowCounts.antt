-- How many rows there are of each part of a recipe, and how many words of all.
use Prim.Native.Nat.{ℕ, ◌+◌, ◌*◌}
use native.Mathlib.Omega.{arith}
use mathlib.Core.Path.{◌≡◌, refl, ap, ◌∙◌}
use lib.ListN.{length, length-append}
use Rattle.rules.specs.Limits.{row_words}
use Rattle.rules.specs.Trees.{Expr, constant, variable, binary}
use Rattle.rules.specs.Cases.{words_of}
use Rattle.rules.proofs.PartLaws.{words_length}
use Rattle.language.specs.Recipes.{Statement, skip, set, if, while, Block, one, more, Recipe}
use Rattle.language.specs.Recipes as recipe
use Rattle.language.specs.Tables.{expr_size, statement_size, block_size, expr_rows, statement_rows, block_rows, table_of}

pub expr_rows_length : (e : Expr) (base : ℕ) → length (expr_rows base e) ≡ expr_size e
expr_rows_length (constant value) base = refl
expr_rows_length (variable v) base = refl
expr_rows_length (binary o a b) base =
    let left = expr_rows_length a base in
    let right = expr_rows_length b (base + expr_size a) in
    simp length-append (omega arith)

mutual
  pub statement_rows_length : (s : Statement) (base : ℕ) → length (statement_rows base s) ≡ statement_size s
  statement_rows_length skip base = refl
  statement_rows_length (set v e) base = let value = expr_rows_length e base in simp length-append (omega arith)
  statement_rows_length (if e s t) base =
      let test = expr_rows_length e base in
      let first = block_rows_length s (base + expr_size e) in
      let second = block_rows_length t (base + expr_size e + block_size s) in
      simp length-append (omega arith)
  statement_rows_length (while e s) base =
      let test = expr_rows_length e base in
      let body = block_rows_length s (base + expr_size e) in
      simp length-append (omega arith)
  statement_rows_length (recipe.settled e) base = let value = expr_rows_length e base in simp length-append (omega arith)
  statement_rows_length (recipe.provisional e) base = let value = expr_rows_length e base in simp length-append (omega arith)

  pub block_rows_length : (b : Block) (base : ℕ) → length (block_rows base b) ≡ block_size b
  block_rows_length (one s) base = statement_rows_length s base
  block_rows_length (more s b) base =
      let first = statement_rows_length s base in
      let others = block_rows_length b (base + statement_size s) in
      simp length-append (omega arith)

pub block_words : (b : Block) (base : ℕ) → length (words_of (block_rows base b)) ≡ block_size b * row_words
block_words b base = words_length (block_rows base b) ∙ ap (λ (n : ℕ). 4 * n) (block_rows_length b base) ∙ omega arith

-- the words of a recipe's table
pub table_words_lem : (r : Recipe) → length (table_of r) ≡ block_size r.block * row_words
unfolding table_of
table_words_lem r = block_words r.block 0
