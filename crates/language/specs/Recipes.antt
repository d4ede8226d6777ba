-- A recipe as it is written, and the words that it is.
use Rattle.std.specs.Prelude.{ℕ, List, [], ◌∷◌, ◌++◌}
use Rattle.rules.specs.declared.Operator.{Operator}
use Rattle.rules.specs.Trees.{Expr, constant, variable, binary}
use Rattle.language.specs.Tokens as word
use Rattle.language.specs.Tokens.{Token}

mutual
  pub data Statement : Type 0 where
    skip : Statement
    set : ℕ → Expr → Statement
    if : Expr → Block → Block → Statement
    while : Expr → Block → Statement
    settled : Expr → Statement
    provisional : Expr → Statement

  -- 13.7: A block is a statement, or a statement, `;` and a block.
  pub data Block : Type 0 where
    one : Statement → Block
    more : Statement → Block → Block

-- the level word of a declaration, or none
pub data Level : Type 0 where
  plain : Level
  settled : Level
  provisional : Level

pub record Declaration : Type 0 where
  pub variable : ℕ
  pub level : Level

pub record Recipe : Type 0 where
  pub declarations : List Declaration
  pub block : Block

-- ---- the words of each

-- 13.5: An expression is a number, a variable, or `(`, an expression, an operator, an expression and `)`.
abbrev pub expr_tokens : Expr → List Token
expr_tokens (constant value) = word.numeral value ∷ []
expr_tokens (variable v) = word.variable v ∷ []
expr_tokens (binary o a b) = word.opening ∷ (expr_tokens a ++ word.sign o ∷ (expr_tokens b ++ word.closing ∷ []))

abbrev mutual
  -- 13.6: A statement is `skip`; or `set`, a variable, `=` and an expression; or `if`, an expression, `then`, a block,
  -- `else`, a block and `end`; or `while`, an expression, `do`, a block and `end`; or `settled` or `provisional` and an
  -- expression, which is an output.
  pub statement_tokens : Statement → List Token
  statement_tokens skip = word.skip ∷ []
  statement_tokens (set v e) = word.set ∷ word.variable v ∷ word.sign Operator.Equal ∷ expr_tokens e
  statement_tokens (if e s t) =
      word.if ∷ (expr_tokens e ++ word.then ∷ (block_tokens s ++ word.else ∷ (block_tokens t ++ word.end ∷ [])))
  statement_tokens (while e s) = word.while ∷ (expr_tokens e ++ word.doing ∷ (block_tokens s ++ word.end ∷ []))
  statement_tokens (settled e) = word.settled ∷ expr_tokens e
  statement_tokens (provisional e) = word.provisional ∷ expr_tokens e

  -- 13.7: A block is a statement, or a statement, `;` and a block.
  pub block_tokens : Block → List Token
  block_tokens (one s) = statement_tokens s
  block_tokens (more s b) = statement_tokens s ++ word.semicolon ∷ block_tokens b

abbrev pub level_tokens : Level → List Token
level_tokens plain = []
level_tokens settled = word.settled ∷ []
level_tokens provisional = word.provisional ∷ []

-- 13.8: A declaration is `in`, a variable, `settled` or `provisional` or neither, and `;`; ..
abbrev pub declaration_tokens : Declaration → List Token
declaration_tokens d = word.input ∷ word.variable d.variable ∷ (level_tokens d.level ++ word.semicolon ∷ [])

abbrev pub declarations_tokens : List Declaration → List Token
declarations_tokens [] = []
declarations_tokens (d ∷ ds) = declaration_tokens d ++ declarations_tokens ds

-- 13.9: A recipe is any number of declarations and then a block, and its words are theirs.
abbrev pub recipe_tokens : Recipe → List Token
recipe_tokens r = declarations_tokens r.declarations ++ block_tokens r.block
