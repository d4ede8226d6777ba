-- Going on with the words of an expression, a statement, a block or a recipe: they take the place of their symbol.
use Prim.Native.Nat.{ℕ}
use mathlib.Core.Bool.{Bool}
use mathlib.Core.List.{List, [], ◌∷◌, ◌++◌, append_assoc, append-nil}
use mathlib.Core.Path.{◌≡◌, refl, sym, ap, ◌∙◌}
use borrow.Author.Tests.{eq-eqb}
use Rattle.rules.specs.declared.Operator.{Operator}
use Rattle.rules.specs.Trees.{Expr, constant, variable, binary}
use Rattle.language.specs.Tokens as word
use Rattle.language.specs.Tokens.{Token}
use Rattle.rules.specs.Trees.{operator_number}
use Rattle.language.specs.Recipes.{Statement, skip, set, if, while, Block, one, more, Level, plain, Declaration, Recipe, expr_tokens, statement_tokens, block_tokens, level_tokens, declaration_tokens, declarations_tokens, recipe_tokens}
use Rattle.language.specs.Recipes as recipe
use Rattle.reader.specs.Machine.{tag, Closer, at_else, at_end, at_finish, Symbol, expr, statement, exactly, name, operator, rest, start, on_expr, on_statement, closing, on_rest, on_start, on_level, expected, finished, onward, run}

-- the words of two lists, one after the other
pub joined : (a b ts : List Token) (symbols : List Symbol) → run ((a ++ b) ++ ts) symbols ≡ run (a ++ (b ++ ts)) symbols
joined a b ts symbols = ap (λ (l : List Token). run l symbols) (append_assoc a b ts)

-- a word where it is to stand
pub run_exactly : (t : Token) (ts : List Token) (symbols : List Symbol) → run (t ∷ ts) (exactly t ∷ symbols) ≡ run ts symbols
unfolding run
run_exactly t ts symbols = ap (λ (b : Bool). onward (expected b) (run ts) symbols (t ∷ ts)) (eq-eqb (tag t) (tag t) refl)

pub run_sign : (o : Operator) (ts : List Token) (symbols : List Symbol) → run (word.sign o ∷ ts) (operator ∷ symbols) ≡ run ts symbols
unfolding run tag operator_number
run_sign Operator.Sum ts symbols = refl
run_sign Operator.Difference ts symbols = refl
run_sign Operator.Product ts symbols = refl
run_sign Operator.Quotient ts symbols = refl
run_sign Operator.Equal ts symbols = refl
run_sign Operator.Less ts symbols = refl

pub run_opening : (ts : List Token) (symbols : List Symbol)
    → run (word.opening ∷ ts) (expr ∷ symbols) ≡ run ts (expr ∷ operator ∷ expr ∷ exactly word.closing ∷ symbols)
unfolding run tag on_expr
run_opening ts symbols = refl

pub run_expr : (e : Expr) (ts : List Token) (symbols : List Symbol) → run (expr_tokens e ++ ts) (expr ∷ symbols) ≡ run ts symbols
unfolding run tag on_expr
run_expr (constant n) ts symbols = refl
run_expr (variable v) ts symbols = refl
run_expr (binary o a b) ts symbols =
    joined (expr_tokens a) (word.sign o ∷ (expr_tokens b ++ word.closing ∷ [])) ts (expr ∷ operator ∷ expr ∷ exactly word.closing ∷ symbols)
    ∙ run_expr a (word.sign o ∷ ((expr_tokens b ++ word.closing ∷ []) ++ ts)) (operator ∷ expr ∷ exactly word.closing ∷ symbols)
    ∙ run_sign o ((expr_tokens b ++ word.closing ∷ []) ++ ts) (expr ∷ exactly word.closing ∷ symbols)
    ∙ joined (expr_tokens b) (word.closing ∷ []) ts (expr ∷ exactly word.closing ∷ symbols)
    ∙ run_expr b (word.closing ∷ ts) (exactly word.closing ∷ symbols)

pub run_more : (c : Closer) (ts : List Token) (symbols : List Symbol)
    → run (word.semicolon ∷ ts) (rest c ∷ symbols) ≡ run ts (statement ∷ rest c ∷ symbols)
unfolding run tag on_rest
run_more c ts symbols = refl

pub run_else : (ts : List Token) (symbols : List Symbol)
    → run (word.else ∷ ts) (rest at_else ∷ symbols) ≡ run ts (statement ∷ rest at_end ∷ symbols)
unfolding run tag on_rest closing
run_else ts symbols = refl

pub run_end : (ts : List Token) (symbols : List Symbol) → run (word.end ∷ ts) (rest at_end ∷ symbols) ≡ run ts symbols
unfolding run tag on_rest closing
run_end ts symbols = refl

pub run_if : (ts : List Token) (symbols : List Symbol)
    → run (word.if ∷ ts) (statement ∷ symbols) ≡ run ts (expr ∷ exactly word.then ∷ statement ∷ rest at_else ∷ symbols)
unfolding run tag on_statement
run_if ts symbols = refl

pub run_while : (ts : List Token) (symbols : List Symbol)
    → run (word.while ∷ ts) (statement ∷ symbols) ≡ run ts (expr ∷ exactly word.doing ∷ statement ∷ rest at_end ∷ symbols)
unfolding run tag on_statement
run_while ts symbols = refl

pub run_skip : (ts : List Token) (symbols : List Symbol) → run (word.skip ∷ ts) (statement ∷ symbols) ≡ run ts symbols
unfolding run tag on_statement
run_skip ts symbols = refl

pub run_set : (ts : List Token) (symbols : List Symbol)
    → run (word.set ∷ ts) (statement ∷ symbols) ≡ run ts (name ∷ exactly (word.sign Operator.Equal) ∷ expr ∷ symbols)
unfolding run tag on_statement
run_set ts symbols = refl

pub run_name : (v : ℕ) (ts : List Token) (symbols : List Symbol) → run (word.variable v ∷ ts) (name ∷ symbols) ≡ run ts symbols
unfolding run tag
run_name v ts symbols = refl

pub run_settled : (ts : List Token) (symbols : List Symbol) → run (word.settled ∷ ts) (statement ∷ symbols) ≡ run ts (expr ∷ symbols)
unfolding run tag on_statement
run_settled ts symbols = refl

pub run_provisional : (ts : List Token) (symbols : List Symbol) → run (word.provisional ∷ ts) (statement ∷ symbols) ≡ run ts (expr ∷ symbols)
unfolding run tag on_statement
run_provisional ts symbols = refl

mutual
  pub run_statement : (s : Statement) (ts : List Token) (symbols : List Symbol)
      → run (statement_tokens s ++ ts) (statement ∷ symbols) ≡ run ts symbols
  run_statement skip ts symbols = run_skip ts symbols
  run_statement (set v e) ts symbols =
      run_set (word.variable v ∷ word.sign Operator.Equal ∷ (expr_tokens e ++ ts)) symbols
      ∙ run_name v (word.sign Operator.Equal ∷ (expr_tokens e ++ ts)) (exactly (word.sign Operator.Equal) ∷ expr ∷ symbols)
      ∙ run_exactly (word.sign Operator.Equal) (expr_tokens e ++ ts) (expr ∷ symbols)
      ∙ run_expr e ts symbols
  run_statement (if e s t) ts symbols =
      let else_part : List Token = word.else ∷ (block_tokens t ++ word.end ∷ []) in
      run_if ((expr_tokens e ++ word.then ∷ (block_tokens s ++ else_part)) ++ ts) symbols
      ∙ joined (expr_tokens e) (word.then ∷ (block_tokens s ++ else_part)) ts (expr ∷ exactly word.then ∷ statement ∷ rest at_else ∷ symbols)
      ∙ run_expr e (word.then ∷ ((block_tokens s ++ else_part) ++ ts)) (exactly word.then ∷ statement ∷ rest at_else ∷ symbols)
      ∙ run_exactly word.then ((block_tokens s ++ else_part) ++ ts) (statement ∷ rest at_else ∷ symbols)
      ∙ joined (block_tokens s) else_part ts (statement ∷ rest at_else ∷ symbols)
      ∙ run_block s at_else (else_part ++ ts) symbols
      ∙ run_else ((block_tokens t ++ word.end ∷ []) ++ ts) symbols
      ∙ joined (block_tokens t) (word.end ∷ []) ts (statement ∷ rest at_end ∷ symbols)
      ∙ run_block t at_end (word.end ∷ ts) symbols
      ∙ run_end ts symbols
  run_statement (while e s) ts symbols =
      run_while ((expr_tokens e ++ word.doing ∷ (block_tokens s ++ word.end ∷ [])) ++ ts) symbols
      ∙ joined (expr_tokens e) (word.doing ∷ (block_tokens s ++ word.end ∷ [])) ts (expr ∷ exactly word.doing ∷ statement ∷ rest at_end ∷ symbols)
      ∙ run_expr e (word.doing ∷ ((block_tokens s ++ word.end ∷ []) ++ ts)) (exactly word.doing ∷ statement ∷ rest at_end ∷ symbols)
      ∙ run_exactly word.doing ((block_tokens s ++ word.end ∷ []) ++ ts) (statement ∷ rest at_end ∷ symbols)
      ∙ joined (block_tokens s) (word.end ∷ []) ts (statement ∷ rest at_end ∷ symbols)
      ∙ run_block s at_end (word.end ∷ ts) symbols
      ∙ run_end ts symbols
  run_statement (recipe.settled e) ts symbols = run_settled (expr_tokens e ++ ts) symbols ∙ run_expr e ts symbols
  run_statement (recipe.provisional e) ts symbols = run_provisional (expr_tokens e ++ ts) symbols ∙ run_expr e ts symbols

  pub run_block : (b : Block) (c : Closer) (ts : List Token) (symbols : List Symbol)
      → run (block_tokens b ++ ts) (statement ∷ rest c ∷ symbols) ≡ run ts (rest c ∷ symbols)
  run_block (one s) c ts symbols = run_statement s ts (rest c ∷ symbols)
  run_block (more s b) c ts symbols =
      joined (statement_tokens s) (word.semicolon ∷ block_tokens b) ts (statement ∷ rest c ∷ symbols)
      ∙ run_statement s (word.semicolon ∷ (block_tokens b ++ ts)) (rest c ∷ symbols)
      ∙ run_more c (block_tokens b ++ ts) symbols
      ∙ run_block b c ts symbols

-- a recipe whose declarations are over begins with a statement
begins : (b : Block) (ts : List Token) (symbols : List Symbol)
    → run (block_tokens b ++ ts) (start ∷ symbols) ≡ run (block_tokens b ++ ts) (statement ∷ rest at_finish ∷ symbols)
unfolding run tag on_start on_statement
begins (one skip) ts symbols = refl
begins (one (set v e)) ts symbols = refl
begins (one (if e s t)) ts symbols = refl
begins (one (while e s)) ts symbols = refl
begins (one (recipe.settled e)) ts symbols = refl
begins (one (recipe.provisional e)) ts symbols = refl
begins (more skip b) ts symbols = refl
begins (more (set v e) b) ts symbols = refl
begins (more (if e s t) b) ts symbols = refl
begins (more (while e s) b) ts symbols = refl
begins (more (recipe.settled e) b) ts symbols = refl
begins (more (recipe.provisional e) b) ts symbols = refl

pub run_declared : (d : Declaration) (ts : List Token) (symbols : List Symbol)
    → run (declaration_tokens d ++ ts) (start ∷ symbols) ≡ run ts (start ∷ symbols)
unfolding run tag on_start on_level
run_declared d ts symbols = by d.level
  where
    by : (l : Level) → run (word.input ∷ word.variable d.variable ∷ ((level_tokens l ++ word.semicolon ∷ []) ++ ts)) (start ∷ symbols) ≡ run ts (start ∷ symbols)
    by plain = refl
    by recipe.settled = refl
    by recipe.provisional = refl

pub run_declarations : (ds : List Declaration) (ts : List Token) (symbols : List Symbol)
    → run (declarations_tokens ds ++ ts) (start ∷ symbols) ≡ run ts (start ∷ symbols)
run_declarations [] ts symbols = refl
run_declarations (d ∷ ds) ts symbols =
    joined (declaration_tokens d) (declarations_tokens ds) ts (start ∷ symbols)
    ∙ run_declared d (declarations_tokens ds ++ ts) symbols
    ∙ run_declarations ds ts symbols

pub run_recipe : (r : Recipe) → run (recipe_tokens r) (start ∷ []) ≡ finished
unfolding run
run_recipe r =
    run_declarations r.declarations (block_tokens r.block) []
    ∙ ap (λ (l : List Token). run l (start ∷ [])) (sym (append-nil (block_tokens r.block)))
    ∙ begins r.block [] []
    ∙ run_block r.block at_finish [] []
