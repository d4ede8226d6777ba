-- What is written is told apart by its words: no two expressions, statements, blocks or recipes are the same words.
use Prim.Native.Nat.{ℕ}
use native.Mathlib.Omega.{arith}
use mathlib.Core.List.{List, [], ◌∷◌, ◌++◌, append_assoc, append-nil, tail-eq_of_cons-eq}
use mathlib.Core.Path.{◌≡◌, refl, sym, ◌∙◌}
use Rattle.rules.specs.Trees.{Expr, constant, variable, binary}
use Rattle.language.specs.Tokens as word
use Rattle.language.specs.Tokens.{Token}
use Rattle.language.specs.Recipes.{Statement, skip, set, if, while, Block, one, more, Level, plain, Declaration, Recipe, expr_tokens, statement_tokens, block_tokens, level_tokens, declaration_tokens, declarations_tokens, recipe_tokens}
use Rattle.language.specs.Recipes as recipe
use Rattle.language.specs.Claims.{SingleReading}

-- two words that differ were said to be the same
pub clash : {A : Type 0} → ◌≡◌ {A = ℕ} 0 1 → A
clash e = absurd (omega arith)

-- ---- expressions

pub expr_told : (e f : Expr) (x y : List Token) → expr_tokens e ++ x ≡ expr_tokens f ++ y → (e ≡ f) × (x ≡ y)
expr_told (constant v) (constant w) x y h = (cc, cc)
expr_told (constant v) (variable w) x y h = clash (cc)
expr_told (constant v) (binary p c d) x y h = clash (cc)
expr_told (variable v) (constant w) x y h = clash (cc)
expr_told (variable v) (variable w) x y h = (cc, cc)
expr_told (variable v) (binary p c d) x y h = clash (cc)
expr_told (binary o a b) (constant w) x y h = clash (cc)
expr_told (binary o a b) (variable w) x y h = clash (cc)
expr_told (binary o a b) (binary p c d) x y h =
    let l = expr_told a c _ _ (simp append_assoc at (tail-eq_of_cons-eq h)) in
    let r = expr_told b d _ _ (tail-eq_of_cons-eq l.1) in
    (cc, cc)

-- ---- statements and blocks

-- what can stand after a block
pub data AfterBlock : List Token → Type 0 where
  at_else : {x : List Token} → AfterBlock (word.else ∷ x)
  at_end : {x : List Token} → AfterBlock (word.end ∷ x)
  at_last : AfterBlock []

goes_on : {A : Type 0} {x : List Token} (y : List Token) → AfterBlock x → x ≡ word.semicolon ∷ y → A
goes_on y at_else h = clash (cc)
goes_on y at_end h = clash (cc)
goes_on y at_last h = clash (cc)

mutual
  pub statement_told :
      (s t : Statement) (x y : List Token) → statement_tokens s ++ x ≡ statement_tokens t ++ y → (s ≡ t) × (x ≡ y)
  statement_told skip skip x y h = (refl, cc)
  statement_told skip (set w f) x y h = clash (cc)
  statement_told skip (if f b' c') x y h = clash (cc)
  statement_told skip (while f b') x y h = clash (cc)
  statement_told skip (recipe.settled f) x y h = clash (cc)
  statement_told skip (recipe.provisional f) x y h = clash (cc)
  statement_told (set v e) skip x y h = clash (cc)
  statement_told (set v e) (set w f) x y h =
      let r = expr_told e f x y (tail-eq_of_cons-eq (tail-eq_of_cons-eq (tail-eq_of_cons-eq h))) in
      (cc, r.1)
  statement_told (set v e) (if f b' c') x y h = clash (cc)
  statement_told (set v e) (while f b') x y h = clash (cc)
  statement_told (set v e) (recipe.settled f) x y h = clash (cc)
  statement_told (set v e) (recipe.provisional f) x y h = clash (cc)
  statement_told (if e b c) skip x y h = clash (cc)
  statement_told (if e b c) (set w f) x y h = clash (cc)
  statement_told (if e b c) (if f b' c') x y h =
      let r = expr_told e f _ _ (simp append_assoc at (tail-eq_of_cons-eq h)) in
      let p = block_told b b' _ _ at_else at_else (tail-eq_of_cons-eq r.1) in
      let q = block_told c c' _ _ at_end at_end (tail-eq_of_cons-eq p.1) in
      (cc, tail-eq_of_cons-eq q.1)
  statement_told (if e b c) (while f b') x y h = clash (cc)
  statement_told (if e b c) (recipe.settled f) x y h = clash (cc)
  statement_told (if e b c) (recipe.provisional f) x y h = clash (cc)
  statement_told (while e b) skip x y h = clash (cc)
  statement_told (while e b) (set w f) x y h = clash (cc)
  statement_told (while e b) (if f b' c') x y h = clash (cc)
  statement_told (while e b) (while f b') x y h =
      let r = expr_told e f _ _ (simp append_assoc at (tail-eq_of_cons-eq h)) in
      let p = block_told b b' _ _ at_end at_end (tail-eq_of_cons-eq r.1) in
      (cc, tail-eq_of_cons-eq p.1)
  statement_told (while e b) (recipe.settled f) x y h = clash (cc)
  statement_told (while e b) (recipe.provisional f) x y h = clash (cc)
  statement_told (recipe.settled e) skip x y h = clash (cc)
  statement_told (recipe.settled e) (set w f) x y h = clash (cc)
  statement_told (recipe.settled e) (if f b' c') x y h = clash (cc)
  statement_told (recipe.settled e) (while f b') x y h = clash (cc)
  statement_told (recipe.settled e) (recipe.settled f) x y h =
      let r = expr_told e f x y (tail-eq_of_cons-eq h) in
      (cc, r.1)
  statement_told (recipe.settled e) (recipe.provisional f) x y h = clash (cc)
  statement_told (recipe.provisional e) skip x y h = clash (cc)
  statement_told (recipe.provisional e) (set w f) x y h = clash (cc)
  statement_told (recipe.provisional e) (if f b' c') x y h = clash (cc)
  statement_told (recipe.provisional e) (while f b') x y h = clash (cc)
  statement_told (recipe.provisional e) (recipe.settled f) x y h = clash (cc)
  statement_told (recipe.provisional e) (recipe.provisional f) x y h =
      let r = expr_told e f x y (tail-eq_of_cons-eq h) in
      (cc, r.1)

  pub block_told :
      (b c : Block) (x y : List Token) → AfterBlock x → AfterBlock y → block_tokens b ++ x ≡ block_tokens c ++ y → (b ≡ c) × (x ≡ y)
  block_told (one s) (one t) x y p q h =
      let r = statement_told s t x y h in
      (cc, r.1)
  block_told (one s) (more t c) x y p q h =
      let r = statement_told s t _ _ (simp append_assoc at h) in
      goes_on (block_tokens c ++ y) p r.1
  block_told (more s b) (one t) x y p q h =
      let r = statement_told s t _ _ (simp append_assoc at h) in
      goes_on (block_tokens b ++ x) q (sym r.1)
  block_told (more s b) (more t c) x y p q h =
      let r = statement_told s t _ _ (simp append_assoc at h) in
      let k = block_told b c x y p q (tail-eq_of_cons-eq r.1) in
      (cc, k.1)

-- ---- recipes

level_told :
    (l m : Level) (x y : List Token) → level_tokens l ++ word.semicolon ∷ x ≡ level_tokens m ++ word.semicolon ∷ y
    → (l ≡ m) × (x ≡ y)
level_told plain plain x y h = (refl, cc)
level_told plain recipe.settled x y h = clash (cc)
level_told plain recipe.provisional x y h = clash (cc)
level_told recipe.settled plain x y h = clash (cc)
level_told recipe.settled recipe.settled x y h = (refl, cc)
level_told recipe.settled recipe.provisional x y h = clash (cc)
level_told recipe.provisional plain x y h = clash (cc)
level_told recipe.provisional recipe.settled x y h = clash (cc)
level_told recipe.provisional recipe.provisional x y h = (refl, cc)

pub declaration_told :
    (d e : Declaration) (x y : List Token) → declaration_tokens d ++ x ≡ declaration_tokens e ++ y → (d ≡ e) × (x ≡ y)
declaration_told d e x y h =
    let v : d.variable ≡ e.variable = cc in
    let r = level_told d.level e.level x y (simp append_assoc at (tail-eq_of_cons-eq (tail-eq_of_cons-eq h))) in
    (λ i. record { variable = v i; level = r.0 i }, r.1)

-- no block begins as a declaration does
no_statement : {A : Type 0} (s : Statement) (x y : List Token) → statement_tokens s ++ x ≡ word.input ∷ y → A
no_statement skip x y h = clash (cc)
no_statement (set v e) x y h = clash (cc)
no_statement (if e b c) x y h = clash (cc)
no_statement (while e b) x y h = clash (cc)
no_statement (recipe.settled e) x y h = clash (cc)
no_statement (recipe.provisional e) x y h = clash (cc)

no_block : {A : Type 0} (b : Block) (y : List Token) → block_tokens b ≡ word.input ∷ y → A
no_block (one s) y h = no_statement s [] y (append-nil (statement_tokens s) ∙ h)
no_block (more s b) y h = no_statement s (word.semicolon ∷ block_tokens b) y h

pub declarations_told :
    (ds es : List Declaration) (b c : Block) → declarations_tokens ds ++ block_tokens b ≡ declarations_tokens es ++ block_tokens c
    → (ds ≡ es) × (b ≡ c)
declarations_told [] [] b c h =
    (refl, (block_told b c [] [] at_last at_last (append-nil (block_tokens b) ∙ h ∙ sym (append-nil (block_tokens c)))).0)
declarations_told [] (e ∷ es) b c h = no_block b _ h
declarations_told (d ∷ ds) [] b c h = no_block c _ (sym h)
declarations_told (d ∷ ds) (e ∷ es) b c h =
    let split = append_assoc (declaration_tokens d) (declarations_tokens ds) (block_tokens b) in
    let split' = append_assoc (declaration_tokens e) (declarations_tokens es) (block_tokens c) in
    let r = declaration_told d e _ _ (sym split ∙ h ∙ split') in
    let k = declarations_told ds es b c r.1 in
    (cc, k.1)

pub recipe_told : (r other : Recipe) → recipe_tokens r ≡ recipe_tokens other → r ≡ other
recipe_told r other h =
    let k = declarations_told r.declarations other.declarations r.block other.block h in
    λ i. record { declarations = k.0 i; block = k.1 i }

pub single_reading : SingleReading
single_reading text r other p q = recipe_told r other (sym p ∙ q)
