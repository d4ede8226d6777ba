-- Where words cannot be gone on with: those before can be completed to a recipe, and with the next one they begin none.
use Prim.Native.Nat.{ℕ, ◌+◌, ◌≤◌}
use native.Mathlib.Omega.{arith}
use mathlib.Core.Bool.{Bool, true, false, cond, ◌||◌}
use mathlib.Core.List.{List, [], ◌∷◌, ◌++◌, append_assoc, append-nil, map-append, head-eq_of_cons-eq, tail-eq_of_cons-eq}
use mathlib.Core.Logic.{◌⊎◌, inl, inr}
use mathlib.Core.Path.{◌≡◌, refl, sym, ap, ap₂, ◌∙◌, subst}
use lib.Dec.{eqb, leb}
use lib.ListN.{length, length-append}
use borrow.Author.Tests.{eqb-true, eq-eqb}
use Rattle.rules.specs.declared.Operator.{Operator}
use Rattle.rules.specs.Trees.{Expr, constant, variable, binary}
use Rattle.language.specs.Words.{Word}
use Rattle.language.specs.Tokens as word
use Rattle.language.specs.Tokens.{Token, token_of, tokens}
use Rattle.rules.specs.Trees.{operator_number}
use Rattle.language.specs.Recipes.{Statement, skip, set, if, while, Block, one, more, Level, plain, Declaration, Recipe, expr_tokens, statement_tokens, block_tokens, level_tokens, declarations_tokens, recipe_tokens}
use Rattle.language.specs.Recipes as recipe
use Rattle.language.specs.Readings.{Fault}
use Rattle.language.proofs.Unambiguous.{clash}
use Rattle.reader.specs.Machine.{tag, is_word, is_variable, is_numeral, is_sign, Closer, at_else, at_end, at_finish, Symbol, expr, statement, exactly, name, operator, rest, start, level, Advance, stop, go, also, on_expr, on_statement, closing, on_rest, on_start, on_level, expected, advance, finished, stuck, may_end, ends_at, ended, onward, run}
use Rattle.reader.proofs.RunLaws.{run_recipe}

-- ---- a word by its number

-- the words that are always written the same
abbrev pub is_fixed : Token → Bool
is_fixed t = leb (tag t) 25

untag : ℕ → Token
untag n =
    cond (eqb n 0) word.skip
    (cond (eqb n 1) word.set
    (cond (eqb n 2) word.if
    (cond (eqb n 3) word.then
    (cond (eqb n 4) word.else
    (cond (eqb n 5) word.end
    (cond (eqb n 6) word.while
    (cond (eqb n 7) word.doing
    (cond (eqb n 8) word.settled
    (cond (eqb n 9) word.provisional
    (cond (eqb n 10) word.input
    (cond (eqb n 11) word.opening
    (cond (eqb n 12) word.closing
    (cond (eqb n 13) word.semicolon
    (cond (eqb n 20) (word.sign Operator.Sum)
    (cond (eqb n 21) (word.sign Operator.Difference)
    (cond (eqb n 22) (word.sign Operator.Product)
    (cond (eqb n 23) (word.sign Operator.Quotient)
    (cond (eqb n 24) (word.sign Operator.Equal) (word.sign Operator.Less)))))))))))))))))))

untag_tag : (t : Token) → is_fixed t ≡ true → untag (tag t) ≡ t
unfolding untag tag operator_number
untag_tag word.skip h = refl
untag_tag word.set h = refl
untag_tag word.if h = refl
untag_tag word.then h = refl
untag_tag word.else h = refl
untag_tag word.end h = refl
untag_tag word.while h = refl
untag_tag word.doing h = refl
untag_tag word.settled h = refl
untag_tag word.provisional h = refl
untag_tag word.input h = refl
untag_tag word.opening h = refl
untag_tag word.closing h = refl
untag_tag word.semicolon h = refl
untag_tag (word.sign Operator.Sum) h = refl
untag_tag (word.sign Operator.Difference) h = refl
untag_tag (word.sign Operator.Product) h = refl
untag_tag (word.sign Operator.Quotient) h = refl
untag_tag (word.sign Operator.Equal) h = refl
untag_tag (word.sign Operator.Less) h = refl
untag_tag (word.variable v) h = clash (cc)
untag_tag (word.numeral n) h = clash (cc)
untag_tag word.unknown h = clash (cc)

pub is_word_lem : (t other : Token) → is_fixed t ≡ true → is_word t other ≡ true → other ≡ t
is_word_lem t other fixed h =
    let same = eqb-true (tag other) (tag t) h in
    sym (untag_tag other (ap (λ (n : ℕ). leb n 25) same ∙ fixed)) ∙ ap untag same ∙ untag_tag t fixed

pub is_variable_lem : (t : Token) → is_variable t ≡ true → (v : ℕ) × (t ≡ word.variable v)
unfolding tag operator_number
is_variable_lem word.skip h = clash (cc)
is_variable_lem word.set h = clash (cc)
is_variable_lem word.if h = clash (cc)
is_variable_lem word.then h = clash (cc)
is_variable_lem word.else h = clash (cc)
is_variable_lem word.end h = clash (cc)
is_variable_lem word.while h = clash (cc)
is_variable_lem word.doing h = clash (cc)
is_variable_lem word.settled h = clash (cc)
is_variable_lem word.provisional h = clash (cc)
is_variable_lem word.input h = clash (cc)
is_variable_lem word.opening h = clash (cc)
is_variable_lem word.closing h = clash (cc)
is_variable_lem word.semicolon h = clash (cc)
is_variable_lem (word.sign Operator.Sum) h = clash (cc)
is_variable_lem (word.sign Operator.Difference) h = clash (cc)
is_variable_lem (word.sign Operator.Product) h = clash (cc)
is_variable_lem (word.sign Operator.Quotient) h = clash (cc)
is_variable_lem (word.sign Operator.Equal) h = clash (cc)
is_variable_lem (word.sign Operator.Less) h = clash (cc)
is_variable_lem (word.variable v) h = (v, refl)
is_variable_lem (word.numeral n) h = clash (cc)
is_variable_lem word.unknown h = clash (cc)

pub is_numeral_lem : (t : Token) → is_numeral t ≡ true → (n : ℕ) × (t ≡ word.numeral n)
unfolding tag operator_number
is_numeral_lem word.skip h = clash (cc)
is_numeral_lem word.set h = clash (cc)
is_numeral_lem word.if h = clash (cc)
is_numeral_lem word.then h = clash (cc)
is_numeral_lem word.else h = clash (cc)
is_numeral_lem word.end h = clash (cc)
is_numeral_lem word.while h = clash (cc)
is_numeral_lem word.doing h = clash (cc)
is_numeral_lem word.settled h = clash (cc)
is_numeral_lem word.provisional h = clash (cc)
is_numeral_lem word.input h = clash (cc)
is_numeral_lem word.opening h = clash (cc)
is_numeral_lem word.closing h = clash (cc)
is_numeral_lem word.semicolon h = clash (cc)
is_numeral_lem (word.sign Operator.Sum) h = clash (cc)
is_numeral_lem (word.sign Operator.Difference) h = clash (cc)
is_numeral_lem (word.sign Operator.Product) h = clash (cc)
is_numeral_lem (word.sign Operator.Quotient) h = clash (cc)
is_numeral_lem (word.sign Operator.Equal) h = clash (cc)
is_numeral_lem (word.sign Operator.Less) h = clash (cc)
is_numeral_lem (word.variable v) h = clash (cc)
is_numeral_lem (word.numeral n) h = (n, refl)
is_numeral_lem word.unknown h = clash (cc)

pub is_sign_lem : (t : Token) → is_sign t ≡ true → (o : Operator) × (t ≡ word.sign o)
unfolding tag operator_number
is_sign_lem word.skip h = clash (cc)
is_sign_lem word.set h = clash (cc)
is_sign_lem word.if h = clash (cc)
is_sign_lem word.then h = clash (cc)
is_sign_lem word.else h = clash (cc)
is_sign_lem word.end h = clash (cc)
is_sign_lem word.while h = clash (cc)
is_sign_lem word.doing h = clash (cc)
is_sign_lem word.settled h = clash (cc)
is_sign_lem word.provisional h = clash (cc)
is_sign_lem word.input h = clash (cc)
is_sign_lem word.opening h = clash (cc)
is_sign_lem word.closing h = clash (cc)
is_sign_lem word.semicolon h = clash (cc)
is_sign_lem (word.sign Operator.Sum) h = (Operator.Sum, refl)
is_sign_lem (word.sign Operator.Difference) h = (Operator.Difference, refl)
is_sign_lem (word.sign Operator.Product) h = (Operator.Product, refl)
is_sign_lem (word.sign Operator.Quotient) h = (Operator.Quotient, refl)
is_sign_lem (word.sign Operator.Equal) h = (Operator.Equal, refl)
is_sign_lem (word.sign Operator.Less) h = (Operator.Less, refl)
is_sign_lem (word.variable v) h = clash (cc)
is_sign_lem (word.numeral n) h = clash (cc)
is_sign_lem word.unknown h = clash (cc)

-- ---- words that take the place of symbols

-- what can follow a statement in a block
abbrev Tail : List Token → Type 0
Tail front = (front ≡ []) ⊎ ((b : Block) × (front ≡ word.semicolon ∷ block_tokens b))

abbrev Final : Closer → List Token → Type 0
Final at_else front = (b : Block) × (front ≡ word.else ∷ (block_tokens b ++ word.end ∷ []))
Final at_end front = front ≡ word.end ∷ []
Final at_finish front = front ≡ []

abbrev Filled : Symbol → List Token → Type 0
Filled expr front = (e : Expr) × (front ≡ expr_tokens e)
Filled statement front = (s : Statement) × (front ≡ statement_tokens s)
Filled (exactly t) front = (other : Token) × (front ≡ other ∷ []) × (is_word t other ≡ true)
Filled name front = (v : ℕ) × (front ≡ word.variable v ∷ [])
Filled operator front = (o : Operator) × (front ≡ word.sign o ∷ [])
Filled (rest c) front = (tail final : List Token) × (front ≡ tail ++ final) × Tail tail × Final c final
Filled start front = (ds : List Declaration) × (b : Block) × (front ≡ declarations_tokens ds ++ block_tokens b)
Filled level front =
    (l : Level) × (ds : List Declaration) × (b : Block)
    × (front ≡ level_tokens l ++ word.semicolon ∷ (declarations_tokens ds ++ block_tokens b))

abbrev Fills : List Symbol → List Token → Type 0
Fills [] ts = ts ≡ []
Fills (s ∷ symbols) ts = (front after : List Token) × (ts ≡ front ++ after) × Filled s front × Fills symbols after

block_of : (front tail : List Token) → Filled statement front → Tail tail → (b : Block) × (front ++ tail ≡ block_tokens b)
block_of front tail f (inl e) = (one f.0, ap (λ (l : List Token). front ++ l) e ∙ append-nil front ∙ f.1)
block_of front tail f (inr g) = (more f.0 g.0, ap₂ ◌++◌ f.1 g.1)

-- the word that was expected
told : (t : Token) (front : List Token) → is_fixed t ≡ true → Filled (exactly t) front → front ≡ t ∷ []
told t front fixed f = f.1 ∙ ap (λ (x : Token). x ∷ []) (is_word_lem t f.0 fixed f.2)

-- ---- a word that a symbol takes is the first of words that take its place

abbrev Sound : Symbol → Token → Advance → Type 0
Sound s t a =
    (new symbols : List Symbol) (ts : List Token) → a ≡ go new → Fills (new ++ symbols) ts → Fills (s ∷ symbols) (t ∷ ts)

stopped : {A : Type 0} (new : List Symbol) → stop ≡ go new → A
stopped new e = clash (cc)

new_is : (a b : List Symbol) → go a ≡ go b → b ≡ a
new_is a b e = cc

alone : (s : Symbol) (t : Token) → Filled s (t ∷ []) → Sound s t (go [])
alone s t f new symbols ts e fills =
    (t ∷ [], ts, refl, f, subst (λ (l : List Symbol). Fills (l ++ symbols) ts) (new_is [] new e) fills)

expected_sound : (s : Symbol) (t : Token) (b : Bool) → (b ≡ true → Filled s (t ∷ [])) → Sound s t (expected b)
expected_sound s t true f = alone s t (f refl)
expected_sound s t false f = λ new symbols ts e fills. stopped new e

-- the symbols that come in place of one, from what fills them
in_place : (s : Symbol) (t : Token) (named : List Symbol)
    → ((symbols : List Symbol) (ts : List Token) → Fills (named ++ symbols) ts → Fills (s ∷ symbols) (t ∷ ts)) → Sound s t (go named)
in_place s t named f new symbols ts e fills =
    f symbols ts (subst (λ (l : List Symbol). Fills (l ++ symbols) ts) (new_is named new e) fills)

opened : (t : Token) → t ≡ word.opening → (symbols : List Symbol) (ts : List Token)
    → Fills (expr ∷ operator ∷ expr ∷ exactly word.closing ∷ symbols) ts → Fills (expr ∷ symbols) (t ∷ ts)
unfolding tag
opened t is symbols ts (a, r₁, e₁, fa, (o, r₂, e₂, fo, (b, r₃, e₃, fb, (c, r₄, e₄, fc, on)))) = (
  word.opening ∷ (expr_tokens fa.0 ++ word.sign fo.0 ∷ (expr_tokens fb.0 ++ word.closing ∷ [])),
  r₄,
  ap₂ ◌∷◌ is (e₁ ∙ ap₂ ◌++◌ fa.1 (e₂ ∙ ap₂ ◌++◌ fo.1 (e₃ ∙ ap₂ ◌++◌ fb.1 (e₄ ∙ ap (λ (l : List Token). l ++ r₄) (told word.closing c refl fc)))) ∙ simp append_assoc),
  (binary fo.0 fa.0 fb.0, refl),
  on,
)

expr_sound : (t : Token) → Sound expr t (on_expr t)
unfolding on_expr tag
expr_sound t = by (is_word word.opening t) (is_numeral t) (is_variable t) refl refl refl
  where
    by : (o n v : Bool) → is_word word.opening t ≡ o → is_numeral t ≡ n → is_variable t ≡ v
        → Sound expr t (cond o (go (expr ∷ operator ∷ expr ∷ exactly word.closing ∷ [])) (cond (n || v) (go []) stop))
    by true n v eo en ev = in_place expr t (expr ∷ operator ∷ expr ∷ exactly word.closing ∷ []) (opened t (is_word_lem word.opening t refl eo))
    by false true v eo en ev = alone expr t (constant (is_numeral_lem t en).0, ap (λ (x : Token). x ∷ []) (is_numeral_lem t en).1)
    by false false true eo en ev = alone expr t (variable (is_variable_lem t ev).0, ap (λ (x : Token). x ∷ []) (is_variable_lem t ev).1)
    by false false false eo en ev = λ new symbols ts e fills. stopped new e

set_filled : (t : Token) → t ≡ word.set → (symbols : List Symbol) (ts : List Token)
    → Fills (name ∷ exactly (word.sign Operator.Equal) ∷ expr ∷ symbols) ts → Fills (statement ∷ symbols) (t ∷ ts)
unfolding tag operator_number
set_filled t is symbols ts (v, r₁, e₁, fv, (q, r₂, e₂, fq, (a, r₃, e₃, fa, on))) = (
  statement_tokens (set fv.0 fa.0),
  r₃,
  ap₂ ◌∷◌ is (e₁ ∙ ap₂ ◌++◌ fv.1 (e₂ ∙ ap₂ ◌++◌ (told (word.sign Operator.Equal) q refl fq) (e₃ ∙ ap (λ (l : List Token). l ++ r₃) fa.1))),
  (set fv.0 fa.0, refl),
  on,
)

if_filled : (t : Token) → t ≡ word.if → (symbols : List Symbol) (ts : List Token)
    → Fills (expr ∷ exactly word.then ∷ statement ∷ rest at_else ∷ symbols) ts → Fills (statement ∷ symbols) (t ∷ ts)
unfolding tag
if_filled t is symbols ts (a, r₁, e₁, fa, (q, r₂, e₂, fq, (b, r₃, e₃, fb, (c, r₄, e₄, (tail, final, ec, ft, fc), on)))) =
    let block = block_of b tail fb ft in (
      statement_tokens (if fa.0 block.0 fc.0),
      r₄,
      ap₂ ◌∷◌ is (e₁ ∙ ap₂ ◌++◌ fa.1 (e₂ ∙ ap₂ ◌++◌ (told word.then q refl fq) (e₃ ∙ ap (λ (l : List Token). b ++ l) (e₄ ∙ ap (λ (l : List Token). l ++ r₄) (ec ∙ ap (λ (l : List Token). tail ++ l) fc.1)))))
          ∙ ap (λ (l : List Token). word.if ∷ (expr_tokens fa.0 ++ word.then ∷ l)) (sym (append_assoc b (tail ++ word.else ∷ (block_tokens fc.0 ++ word.end ∷ [])) r₄) ∙ ap (λ (l : List Token). l ++ r₄) (sym (append_assoc b tail (word.else ∷ (block_tokens fc.0 ++ word.end ∷ []))) ∙ ap (λ (l : List Token). l ++ word.else ∷ (block_tokens fc.0 ++ word.end ∷ [])) block.1))
          ∙ simp append_assoc,
      (if fa.0 block.0 fc.0, refl),
      on,
    )

while_filled : (t : Token) → t ≡ word.while → (symbols : List Symbol) (ts : List Token)
    → Fills (expr ∷ exactly word.doing ∷ statement ∷ rest at_end ∷ symbols) ts → Fills (statement ∷ symbols) (t ∷ ts)
unfolding tag
while_filled t is symbols ts (a, r₁, e₁, fa, (q, r₂, e₂, fq, (b, r₃, e₃, fb, (c, r₄, e₄, (tail, final, ec, ft, fc), on)))) =
    let block = block_of b tail fb ft in (
      statement_tokens (while fa.0 block.0),
      r₄,
      ap₂ ◌∷◌ is (e₁ ∙ ap₂ ◌++◌ fa.1 (e₂ ∙ ap₂ ◌++◌ (told word.doing q refl fq) (e₃ ∙ ap (λ (l : List Token). b ++ l) (e₄ ∙ ap (λ (l : List Token). l ++ r₄) (ec ∙ ap (λ (l : List Token). tail ++ l) fc)))))
          ∙ ap (λ (l : List Token). word.while ∷ (expr_tokens fa.0 ++ word.doing ∷ l)) (sym (append_assoc b (tail ++ word.end ∷ []) r₄) ∙ ap (λ (l : List Token). l ++ r₄) (sym (append_assoc b tail (word.end ∷ [])) ∙ ap (λ (l : List Token). l ++ word.end ∷ []) block.1))
          ∙ simp append_assoc,
      (while fa.0 block.0, refl),
      on,
    )

told_filled : (t : Token) (made : Expr → Statement) → ((e : Expr) → statement_tokens (made e) ≡ t ∷ expr_tokens e) → (symbols : List Symbol) (ts : List Token)
    → Fills (expr ∷ symbols) ts → Fills (statement ∷ symbols) (t ∷ ts)
told_filled t made is symbols ts (a, r₁, e₁, fa, on) = (
  statement_tokens (made fa.0),
  r₁,
  ap (λ (l : List Token). t ∷ l) (e₁ ∙ ap (λ (l : List Token). l ++ r₁) fa.1) ∙ ap (λ (l : List Token). l ++ r₁) (sym (is fa.0)),
  (made fa.0, refl),
  on,
)

statement_sound : (t : Token) → Sound statement t (on_statement t)
unfolding on_statement tag
statement_sound t =
    by (is_word word.skip t) (is_word word.set t) (is_word word.if t) (is_word word.while t) (is_word word.settled t) (is_word word.provisional t)
    refl refl refl refl refl refl
  where
    by : (a b c d e f : Bool) → is_word word.skip t ≡ a → is_word word.set t ≡ b → is_word word.if t ≡ c → is_word word.while t ≡ d
        → is_word word.settled t ≡ e → is_word word.provisional t ≡ f
        → Sound statement t
        (cond a (go [])
        (cond b (go (name ∷ exactly (word.sign Operator.Equal) ∷ expr ∷ []))
        (cond c (go (expr ∷ exactly word.then ∷ statement ∷ rest at_else ∷ []))
        (cond d (go (expr ∷ exactly word.doing ∷ statement ∷ rest at_end ∷ []))
        (cond (e || f) (go (expr ∷ [])) stop)))))
    by true b c d e f ea eb ec ed ee ef = alone statement t (skip, ap (λ (x : Token). x ∷ []) (is_word_lem word.skip t refl ea))
    by false true c d e f ea eb ec ed ee ef = in_place statement t _ (set_filled t (is_word_lem word.set t refl eb))
    by false false true d e f ea eb ec ed ee ef = in_place statement t _ (if_filled t (is_word_lem word.if t refl ec))
    by false false false true e f ea eb ec ed ee ef = in_place statement t _ (while_filled t (is_word_lem word.while t refl ed))
    by false false false false true f ea eb ec ed ee ef =
        in_place statement t _
        (told_filled t recipe.settled (λ e. ap (λ (x : Token). x ∷ expr_tokens e) (sym (is_word_lem word.settled t refl ee))))
    by false false false false false true ea eb ec ed ee ef =
        in_place statement t _
        (told_filled t recipe.provisional (λ e. ap (λ (x : Token). x ∷ expr_tokens e) (sym (is_word_lem word.provisional t refl ef))))
    by false false false false false false ea eb ec ed ee ef = λ new symbols ts e fills. stopped new e

-- a further statement of a block
more_filled : (c : Closer) (t : Token) → t ≡ word.semicolon → (symbols : List Symbol) (ts : List Token)
    → Fills (statement ∷ rest c ∷ symbols) ts → Fills (rest c ∷ symbols) (t ∷ ts)
more_filled c t is symbols ts (a, r₁, e₁, fa, (d, r₂, e₂, (tail, final, ed, ft, ff), on)) =
    let block = block_of a tail fa ft in (
      (word.semicolon ∷ (a ++ tail)) ++ final,
      r₂,
      ap₂ ◌∷◌ is (e₁ ∙ ap (λ (l : List Token). a ++ l) (e₂ ∙ ap (λ (l : List Token). l ++ r₂) ed)) ∙ simp append_assoc,
      (word.semicolon ∷ (a ++ tail), final, refl, inr (block.0, ap (λ (l : List Token). word.semicolon ∷ l) block.1), ff),
      on,
    )

else_filled : (t : Token) → t ≡ word.else → (symbols : List Symbol) (ts : List Token)
    → Fills (statement ∷ rest at_end ∷ symbols) ts → Fills (rest at_else ∷ symbols) (t ∷ ts)
else_filled t is symbols ts (a, r₁, e₁, fa, (d, r₂, e₂, (tail, final, ed, ft, ff), on)) =
    let block = block_of a tail fa ft in
    let whole : List Token = word.else ∷ (block_tokens block.0 ++ word.end ∷ []) in (
      whole,
      r₂,
      ap₂ ◌∷◌ is (e₁ ∙ ap (λ (l : List Token). a ++ l) (e₂ ∙ ap (λ (l : List Token). l ++ r₂) (ed ∙ ap (λ (l : List Token). tail ++ l) ff))
          ∙ sym (append_assoc a (tail ++ word.end ∷ []) r₂)
          ∙ ap (λ (l : List Token). l ++ r₂) (sym (append_assoc a tail (word.end ∷ [])) ∙ ap (λ (l : List Token). l ++ word.end ∷ []) block.1)),
      ([], whole, refl, inl refl, (block.0, refl)),
      on,
    )

closing_sound : (c : Closer) (t : Token) → Sound (rest c) t (closing c t)
unfolding closing tag
closing_sound at_else t = by (is_word word.else t) refl
  where
    by : (b : Bool) → is_word word.else t ≡ b → Sound (rest at_else) t (cond b (go (statement ∷ rest at_end ∷ [])) stop)
    by true e = in_place (rest at_else) t _ (else_filled t (is_word_lem word.else t refl e))
    by false e = λ new symbols ts stops fills. stopped new stops
closing_sound at_end t = by (is_word word.end t) refl
  where
    by : (b : Bool) → is_word word.end t ≡ b → Sound (rest at_end) t (cond b (go []) stop)
    by true e =
        alone (rest at_end) t ([], t ∷ [], refl, inl refl, ap (λ (x : Token). x ∷ []) (is_word_lem word.end t refl e))
    by false e = λ new symbols ts stops fills. stopped new stops
closing_sound at_finish t = λ new symbols ts stops fills. stopped new stops

rest_sound : (c : Closer) (t : Token) → Sound (rest c) t (on_rest c t)
unfolding on_rest tag
rest_sound c t = by (is_word word.semicolon t) refl
  where
    by : (b : Bool) → is_word word.semicolon t ≡ b → Sound (rest c) t (cond b (go (statement ∷ rest c ∷ [])) (closing c t))
    by true e = in_place (rest c) t _ (more_filled c t (is_word_lem word.semicolon t refl e))
    by false e = closing_sound c t

-- a recipe after a declaration
declared_filled : (t : Token) → t ≡ word.input → (symbols : List Symbol) (ts : List Token)
    → Fills (name ∷ level ∷ symbols) ts → Fills (start ∷ symbols) (t ∷ ts)
declared_filled t is symbols ts (v, r₁, e₁, fv, (a, r₂, e₂, (l, ds, b, ea), on)) =
    let d : Declaration = record { variable = fv.0; level = l } in (
      declarations_tokens (d ∷ ds) ++ block_tokens b,
      r₂,
      ap₂ ◌∷◌ is (e₁ ∙ ap₂ ◌++◌ fv.1 (e₂ ∙ ap (λ (x : List Token). x ++ r₂) ea)) ∙ simp append_assoc,
      (d ∷ ds, b, refl),
      on,
    )

statement_started : (symbols : List Symbol) (ts : List Token) → Fills (statement ∷ rest at_finish ∷ symbols) ts → Fills (start ∷ symbols) ts
statement_started symbols ts (a, r₁, e₁, fa, (d, r₂, e₂, (tail, final, ed, ft, ff), on)) =
    let block = block_of a tail fa ft in (
      block_tokens block.0,
      r₂,
      e₁ ∙ ap (λ (l : List Token). a ++ l) (e₂ ∙ ap (λ (l : List Token). l ++ r₂) (ed ∙ ap (λ (l : List Token). tail ++ l) ff ∙ append-nil tail))
          ∙ sym (append_assoc a tail r₂) ∙ ap (λ (l : List Token). l ++ r₂) block.1,
      ([], block.0, refl),
      on,
    )

also_go : (a : Advance) (later new : List Symbol) → also later a ≡ go new → (first : List Symbol) × (a ≡ go first) × (first ++ later ≡ new)
also_go stop later new e = stopped new e
also_go (go first) later new e = (first, refl, sym (new_is (first ++ later) new e))

start_sound : (t : Token) → Sound start t (on_start t)
unfolding on_start tag
start_sound t = by (is_word word.input t) refl
  where
    by : (b : Bool) → is_word word.input t ≡ b
        → Sound start t (cond b (go (name ∷ level ∷ [])) (also (rest at_finish ∷ []) (on_statement t)))
    by true e = in_place start t _ (declared_filled t (is_word_lem word.input t refl e))
    by false e = λ new symbols ts goes fills.
        let first = also_go (on_statement t) (rest at_finish ∷ []) new goes in
        statement_started symbols (t ∷ ts)
        (statement_sound t first.0 (rest at_finish ∷ symbols) ts first.1
        (subst (λ (l : List Symbol). Fills l ts)
        (ap (λ (l : List Symbol). l ++ symbols) (sym first.2) ∙ append_assoc first.0 (rest at_finish ∷ []) symbols) fills))

-- a level word, and what follows it
leveled : (t : Token) (l : Level) → level_tokens l ≡ t ∷ [] → (symbols : List Symbol) (ts : List Token)
    → Fills (exactly word.semicolon ∷ start ∷ symbols) ts → Fills (level ∷ symbols) (t ∷ ts)
unfolding tag
leveled t l is symbols ts (q, r₁, e₁, fq, (a, r₂, e₂, (ds, b, ea), on)) = (
  level_tokens l ++ word.semicolon ∷ (declarations_tokens ds ++ block_tokens b),
  r₂,
  ap (λ (x : List Token). t ∷ x) (e₁ ∙ ap₂ ◌++◌ (told word.semicolon q refl fq) (e₂ ∙ ap (λ (x : List Token). x ++ r₂) ea))
      ∙ ap (λ (x : List Token). (x ++ word.semicolon ∷ (declarations_tokens ds ++ block_tokens b)) ++ r₂) (sym is),
  (l, ds, b, refl),
  on,
)

unleveled : (t : Token) → t ≡ word.semicolon → (symbols : List Symbol) (ts : List Token)
    → Fills (start ∷ symbols) ts → Fills (level ∷ symbols) (t ∷ ts)
unleveled t is symbols ts (a, r₁, e₁, (ds, b, ea), on) = (
  word.semicolon ∷ (declarations_tokens ds ++ block_tokens b),
  r₁,
  ap₂ ◌∷◌ is (e₁ ∙ ap (λ (x : List Token). x ++ r₁) ea),
  (plain, ds, b, refl),
  on,
)

level_sound : (t : Token) → Sound level t (on_level t)
unfolding on_level tag
level_sound t = by (is_word word.settled t) (is_word word.provisional t) (is_word word.semicolon t) refl refl refl
  where
    by : (a b c : Bool) → is_word word.settled t ≡ a → is_word word.provisional t ≡ b → is_word word.semicolon t ≡ c
        → Sound level t (cond (a || b) (go (exactly word.semicolon ∷ start ∷ [])) (cond c (go (start ∷ [])) stop))
    by true b c ea eb ec =
        in_place level t _ (leveled t recipe.settled (ap (λ (x : Token). x ∷ []) (sym (is_word_lem word.settled t refl ea))))
    by false true c ea eb ec =
        in_place level t _ (leveled t recipe.provisional (ap (λ (x : Token). x ∷ []) (sym (is_word_lem word.provisional t refl eb))))
    by false false true ea eb ec = in_place level t _ (unleveled t (is_word_lem word.semicolon t refl ec))
    by false false false ea eb ec = λ new symbols ts stops fills. stopped new stops

advance_sound : (s : Symbol) (t : Token) → Sound s t (advance s t)
advance_sound expr t = expr_sound t
advance_sound statement t = statement_sound t
advance_sound (exactly other) t = expected_sound (exactly other) t (is_word other t) (λ e. (t, refl, e))
advance_sound name t =
    expected_sound name t (is_variable t) (λ e. ((is_variable_lem t e).0, ap (λ (x : Token). x ∷ []) (is_variable_lem t e).1))
advance_sound operator t =
    expected_sound operator t (is_sign t) (λ e. ((is_sign_lem t e).0, ap (λ (x : Token). x ∷ []) (is_sign_lem t e).1))
advance_sound (rest c) t = rest_sound c t
advance_sound start t = start_sound t
advance_sound level t = level_sound t

-- ---- every symbol can be completed

completion : (s : Symbol) → (front : List Token) × Filled s front
completion expr = (word.numeral 0 ∷ [], (constant 0, refl))
completion statement = (word.skip ∷ [], (skip, refl))
completion (exactly t) = (t ∷ [], (t, refl, eq-eqb (tag t) (tag t) refl))
completion name = (word.variable 0 ∷ [], (0, refl))
completion operator = (word.sign Operator.Sum ∷ [], (Operator.Sum, refl))
completion (rest at_else) =
    let whole : List Token = word.else ∷ (block_tokens (one skip) ++ word.end ∷ []) in (whole, ([], whole, refl, inl refl, (one skip, refl)))
completion (rest at_end) = (word.end ∷ [], ([], word.end ∷ [], refl, inl refl, refl))
completion (rest at_finish) = ([], ([], [], refl, inl refl, refl))
completion start = (word.skip ∷ [], ([], one skip, refl))
completion level = (word.semicolon ∷ word.skip ∷ [], (plain, [], one skip, refl))

completed : (symbols : List Symbol) → (ts : List Token) × Fills symbols ts
completed [] = ([], refl)
completed (s ∷ symbols) =
    let first = completion s in
    let others = completed symbols in
    (first.0 ++ others.0, (first.0, others.0, refl, first.1, others.1))

-- ---- where words stop

stuck_is : (a b : List Token) → stuck a ≡ stuck b → a ≡ b
stuck_is a b e = cc

-- the end of a text is no word's place
ended_stuck : (symbols : List Symbol) (here : List Token) → ended symbols ≡ stuck here → here ≡ []
ended_stuck [] here e = clash (cc)
ended_stuck (s ∷ symbols) here e = by (may_end s) e (ended_stuck symbols here)
  where
    by : (b : Bool) → ends_at b (ended symbols) ≡ stuck here → (ended symbols ≡ stuck here → here ≡ []) → here ≡ []
    by true h ih = ih h
    by false h ih = sym (stuck_is [] here h)

-- The words before the place can be completed.
pub viable : (ts : List Token) (symbols : List Symbol) (here : List Token) → run ts symbols ≡ stuck here
    → (before more : List Token) × (ts ≡ before ++ here) × Fills symbols (before ++ more)
unfolding run
viable [] symbols here e =
    ([], (completed symbols).0, sym (ended_stuck symbols here e), (completed symbols).1)
viable (t ∷ ts) [] here e = ([], [], stuck_is (t ∷ ts) here e, refl)
viable (t ∷ ts) (s ∷ symbols) here e = by (advance s t) refl e (viable ts)
  where
    by : (a : Advance) → advance s t ≡ a → onward a (run ts) symbols (t ∷ ts) ≡ stuck here
        → ((k : List Symbol) (h : List Token) → run ts k ≡ stuck h → (before more : List Token) × (ts ≡ before ++ h) × Fills k (before ++ more))
        → (before more : List Token) × (t ∷ ts ≡ before ++ here) × Fills (s ∷ symbols) (before ++ more)
    by stop is h ih = ([], (completed (s ∷ symbols)).0, stuck_is (t ∷ ts) here h, (completed (s ∷ symbols)).1)
    by (go new) is h ih =
        let later = ih (new ++ symbols) here h in (
          t ∷ later.0,
          later.1,
          ap (λ (l : List Token). t ∷ l) later.2,
          advance_sound s t new symbols (later.0 ++ later.1) is later.3,
        )

-- a place is not before the words
stuck_later : (ts : List Token) (symbols : List Symbol) (here : List Token) → run ts symbols ≡ stuck here → length here ≤ length ts
stuck_later ts symbols here e =
    let split = viable ts symbols here e in
    let long : length ts ≡ length split.0 + length here = ap length split.2 ∙ length-append split.0 here in
    omega (arith, long)

-- What comes after the word at the place does not matter.
pub stuck_on : (before : List Token) (t : Token) (after other : List Token) (symbols : List Symbol)
    → run (before ++ t ∷ after) symbols ≡ stuck (t ∷ after) → run (before ++ t ∷ other) symbols ≡ stuck (t ∷ other)
unfolding run
stuck_on [] t after other [] e = refl
stuck_on [] t after other (s ∷ symbols) e = by (advance s t) e
  where
    by : (a : Advance) → onward a (run after) symbols (t ∷ after) ≡ stuck (t ∷ after)
        → onward a (run other) symbols (t ∷ other) ≡ stuck (t ∷ other)
    by stop h = refl
    by (go new) h =
        let long : length (t ∷ after) ≤ length after = stuck_later after (new ++ symbols) (t ∷ after) h in absurd (omega (arith, long))
stuck_on (b ∷ before) t after other [] e =
    let long : length (b ∷ (before ++ t ∷ after)) ≡ length (t ∷ after) = ap length (stuck_is (b ∷ (before ++ t ∷ after)) (t ∷ after) e) in
    let more : length (before ++ t ∷ after) ≡ length before + length (t ∷ after) = length-append before (t ∷ after) in
    absurd (omega (arith, long, more))
stuck_on (b ∷ before) t after other (s ∷ symbols) e = by (advance s b) e (stuck_on before t after other)
  where
    by : (a : Advance) → onward a (run (before ++ t ∷ after)) symbols (b ∷ (before ++ t ∷ after)) ≡ stuck (t ∷ after)
        → ((k : List Symbol) → run (before ++ t ∷ after) k ≡ stuck (t ∷ after) → run (before ++ t ∷ other) k ≡ stuck (t ∷ other))
        → onward a (run (before ++ t ∷ other)) symbols (b ∷ (before ++ t ∷ other)) ≡ stuck (t ∷ other)
    by stop h ih =
        let long : length (b ∷ (before ++ t ∷ after)) ≡ length (t ∷ after) = ap length (stuck_is (b ∷ (before ++ t ∷ after)) (t ∷ after) h) in
        let more : length (before ++ t ∷ after) ≡ length before + length (t ∷ after) = length-append before (t ∷ after) in
        absurd (omega (arith, long, more))
    by (go new) h ih = ih (new ++ symbols) h

-- ---- the faulty word

finished_is : {A : Type 0} (here : List Token) → finished ≡ stuck here → A
finished_is here e = clash (cc)

begun_of : (ts : List Token) → Fills (start ∷ []) ts → (r : Recipe) × (ts ≡ recipe_tokens r)
begun_of ts (front, after, e, (ds, b, ef), none) =
    (record { declarations = ds; block = b }, e ∙ ap (λ (l : List Token). front ++ l) none ∙ append-nil front ∙ ef)

-- two lists with one end have one beginning
same_before : (a b end : List Token) → a ++ end ≡ b ++ end → a ≡ b
same_before [] [] end e = refl
same_before [] (x ∷ b) end e =
    let long : length end ≡ length (x ∷ b) + length end = ap length e ∙ length-append (x ∷ b) end in absurd (omega (arith, long))
same_before (x ∷ a) [] end e =
    let long : length (x ∷ a) + length end ≡ length end = sym (length-append (x ∷ a) end) ∙ ap length e in absurd (omega (arith, long))
same_before (x ∷ a) (y ∷ b) end e =
    ap₂ ◌∷◌ (head-eq_of_cons-eq e) (same_before a b end (tail-eq_of_cons-eq e))

-- Words that are stuck at a rest of them are at fault there.
pub fault : (words before here : List Word) → words ≡ before ++ here → run (tokens words) (start ∷ []) ≡ stuck (tokens here) → Fault words here
fault words before here split stops = record {
  before = before;
  split = split;
  begun = (whole.0, ended'.1, sym whole.1 ∙ ap (λ (l : List Token). l ++ ended'.1) (sym first));
  stuck = λ w after is begun.
      let t : Token = token_of w.bytes in
      let here_is : tokens here ≡ t ∷ tokens after = ap tokens is in
      let stops' : run (tokens before ++ t ∷ tokens after) (start ∷ []) ≡ stuck (t ∷ tokens after) =
      ap (λ (l : List Token). run (tokens before ++ l) (start ∷ [])) (sym here_is)
      ∙ ap (λ (l : List Token). run l (start ∷ [])) (sym tokens_split) ∙ stops ∙ ap stuck here_is in
      finished_is (t ∷ begun.1)
      (sym (run_recipe begun.0) ∙ ap (λ (l : List Token). run l (start ∷ [])) (begun.2 ∙ append_assoc (tokens before) (t ∷ []) begun.1)
      ∙ stuck_on (tokens before) t (tokens after) begun.1 (start ∷ []) stops');
  unfinished = λ r is. finished_is (tokens here) (sym (run_recipe r) ∙ ap (λ (l : List Token). run l (start ∷ [])) (sym is) ∙ stops);
}
  where
    tokens_split : tokens words ≡ tokens before ++ tokens here
    tokens_split = ap tokens split ∙ map-append (λ (w : Word). token_of w.bytes) before here

    ended' : (before' more : List Token) × (tokens words ≡ before' ++ tokens here) × Fills (start ∷ []) (before' ++ more)
    ended' = viable (tokens words) (start ∷ []) (tokens here) stops

    first : tokens before ≡ ended'.0
    first = same_before (tokens before) ended'.0 (tokens here) (sym tokens_split ∙ ended'.2)

    whole : (r : Recipe) × (ended'.0 ++ ended'.1 ≡ recipe_tokens r)
    whole = begun_of (ended'.0 ++ ended'.1) ended'.3
