-- The marks of declarations, none of which declares a variable again: the variables that they make provisional.
use Prim.Native.Nat.{ℕ, zero, suc}
use mathlib.Core.Bool.{Bool, true, false, ◌&&◌, ◌||◌, true≢false}
use mathlib.Core.List.{List, [], ◌∷◌, ◌++◌, append_assoc, cons-ne-nil, tail-eq_of_cons-eq}
use mathlib.Core.Path.{◌≡◌, refl, sym, ap, ap₂, ◌∙◌}
use lib.Dec.{eqb}
use lib.ListN.{length, drop}
use lib.Seq.{drop-append_seam}
use borrow.Author.Tests.{eqb-true, eqb-false}
use Rattle.rules.specs.Marks.{none, has, put}
use Rattle.rules.proofs.MarkLaws.{has_put_same, has_put_other, has_none}
use Rattle.language.specs.Words.{Word}
use Rattle.language.specs.Tokens.{Token, tokens}
use Rattle.language.specs.Tokens as word
use Rattle.language.specs.Recipes.{Declaration, Recipe, level_tokens, declaration_tokens, declarations_tokens, block_tokens}
use Rattle.language.specs.Tables.{makes_provisional, marks_from, marks_of, is_declared_provisional}
use Rattle.language.specs.Readings.{words_of, Is, on_declared, repeated}

drop_tokens : (n : ℕ) (words : List Word) → tokens (drop n words) ≡ drop n (tokens words)
drop_tokens zero words = refl
drop_tokens (suc n) [] = refl
drop_tokens (suc n) (w ∷ words) = drop_tokens n words

-- the words of a declaration are two at least
two : (words : List Word) (t u : Token) (rest : List Token) → tokens words ≡ t ∷ u ∷ rest → drop 1 words ≡ [] → ⊥
two [] t u rest e none = cons-ne-nil t (u ∷ rest) (sym e)
two (w ∷ []) t u rest e none = cons-ne-nil u rest (sym (tail-eq_of_cons-eq e))
two (w ∷ v ∷ words) t u rest e none = cons-ne-nil v words none

-- Marks of a variable that was not declared before are those of its declaration, if there is one.
marks_from_lem : (meant : Bool) (ds : List Declaration) (seen marks : ℕ) (words : List Word) (rest : List Token)
    → tokens words ≡ declarations_tokens ds ++ rest → repeated seen ds words ≡ [] → ((v : ℕ) → has seen v ≡ false → has marks v ≡ false)
    → (v : ℕ) → has (marks_from meant marks ds) v ≡ (has marks v || is_declared_provisional meant v ds)
unfolding marks_from is_declared_provisional repeated on_declared
marks_from_lem meant [] seen marks words rest is once low v = or-false (has marks v)
  where
    or-false : (b : Bool) → b ≡ (b || false)
    or-false true = refl
    or-false false = refl
marks_from_lem meant (d ∷ ds) seen marks words rest is once low v =
    by (has seen d.variable) refl
    (λ again. marks_from_lem meant ds (put d.variable true seen) (put d.variable bit marks) further rest next again (λ u. still u (eqb u d.variable) refl) v)
  where
    bit : Bool
    bit = makes_provisional meant d.level

    further : List Word
    further = drop (length (declaration_tokens d)) words

    all : tokens words ≡ declaration_tokens d ++ (declarations_tokens ds ++ rest)
    all = is ∙ append_assoc (declaration_tokens d) (declarations_tokens ds) rest

    next : tokens further ≡ declarations_tokens ds ++ rest
    next = drop_tokens (length (declaration_tokens d)) words ∙ ap (drop (length (declaration_tokens d))) all ∙ drop-append_seam (declaration_tokens d) (declarations_tokens ds ++ rest)

    -- a variable that is not among those declared up to here is not marked
    still : (u : ℕ) (b : Bool) → eqb u d.variable ≡ b → has (put d.variable true seen) u ≡ false → has (put d.variable bit marks) u ≡ false
    still u true e f =
        let here : u ≡ d.variable = eqb-true u d.variable e in
        absurd (true≢false (sym (has_put_same d.variable true seen) ∙ ap (has (put d.variable true seen)) (sym here) ∙ f))
    still u false e f =
        let other = eqb-false u d.variable e in
        has_put_other d.variable u bit marks other ∙ low u (sym (has_put_other d.variable u true seen other) ∙ f)

    -- what this declaration does to a variable
    this : (p b : Bool) → eqb v d.variable ≡ b → has seen d.variable ≡ false
        → (has (put d.variable bit marks) v || p) ≡ (has marks v || ((eqb v d.variable && bit) || p))
    this p true e new =
        let here : v ≡ d.variable = eqb-true v d.variable e in
        let before : has marks v ≡ false = ap (has marks) here ∙ low d.variable new in
        let after : has (put d.variable bit marks) v ≡ bit = ap (has (put d.variable bit marks)) here ∙ has_put_same d.variable bit marks in
        ap (λ (x : Bool). x || p) after ∙ sym (ap₂ (λ (x y : Bool). x || ((y && bit) || p)) before e)
    this p false e new =
        ap (λ (x : Bool). x || p) (has_put_other d.variable v bit marks (eqb-false v d.variable e))
        ∙ sym (ap (λ (y : Bool). has marks v || ((y && bit) || p)) e)

    by : (b : Bool) → has seen d.variable ≡ b
        → (repeated (put d.variable true seen) ds further ≡ []
        → has (marks_from meant (put d.variable bit marks) ds) v ≡ (has (put d.variable bit marks) v || is_declared_provisional meant v ds))
        → has (marks_from meant (put d.variable bit marks) ds) v ≡ (has marks v || ((eqb v d.variable && bit) || is_declared_provisional meant v ds))
    by true old more =
        absurd
        (two words word.input (word.variable d.variable) ((level_tokens d.level ++ word.semicolon ∷ []) ++ (declarations_tokens ds ++ rest))
        all
        (sym (ap (λ (b : Bool). on_declared b (drop 1 words) (repeated (put d.variable true seen) ds further)) old) ∙ once))
    by false new more =
        more (sym (ap (λ (b : Bool). on_declared b (drop 1 words) (repeated (put d.variable true seen) ds further)) new) ∙ once)
        ∙ this (is_declared_provisional meant v ds) (eqb v d.variable) refl new

pub marks_declared : (meant : Bool) (text : List ℕ) (r : Recipe) → Is text r → repeated none r.declarations (words_of text) ≡ []
    → (v : ℕ) → has (marks_of meant r.declarations) v ≡ is_declared_provisional meant v r.declarations
unfolding marks_of
marks_declared meant text r is once v =
    marks_from_lem meant r.declarations none none (words_of text) (block_tokens r.block) is once (λ u e. e) v
    ∙ ap (λ (b : Bool). b || is_declared_provisional meant v r.declarations) (has_none v)
