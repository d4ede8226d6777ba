-- Texts at fault, worked.
use mathlib.Core.List.{List, [], ◌∷◌, ◌++◌, append-nil, cons-ne-nil, head-eq_of_cons-eq}
use mathlib.Core.Path.{◌≡◌, refl, sym, ap, ◌∙◌}
use Rattle.lines.specs.Numbers.{is_digit}
use Rattle.language.specs.Words as words
use Rattle.language.specs.Words.{Word, is_blank, is_letter, is_joining, joins, grown, words_from}
use Rattle.language.specs.Tokens as word
use Rattle.language.specs.Tokens.{Token, fixed, same, among, token_of}
use Rattle.language.specs.Recipes.{Statement, skip, set, if, while, Block, one, more, Declaration, statement_tokens, block_tokens, declarations_tokens}
use Rattle.language.specs.Recipes as recipe
use Rattle.language.specs.Readings.{Begun}
use Rattle.language.specs.Cases.{FaultsFound}
use Rattle.language.proofs.Unambiguous.{clash}

-- ---- no recipe begins with `)`, and none is no words

not_closing : (s : Statement) (x y : List Token) → statement_tokens s ++ x ≡ word.closing ∷ y → ⊥
not_closing skip x y h = clash (cc)
not_closing (set v e) x y h = clash (cc)
not_closing (if e s t) x y h = clash (cc)
not_closing (while e s) x y h = clash (cc)
not_closing (recipe.settled e) x y h = clash (cc)
not_closing (recipe.provisional e) x y h = clash (cc)

nothing : (s : Statement) (x : List Token) → statement_tokens s ++ x ≡ [] → ⊥
nothing skip x h = cons-ne-nil _ _ h
nothing (set v e) x h = cons-ne-nil _ _ h
nothing (if e s t) x h = cons-ne-nil _ _ h
nothing (while e s) x h = cons-ne-nil _ _ h
nothing (recipe.settled e) x h = cons-ne-nil _ _ h
nothing (recipe.provisional e) x h = cons-ne-nil _ _ h

closing_first : (ds : List Declaration) (b : Block) (y : List Token) → declarations_tokens ds ++ block_tokens b ≡ word.closing ∷ y → ⊥
closing_first [] (one s) y h = not_closing s [] y (append-nil (statement_tokens s) ∙ h)
closing_first [] (more s b) y h = not_closing s _ y h
closing_first (d ∷ ds) b y h = clash (cc)

some : (ds : List Declaration) (b : Block) → declarations_tokens ds ++ block_tokens b ≡ [] → ⊥
some [] (one s) h = nothing s [] (append-nil (statement_tokens s) ∙ h)
some [] (more s b) h = nothing s _ h
some (d ∷ ds) b h = cons-ne-nil _ _ h

-- ---- the texts

begun : Begun []
begun = (record { declarations = []; block = one skip }, word.skip ∷ [], refl)

closing : token_of (41 ∷ []) ≡ word.closing
unfolding token_of among fixed same
closing = refl

pub faults_found : FaultsFound
unfolding is_digit is_blank is_letter is_joining joins grown words.on_byte words_from
faults_found = (
  record {
    before = [];
    split = refl;
    begun = begun;
    stuck = λ w after e b. closing_first b.0.declarations b.0.block b.1 (b.2 ∙ ap (λ (t : Token). t ∷ b.1) (is w after e));
    unfinished = λ r e. closing_first r.declarations r.block [] (sym e ∙ ap (λ (t : Token). t ∷ []) closing);
  },
  record {
    before = [];
    split = refl;
    begun = begun;
    stuck = λ w after e b. cons-ne-nil w after (sym e);
    unfinished = λ r e. some r.declarations r.block (sym e);
  },
)
  where
    is : (w : Word) (after : List Word) → words.word 0 (41 ∷ []) ∷ [] ≡ w ∷ after → token_of w.bytes ≡ word.closing
    is w after e = ap (λ (v : Word). token_of v.bytes) (sym (head-eq_of_cons-eq e)) ∙ closing
