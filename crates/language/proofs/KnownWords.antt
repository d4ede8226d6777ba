-- Every variable among the words of a text is one of the 32.
use Prim.Native.Nat.{ℕ, ◌-◌, ◌≤◌, ◌<◌}
use native.Mathlib.Omega.{arith}
use mathlib.Core.Bool.{Bool, true, false, cond}
use mathlib.Core.List.{List, [], ◌∷◌, ◌++◌}
use mathlib.Core.Path.{◌≡◌, refl, subst}
use lib.Dec.{eqb, leb}
use borrow.Author.Tests.{leb-true}
use Rattle.rules.specs.Limits.{width}
use Rattle.lines.specs.Limits.{most_word}
use Rattle.lines.specs.Numbers.{Number, no_number, number, number_at}
use Rattle.language.specs.Words.{Word}
use Rattle.language.specs.Tokens.{Token, skip, set, if, then, else, end, while, doing, settled, provisional, input, opening, closing, semicolon, sign, variable, numeral, unknown, Spelling, fixed, same, whole_number, counted, among, token_of, tokens}
use Rattle.language.specs.Recipes.{Recipe, declarations_tokens, block_tokens}
use Rattle.language.specs.Readings.{words_of, Is}

abbrev pub Known : Token → Type 0
Known skip = Unit {0}
Known set = Unit {0}
Known if = Unit {0}
Known then = Unit {0}
Known else = Unit {0}
Known end = Unit {0}
Known while = Unit {0}
Known doing = Unit {0}
Known settled = Unit {0}
Known provisional = Unit {0}
Known input = Unit {0}
Known opening = Unit {0}
Known closing = Unit {0}
Known semicolon = Unit {0}
Known (sign o) = Unit {0}
Known (variable v) = v < width
Known (numeral value) = Unit {0}
Known unknown = Unit {0}

abbrev pub AllKnown : List Token → Type 0
AllKnown [] = Unit {0}
AllKnown (t ∷ ts) = Known t × AllKnown ts

pub known_first : (a b : List Token) → AllKnown (a ++ b) → AllKnown a
known_first [] b all = tt
known_first (t ∷ a) b all = (all.0, known_first a b all.1)

pub known_rest : (a b : List Token) → AllKnown (a ++ b) → AllKnown b
known_rest [] b all = all
known_rest (t ∷ a) b all = known_rest a b all.1

-- ---- the words of a text

abbrev KnownSpellings : List Spelling → Type 0
KnownSpellings [] = Unit {0}
KnownSpellings (s ∷ spellings) = Known s.token × KnownSpellings spellings

either : (b : Bool) (t u : Token) → (b ≡ true → Known t) → Known u → Known (cond b t u)
either true t u first second = first refl
either false t u first second = second

whole_known : (most : ℕ) (made : ℕ → Token) → ((v : ℕ) → v ≤ most → Known (made v)) → (n : Number) → Known (whole_number most made n)
unfolding whole_number
whole_known most made each no_number = tt
whole_known most made each (number value []) = either (leb value most) (made value) unknown (λ h. each value (leb-true value most h)) tt
whole_known most made each (number value (byte ∷ rest)) = tt

counted_known : (bytes : List ℕ) → Known (counted bytes)
unfolding counted
counted_known [] = tt
counted_known (byte ∷ rest) =
    either (eqb byte 118) _ _ (λ h. whole_known (width - 1) variable (λ v low. omega arith) (number_at rest))
    (whole_known most_word numeral (λ v low. tt) (number_at (byte ∷ rest)))

among_known : (spellings : List Spelling) (bytes : List ℕ) → KnownSpellings spellings → Known (among spellings bytes)
unfolding among
among_known [] bytes all = counted_known bytes
among_known (s ∷ spellings) bytes all =
    either (same s.bytes bytes) s.token _ (λ h. all.0) (among_known spellings bytes all.1)

fixed_known : KnownSpellings fixed
unfolding fixed
fixed_known = omega arith

pub tokens_known : (words : List Word) → AllKnown (tokens words)
unfolding token_of
tokens_known [] = tt
tokens_known (w ∷ words) = (among_known fixed w.bytes fixed_known, tokens_known words)

pub text_known : (text : List ℕ) (r : Recipe) → Is text r → AllKnown (block_tokens r.block)
text_known text r is =
    known_rest (declarations_tokens r.declarations) (block_tokens r.block) (subst AllKnown is (tokens_known (words_of text)))
