-- The keys of the words that are always written the same.
use native.Mathlib.Omega.{arith}
use mathlib.Core.Bool.{true}
use mathlib.Core.List.{[], ◌∷◌}
use mathlib.Core.Path.{◌≡◌, refl, ap, ◌∙◌}
use borrow.Author.Tests.{leb-true, ne_eqb}
use Rattle.rules.specs.declared.Operator.{Operator}
use Rattle.lines.specs.Numbers.{is_digit}
use Rattle.language.specs.Words.{is_letter, is_joining}
use Rattle.language.specs.Tokens as word
use Rattle.language.specs.Tokens.{Token, fixed, same, counted, among, token_of}
use Rattle.rules.specs.Trees.{operator_number}
use Rattle.reader.specs.Machine.{tag}
use Rattle.reader.specs.Statements.{one_word, Spells}
use Rattle.reader.proofs.FaultLaws.{is_fixed}
use Rattle.reader.proofs.KeyLaws.{spelling, key_test, same_is}

spells : (t : Token) → is_fixed t ≡ true → token_of (spelling t) ≡ t → one_word (spelling t) ≡ true → Spells (spelling t) t
unfolding token_of among fixed same counted tag
spells t fix written one =
    record {
      one = one;
      told = key_test t fix written;
      is = λ bytes h. ap token_of (same_is (spelling t) bytes h) ∙ written;
      some =
          key_test t fix written []
          ∙ ne_eqb 40 (tag t) (λ e. let low = leb-true (tag t) 25 fix in omega arith);
    }

pub spells_skip : Spells (115 ∷ 107 ∷ 105 ∷ 112 ∷ []) word.skip
unfolding spelling token_of among fixed same tag is_joining is_letter is_digit
spells_skip = spells word.skip refl refl refl

pub spells_set : Spells (115 ∷ 101 ∷ 116 ∷ []) word.set
unfolding spelling token_of among fixed same tag is_joining is_letter is_digit
spells_set = spells word.set refl refl refl

pub spells_if : Spells (105 ∷ 102 ∷ []) word.if
unfolding spelling token_of among fixed same tag is_joining is_letter is_digit
spells_if = spells word.if refl refl refl

pub spells_then : Spells (116 ∷ 104 ∷ 101 ∷ 110 ∷ []) word.then
unfolding spelling token_of among fixed same tag is_joining is_letter is_digit
spells_then = spells word.then refl refl refl

pub spells_else : Spells (101 ∷ 108 ∷ 115 ∷ 101 ∷ []) word.else
unfolding spelling token_of among fixed same tag is_joining is_letter is_digit
spells_else = spells word.else refl refl refl

pub spells_end : Spells (101 ∷ 110 ∷ 100 ∷ []) word.end
unfolding spelling token_of among fixed same tag is_joining is_letter is_digit
spells_end = spells word.end refl refl refl

pub spells_while : Spells (119 ∷ 104 ∷ 105 ∷ 108 ∷ 101 ∷ []) word.while
unfolding spelling token_of among fixed same tag is_joining is_letter is_digit
spells_while = spells word.while refl refl refl

pub spells_doing : Spells (100 ∷ 111 ∷ []) word.doing
unfolding spelling token_of among fixed same tag is_joining is_letter is_digit
spells_doing = spells word.doing refl refl refl

pub spells_settled : Spells (115 ∷ 101 ∷ 116 ∷ 116 ∷ 108 ∷ 101 ∷ 100 ∷ []) word.settled
unfolding spelling token_of among fixed same tag is_joining is_letter is_digit
spells_settled = spells word.settled refl refl refl

pub spells_provisional : Spells (112 ∷ 114 ∷ 111 ∷ 118 ∷ 105 ∷ 115 ∷ 105 ∷ 111 ∷ 110 ∷ 97 ∷ 108 ∷ []) word.provisional
unfolding spelling token_of among fixed same tag is_joining is_letter is_digit
spells_provisional = spells word.provisional refl refl refl

pub spells_semicolon : Spells (59 ∷ []) word.semicolon
unfolding spelling token_of among fixed same tag is_joining is_letter is_digit
spells_semicolon = spells word.semicolon refl refl refl

pub spells_input : Spells (105 ∷ 110 ∷ []) word.input
unfolding spelling token_of among fixed same tag is_joining is_letter is_digit
spells_input = spells word.input refl refl refl

pub spells_opening : Spells (40 ∷ []) word.opening
unfolding spelling token_of among fixed same tag is_joining is_letter is_digit
spells_opening = spells word.opening refl refl refl

pub spells_closing : Spells (41 ∷ []) word.closing
unfolding spelling token_of among fixed same tag is_joining is_letter is_digit
spells_closing = spells word.closing refl refl refl

pub spells_sign : (o : Operator) → Spells (spelling (word.sign o)) (word.sign o)
unfolding spelling token_of among fixed same tag operator_number
spells_sign Operator.Sum = spells (word.sign Operator.Sum) refl refl refl
spells_sign Operator.Difference = spells (word.sign Operator.Difference) refl refl refl
spells_sign Operator.Product = spells (word.sign Operator.Product) refl refl refl
spells_sign Operator.Quotient = spells (word.sign Operator.Quotient) refl refl refl
spells_sign Operator.Equal = spells (word.sign Operator.Equal) refl refl refl
spells_sign Operator.Less = spells (word.sign Operator.Less) refl refl refl

pub spells_equal : Spells (61 ∷ []) (word.sign Operator.Equal)
unfolding spelling
spells_equal = spells_sign Operator.Equal
