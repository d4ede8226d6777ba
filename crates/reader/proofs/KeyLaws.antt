-- Words that are always written the same: whether a word is one of them is told by its bytes.
use Prim.Native.Nat.{ℕ, ◌-◌}
use mathlib.Core.Bool.{Bool, true, false, cond, ◌&&◌}
use mathlib.Core.List.{List, [], ◌∷◌}
use mathlib.Core.Path.{◌≡◌, refl, sym, ap, ap₂, ◌∙◌}
use lib.Dec.{eqb, leb}
use borrow.Author.Tests.{eqb-true, eq-eqb}
use Rattle.rules.specs.declared.Operator.{Operator}
use Rattle.rules.specs.Limits.{width}
use Rattle.lines.specs.Limits.{most_word}
use Rattle.lines.specs.Numbers.{Number, no_number, number, number_at}
use Rattle.language.specs.Tokens as word
use Rattle.language.specs.Tokens.{Token, Spelling, fixed, same, whole_number, counted, among, token_of}
use Rattle.language.proofs.Unambiguous.{clash}
use Rattle.reader.specs.Machine.{tag, is_word}
use Rattle.reader.proofs.FaultLaws.{is_fixed, is_word_lem}

-- ---- the same bytes

pub same_is : (key bytes : List ℕ) → same key bytes ≡ true → bytes ≡ key
unfolding same
same_is [] [] h = refl
same_is [] (byte ∷ bytes) h = clash (cc)
same_is (letter ∷ key) [] h = clash (cc)
same_is (letter ∷ key) (byte ∷ bytes) h = by (eqb letter byte) (same key bytes) refl refl h (same_is key bytes)
  where
    by : (a b : Bool) → eqb letter byte ≡ a → same key bytes ≡ b → (a && b) ≡ true → (same key bytes ≡ true → bytes ≡ key)
        → byte ∷ bytes ≡ letter ∷ key
    by true true ea eb e ih = ap₂ ◌∷◌ (sym (eqb-true letter byte ea)) (ih eb)
    by true false ea eb e ih = clash (cc)
    by false b ea eb e ih = clash (cc)

-- ---- how each is written

unfoldable pub spelling : Token → List ℕ
spelling word.skip = 115 ∷ 107 ∷ 105 ∷ 112 ∷ []
spelling word.set = 115 ∷ 101 ∷ 116 ∷ []
spelling word.if = 105 ∷ 102 ∷ []
spelling word.then = 116 ∷ 104 ∷ 101 ∷ 110 ∷ []
spelling word.else = 101 ∷ 108 ∷ 115 ∷ 101 ∷ []
spelling word.end = 101 ∷ 110 ∷ 100 ∷ []
spelling word.while = 119 ∷ 104 ∷ 105 ∷ 108 ∷ 101 ∷ []
spelling word.doing = 100 ∷ 111 ∷ []
spelling word.settled = 115 ∷ 101 ∷ 116 ∷ 116 ∷ 108 ∷ 101 ∷ 100 ∷ []
spelling word.provisional = 112 ∷ 114 ∷ 111 ∷ 118 ∷ 105 ∷ 115 ∷ 105 ∷ 111 ∷ 110 ∷ 97 ∷ 108 ∷ []
spelling word.input = 105 ∷ 110 ∷ []
spelling word.opening = 40 ∷ []
spelling word.closing = 41 ∷ []
spelling word.semicolon = 59 ∷ []
spelling (word.sign Operator.Sum) = 43 ∷ []
spelling (word.sign Operator.Difference) = 45 ∷ []
spelling (word.sign Operator.Product) = 42 ∷ []
spelling (word.sign Operator.Quotient) = 47 ∷ []
spelling (word.sign Operator.Equal) = 61 ∷ []
spelling (word.sign Operator.Less) = 60 ∷ []
spelling (word.variable v) = []
spelling (word.numeral n) = []
spelling word.unknown = []

abbrev Spelled : List Spelling → Type 0
Spelled [] = Unit {0}
Spelled (s ∷ spellings) = (spelling s.token ≡ s.bytes) × Spelled spellings

fixed_spelled : Spelled fixed
unfolding fixed spelling
fixed_spelled =
    (refl, (refl, (refl, (refl, (refl, (refl, (refl, (refl, (refl, (refl, (refl, (refl, (refl, (refl, (refl, (refl, (refl, (refl, (refl, (refl, tt))))))))))))))))))))

-- a word that counts is written in many ways
whole_unfixed : (most : ℕ) (made : ℕ → Token) → ((n : ℕ) → is_fixed (made n) ≡ false) → (found : Number) → is_fixed (whole_number most made found) ≡ false
unfolding whole_number tag
whole_unfixed most made free no_number = refl
whole_unfixed most made free (number value []) = by (leb value most)
  where
    by : (b : Bool) → is_fixed (cond b (made value) word.unknown) ≡ false
    by true = free value
    by false = refl
whole_unfixed most made free (number value (byte ∷ rest)) = refl

counted_unfixed : (bytes : List ℕ) → is_fixed (counted bytes) ≡ false
unfolding counted tag
counted_unfixed [] = refl
counted_unfixed (byte ∷ rest) = by (eqb byte 118)
  where
    by : (b : Bool)
        → is_fixed (cond b (whole_number (width - 1) word.variable (number_at rest)) (whole_number most_word word.numeral (number_at (byte ∷ rest)))) ≡ false
    by true = whole_unfixed (width - 1) word.variable (λ n. refl) (number_at rest)
    by false = whole_unfixed most_word word.numeral (λ n. refl) (number_at (byte ∷ rest))

among_spelled : (spellings : List Spelling) → Spelled spellings → (bytes : List ℕ) → is_fixed (among spellings bytes) ≡ true
    → same (spelling (among spellings bytes)) bytes ≡ true
unfolding among
among_spelled [] none bytes h = clash (cc (counted_unfixed bytes))
among_spelled (s ∷ spellings) (here, others) bytes h = by (same s.bytes bytes) refl h (among_spelled spellings others bytes)
  where
    by : (b : Bool) → same s.bytes bytes ≡ b → is_fixed (cond b s.token (among spellings bytes)) ≡ true
        → (is_fixed (among spellings bytes) ≡ true → same (spelling (among spellings bytes)) bytes ≡ true)
        → same (spelling (cond b s.token (among spellings bytes))) bytes ≡ true
    by true is fixed' ih = ap (λ (l : List ℕ). same l bytes) here ∙ is
    by false is fixed' ih = ih fixed'

-- The law: a word's bytes are those of a word that is always written the same exactly where it is that word.
pub key_test : (t : Token) → is_fixed t ≡ true → token_of (spelling t) ≡ t → (bytes : List ℕ)
    → same (spelling t) bytes ≡ is_word t (token_of bytes)
unfolding token_of
key_test t fix spells bytes = by (same (spelling t) bytes) (is_word t (token_of bytes)) refl refl
  where
    by : (a b : Bool) → same (spelling t) bytes ≡ a → is_word t (token_of bytes) ≡ b → a ≡ b
    by true true ea eb = refl
    by false false ea eb = refl
    by true false ea eb =
        let is : token_of bytes ≡ t = ap token_of (same_is (spelling t) bytes ea) ∙ spells in
        sym (eq-eqb (tag (token_of bytes)) (tag t) (ap tag is)) ∙ eb
    by false true ea eb =
        let is : token_of bytes ≡ t = is_word_lem t (token_of bytes) fix eb in
        sym ea ∙ ap (λ (x : Token). same (spelling x) bytes) (sym is)
        ∙ among_spelled fixed fixed_spelled bytes (ap is_fixed is ∙ fix)
