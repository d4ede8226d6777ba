-- What a word is.
use Rattle.std.specs.Prelude.{ℕ, ◌-◌, Bool, true, false, cond, ◌&&◌, List, [], ◌∷◌, map, eqb, leb}
use Rattle.rules.specs.declared.Operator.{Operator}
use Rattle.rules.specs.Limits.{width}
use Rattle.lines.specs.Limits.{most_word}
use Rattle.lines.specs.Numbers.{Number, no_number, number, number_at}
use Rattle.language.specs.Words.{Word}

pub data Token : Type 0 where
  skip : Token
  set : Token
  if : Token
  then : Token
  else : Token
  end : Token
  while : Token
  doing : Token
  settled : Token
  provisional : Token
  input : Token
  opening : Token
  closing : Token
  semicolon : Token
  sign : Operator → Token
  variable : ℕ → Token
  numeral : ℕ → Token
  unknown : Token

-- a word that is always written the same, and what it is
pub record Spelling : Type 0 where
  pub bytes : List ℕ
  pub token : Token

abbrev spelled : List ℕ → Token → Spelling
spelled bytes token = record { bytes = bytes; token = token }

-- 13.3: These words are always written the same: `skip`, `set`, `if`, `then`, `else`, `end`, `while`, `do`, `settled`,
-- `provisional`, `in`, `(`, `)`, `;`, and the operators `+`, `-`, `*`, `/`, `=` and `<`, in the order of their numbers.
unfoldable pub fixed : List Spelling
fixed =
    -- skip set if then else end while do settled provisional in
    spelled (115 ∷ 107 ∷ 105 ∷ 112 ∷ []) skip
    ∷ spelled (115 ∷ 101 ∷ 116 ∷ []) set
    ∷ spelled (105 ∷ 102 ∷ []) if
    ∷ spelled (116 ∷ 104 ∷ 101 ∷ 110 ∷ []) then
    ∷ spelled (101 ∷ 108 ∷ 115 ∷ 101 ∷ []) else
    ∷ spelled (101 ∷ 110 ∷ 100 ∷ []) end
    ∷ spelled (119 ∷ 104 ∷ 105 ∷ 108 ∷ 101 ∷ []) while
    ∷ spelled (100 ∷ 111 ∷ []) doing
    ∷ spelled (115 ∷ 101 ∷ 116 ∷ 116 ∷ 108 ∷ 101 ∷ 100 ∷ []) settled
    ∷ spelled (112 ∷ 114 ∷ 111 ∷ 118 ∷ 105 ∷ 115 ∷ 105 ∷ 111 ∷ 110 ∷ 97 ∷ 108 ∷ []) provisional
    ∷ spelled (105 ∷ 110 ∷ []) input
    -- ( ) ; + - * / = <
    ∷ spelled (40 ∷ []) opening
    ∷ spelled (41 ∷ []) closing
    ∷ spelled (59 ∷ []) semicolon
    ∷ spelled (43 ∷ []) (sign Operator.Sum)
    ∷ spelled (45 ∷ []) (sign Operator.Difference)
    ∷ spelled (42 ∷ []) (sign Operator.Product)
    ∷ spelled (47 ∷ []) (sign Operator.Quotient)
    ∷ spelled (61 ∷ []) (sign Operator.Equal)
    ∷ spelled (60 ∷ []) (sign Operator.Less)
    ∷ []

unfoldable pub same : List ℕ → List ℕ → Bool
same [] [] = true
same [] (byte ∷ bytes) = false
same (letter ∷ letters) [] = false
same (letter ∷ letters) (byte ∷ bytes) = eqb letter byte && same letters bytes

-- 13.4: A word of digits is a number, where it is at most 4,294,967,295 and none but 0 itself begins with 0; ..
unfoldable pub whole_number : ℕ → (ℕ → Token) → Number → Token
whole_number most made no_number = unknown
whole_number most made (number value []) = cond (leb value most) (made value) unknown
whole_number most made (number value (byte ∷ rest)) = unknown

-- 13.4: A word of digits is a number, where it is at most 4,294,967,295 and none but 0 itself begins with 0; `v` with such
-- a number up to 31 after it is a variable; every other word is unknown.
unfoldable pub counted : List ℕ → Token
counted [] = unknown
counted (byte ∷ rest) =
    cond (eqb byte 118) (whole_number (width - 1) variable (number_at rest)) (whole_number most_word numeral (number_at (byte ∷ rest)))

-- What is written otherwise than any of the spellings is told by its number.
unfoldable pub among : List Spelling → List ℕ → Token
among [] bytes = counted bytes
among (s ∷ spellings) bytes = cond (same s.bytes bytes) s.token (among spellings bytes)

unfoldable pub token_of : List ℕ → Token
token_of bytes = among fixed bytes

abbrev pub tokens : List Word → List Token
tokens words = map (λ (w : Word). token_of w.bytes) words
