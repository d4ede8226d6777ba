-- What a number at the front of a text is, and the digits that a number is written with.
-- 9.2: A number is written in decimal digits, and none but 0 itself begins with 0.
use Rattle.std.specs.Prelude.{ℕ, zero, suc, ◌+◌, ◌-◌, ◌*◌, ◌/◌, ◌%◌, min, Bool, true, false, ◌&&◌, List, [], ◌∷◌, ◌++◌, eqb, leb, ltb}
use Rattle.lines.specs.Limits.{most_word}

-- the digits' bytes, "0" to "9"
abbrev pub zero_byte : ℕ
zero_byte = 48

abbrev pub nine_byte : ℕ
nine_byte = 57

unfoldable pub is_digit : ℕ → Bool
is_digit byte = leb zero_byte byte && leb byte nine_byte

-- Every number over the most that any line allows is out of range alike, whatever its length, and reads as this one.
-- 9.8: Refusal 8, at the line: a number is over the most that its line allows, which is 4,294,967,295 where nothing else is
-- said.
abbrev pub beyond : ℕ
beyond = most_word + 1

-- What stands at the front of a text: a number and the text after it, or none.
pub data Number : Type 0 where
  no_number : Number
  number : ℕ → List ℕ → Number

-- The value of the digits so far goes on over a digit; any other byte ends the number.
unfoldable pub on_byte : Bool → (ℕ → Number) → ℕ → ℕ → List ℕ → Number
on_byte true more value byte text = more (value * 10 + (byte - zero_byte))
on_byte false more value byte text = number (min value beyond) (byte ∷ text)

unfoldable pub digits_on : List ℕ → ℕ → Number
digits_on [] value = number (min value beyond) []
digits_on (byte ∷ text) value = on_byte (is_digit byte) (digits_on text) value byte text

-- A number that begins with 0 ends there.
-- 9.2: .. none but 0 itself begins with 0.
unfoldable pub begun : Bool → Bool → ℕ → List ℕ → Number
begun true digit byte text = number 0 text
begun false true byte text = digits_on text (byte - zero_byte)
begun false false byte text = no_number

unfoldable pub number_at : List ℕ → Number
number_at [] = no_number
number_at (byte ∷ text) = begun (eqb byte zero_byte) (is_digit byte) byte text

-- The digits of a number: those of its tenth, unless that is 0, and its last.
unfoldable pub higher : Bool → (ℕ → List ℕ) → ℕ → List ℕ
higher true digits n = []
higher false digits n = digits (n / 10)

unfoldable pub decimal_in : ℕ → ℕ → List ℕ
decimal_in zero n = []
decimal_in (suc most) n = higher (ltb n 10) (decimal_in most) n ++ ((zero_byte + n % 10) ∷ [])

-- a number has no more digits than its value and one
unfoldable pub decimal : ℕ → List ℕ
decimal n = decimal_in (suc n) n
