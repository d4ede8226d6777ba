-- The words of a text, each with the place at which it starts.
use Rattle.std.specs.Prelude.{ℕ, ◌+◌, Bool, true, false, ◌&&◌, ◌||◌, List, [], ◌∷◌, eqb, leb}
use Rattle.lines.specs.Numbers.{is_digit}

-- 13.1: .. a space or an LF is in no word.
unfoldable pub is_blank : ℕ → Bool
is_blank byte = eqb byte 32 || eqb byte 10

-- 13.2: A letter, A to Z or a to z, ..
unfoldable pub is_letter : ℕ → Bool
is_letter byte = (leb 65 byte && leb byte 90) || (leb 97 byte && leb byte 122)

-- a letter or a digit
unfoldable pub is_joining : ℕ → Bool
is_joining byte = is_letter byte || is_digit byte

pub record Word : Type 0 where
  pub start : ℕ
  pub bytes : List ℕ

abbrev pub word : ℕ → List ℕ → Word
word start bytes = record { start = start; bytes = bytes }

-- the text begins with a letter or a digit
unfoldable pub joins : List ℕ → Bool
joins [] = false
joins (byte ∷ text) = is_joining byte

-- the first word, with a byte before it
unfoldable pub grown : ℕ → ℕ → List Word → List Word
grown at byte [] = word at (byte ∷ []) ∷ []
grown at byte (first ∷ words) = word at (byte ∷ first.bytes) ∷ words

-- The words of a text from its byte at a place on, from those after it.
-- 13.1: .. a space or an LF is in no word.
-- 13.2: A letter, A to Z or a to z, or a digit that stands next to another is in one word with it; every other byte is a
-- word by itself.
unfoldable pub on_byte : Bool → Bool → ℕ → ℕ → List Word → List Word
on_byte true joined at byte words = words
on_byte false true at byte words = grown at byte words
on_byte false false at byte words = word at (byte ∷ []) ∷ words

-- the words of a text whose first byte has the place at
unfoldable pub words_from : ℕ → List ℕ → List Word
words_from at [] = []
words_from at (byte ∷ text) = on_byte (is_blank byte) (is_joining byte && joins text) at byte (words_from (at + 1) text)
