-- What the reader's answer says, in the words of the definitions: a place stands for the text from there on.
use Rattle.std.specs.Prelude.{ℕ, List, drop, Option, Some, None}
use Rattle.numbers.specs.declared.Parsed.{Parsed}
use Rattle.lines.specs.Numbers.{Number, no_number, number}

-- 10.11: Where a function answers with an enum, a definition gives these rules' numbers and values for each of its cases.
abbrev pub field_said : List ℕ → Option (Parsed ℕ) → Number
field_said text None = no_number
field_said text (Some read) = number read.value (drop read.next text)

-- The place after the number. All places past the end stand for the same text; a contract that is to decide the answer says
-- besides that this one is not past the end.
abbrev pub next_of : Option (Parsed ℕ) → ℕ
next_of None = 0
next_of (Some read) = read.next
