-- The numbers of a text, each once, under a name.
use Rattle.std.specs.Prelude.{ℕ}

-- 13.12: Refusal 9, at 0: the text has more than 16,384 bytes.
abbrev pub most_text_bytes : ℕ
most_text_bytes = 16384

-- 13.12: Refusal 9, at 0: ..
abbrev pub too_long : ℕ
too_long = 9

-- 13.13: Refusal 10, at 0: ..
abbrev pub faulty_word : ℕ
faulty_word = 10

-- 13.14: Refusal 11, at 0: ..
abbrev pub declared_again : ℕ
declared_again = 11

-- 13.15: Refusal 12, at 0: ..
abbrev pub too_many_rows : ℕ
too_many_rows = 12

-- 13.17: Refusal 13, at 0: ..
abbrev pub table_too_short : ℕ
table_too_short = 13
