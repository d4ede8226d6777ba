-- The numbers of the rules for a line of a job or a report, each once, under a name.
use Rattle.std.specs.Prelude.{ℕ}

-- 9.8: Refusal 8, at the line: a number is over the most that its line allows, which is 4,294,967,295 where nothing else is
-- said.
abbrev pub most_word : ℕ
most_word = 4294967295

-- 9.7: Refusal 7, at the line: ..
abbrev pub lacks_form : ℕ
lacks_form = 7

-- 9.8: Refusal 8, at the line: ..
abbrev pub out_of_range : ℕ
out_of_range = 8

-- the digits of a word
abbrev pub most_digits : ℕ
most_digits = 10
