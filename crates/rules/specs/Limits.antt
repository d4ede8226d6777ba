-- The numbers of the rules, each once, under a name.
use Rattle.std.specs.Prelude.{ℕ, ◌*◌}

-- 1.1: A value is a whole number from 0 to 4,294,967,295, and so is a word of a table: 32 bits.
abbrev pub word_bits : ℕ
word_bits = 32

-- 1.2: There are 32 variables, v0 to v31, and a memory holds a value for each of them.
-- 1.3: A mark set is a number of 32 bits: bit i is 1 where vi is marked, that is provisional, and 0 where vi is settled.
abbrev pub width : ℕ
width = 32

-- 2.1: A table is a list of words, and each four of them are a row: its kind, and then p, q and r.
abbrev pub row_words : ℕ
row_words = 4

-- 3.3: The quotient .. is 4,294,967,295 where the divisor is 0, whatever the dividend.
abbrev pub quotient_by_zero : ℕ
quotient_by_zero = 4294967295

-- 4.1: Refusal 1, at 0: .. there are more than 512.
abbrev pub most_rows : ℕ
most_rows = 512

-- the words of the most rows
abbrev pub table_words : ℕ
table_words = row_words * most_rows

-- 4.2: Refusal 2, at the row: .. a channel over 1 ..
abbrev pub highest_channel : ℕ
highest_channel = 1

-- 4.2: Refusal 2, at the row: .. an operator over 5, ..
abbrev pub highest_operator : ℕ
highest_operator = 5

-- 4.5: Refusal 5, at the row: its height is over 16, its nesting over 8 or its loop nesting over 3.
abbrev pub most_height : ℕ
most_height = 16

abbrev pub most_nesting : ℕ
most_nesting = 8

abbrev pub most_loop_nesting : ℕ
most_loop_nesting = 3

-- 4.6: Refusal 6, at 0: the trace that is lent has more than 16,384 words.
abbrev pub most_trace_words : ℕ
most_trace_words = 16384

-- 9.9: Refusal 9, at 0: the job is longer than 32,768 bytes.
abbrev pub most_job_bytes : ℕ
most_job_bytes = 32768

-- 6.6: A record takes two words of the trace, its channel and then its value.
abbrev pub record_words : ℕ
record_words = 2
