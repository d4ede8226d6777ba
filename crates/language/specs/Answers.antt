-- What the code's answer says, in the rules' numbers.
use Rattle.std.specs.Prelude.{ℕ, List, Result, Ok, Err}
use Rattle.rules.specs.Answers.{number_of}
use Rattle.language.specs.declared.Flaw.{Flaw}
use Rattle.language.specs.declared.Recipe.{Recipe}
use Rattle.language.specs.declared.Unread.{Unread}
use Rattle.language.specs.Limits.{too_long, faulty_word, declared_again, too_many_rows, table_too_short}
use Rattle.language.specs.Said.{Said}
use Rattle.language.specs.Readings.{end_of, refused}

-- 10.11: Where a function answers with an enum, a definition gives these rules' numbers and values for each of its cases.
abbrev pub flaw_number : Flaw → ℕ
flaw_number Flaw.TooLong = too_long
flaw_number Flaw.FaultyWord = faulty_word
flaw_number Flaw.DeclaredAgain = declared_again
flaw_number Flaw.TooManyRows = too_many_rows
flaw_number Flaw.TableTooShort = table_too_short
flaw_number (Flaw.Refused refusal) = number_of refusal.fault

-- the row of a refusal; only a table's own has one
abbrev pub flaw_row : Flaw → ℕ
flaw_row Flaw.TooLong = 0
flaw_row Flaw.FaultyWord = 0
flaw_row Flaw.DeclaredAgain = 0
flaw_row Flaw.TooManyRows = 0
flaw_row Flaw.TableTooShort = 0
flaw_row (Flaw.Refused refusal) = refusal.row

abbrev pub said_of : List ℕ → Result Recipe Unread → Said
said_of text (Ok read) = record { refusal = 0; at = 0; rows = read.rows; marks = read.marks; part = end_of text }
said_of text (Err unread) = refused (flaw_number unread.flaw) (flaw_row unread.flaw) unread.part
