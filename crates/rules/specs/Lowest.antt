-- What the sentence says of any judgement, and the claim that it is so of the judge and of a run.
-- 4.7: Of the refusals 1 to 6 that apply anywhere, the one with the lowest number is given, at the lowest row at which it
-- applies; where none applies the table is accepted.
use Rattle.std.specs.Prelude.{ℕ, ◌≤◌, ◌<◌, true, List, ◌↔◌, ◌≡◌, length}
use Rattle.rules.specs.Judged.{Judged}
use Rattle.rules.specs.Limits.{most_trace_words}
use Rattle.rules.specs.Rows.{rows_of, row_at}
use Rattle.rules.specs.Judging.{wrong_count, wrong_words, wrong_children, children, wrong_parents, too_deep, or_else, judge, judge_trace}

-- The refusals, a line each: the refusal's number, and the row that it applies at, where it applies.
pub data Applies (words : List ℕ) (trace_words : ℕ) : ℕ → ℕ → Type 0 where
  count : wrong_count words ≡ true → Applies words trace_words 1 0
  word : (row : ℕ) → row < length (rows_of words) → wrong_words (row_at (rows_of words) row) ≡ true → Applies words trace_words 2 row
  child :
      (row : ℕ) → row < length (rows_of words) → wrong_children (rows_of words) row (row_at (rows_of words) row) ≡ true
      → Applies words trace_words 3 row
  parent :
      (row : ℕ) → row < length (rows_of words) → wrong_parents (rows_of words) (children (rows_of words)) row ≡ true
      → Applies words trace_words 4 row
  depth : (row : ℕ) → row < length (rows_of words) → too_deep (rows_of words) row ≡ true → Applies words trace_words 5 row
  trace : most_trace_words < trace_words → Applies words trace_words 6 0

-- The number applies at the row, no lower number applies anywhere, and this one at no lower row.
pub record Lowest (Applied : ℕ → ℕ → Type 0) (number row : ℕ) : Type 0 where
  pub applies : Applied number row
  pub number_lowest : (other at : ℕ) → Applied other at → number ≤ other
  pub row_lowest : (at : ℕ) → Applied number at → row ≤ at

-- Accepted exactly when nothing applies anywhere; and what is given is the lowest that applies.
pub record GivesLowest (Applied : ℕ → ℕ → Type 0) (given : Judged) : Type 0 where
  pub accepted : (given ≡ Judged.Accepted) ↔ ((number row : ℕ) → Applied number row → ⊥)
  pub refused : (number row : ℕ) → given ≡ Judged.Refused number row → Lowest Applied number row

-- The claim: so it is of a run, which is given 1 to 6, and of the judge, to which no trace is lent.
abbrev pub LowestIsGiven : Type 0
LowestIsGiven =
    ((words : List ℕ) (trace_words : ℕ) → GivesLowest (Applies words trace_words) (or_else (judge words) (judge_trace trace_words)))
    × ((words : List ℕ) → GivesLowest (Applies words 0) (judge words))
