-- An expression's value and level in one answer, and what the public call answers.
use Rattle.std.specs.Prelude.{ℕ, ◌%◌, ◌/◌, ◌^◌, List, Result, Ok, Err}
use Rattle.rules.specs.declared.Refusal.{Refusal}
use Rattle.rules.specs.Judged.{Judged}
use Rattle.rules.specs.Limits.{word_bits}
use Rattle.rules.specs.Rows.{rows_of}
use Rattle.rules.specs.Trees.{Expr, expr_at}
use Rattle.rules.specs.Values.{value, level}
use Rattle.rules.specs.Judging.{judge}
use Rattle.rules.specs.Answers.{number_of}
use Rattle.expression.specs.declared.values.Valued.{Valued}

abbrev pub valued_of : List ℕ → ℕ → Expr → Valued
valued_of memory marks e = record { value = value memory e; level = level marks e }

-- the value and level that stand in one word: the level above the value's bits
abbrev pub valued_in : ℕ → Valued
valued_in word = record { value = word % 2 ^ word_bits; level = word / 2 ^ word_bits }

-- What the rules say of an expression in any table: found, with its value and level; refused, with its number and row.
pub data ValueSaid : Type 0 where
  found : ℕ → ℕ → ValueSaid
  refused : ℕ → ℕ → ValueSaid

-- 10.11: Where a function answers with an enum, a definition gives these rules' numbers and values for each of its cases.
abbrev pub said_of_value : Result Valued Refusal → ValueSaid
said_of_value (Ok v) = found v.value v.level
said_of_value (Err refusal) = refused (number_of refusal.fault) refusal.row

abbrev pub found_or : Judged → Valued → ValueSaid
found_or Judged.Accepted v = found v.value v.level
found_or (Judged.Refused number row) v = refused number row

-- a refused table gives its refusal; of any other, the expression at the row
abbrev pub value_at : List ℕ → ℕ → List ℕ → ℕ → ValueSaid
value_at words row memory marks = found_or (judge words) (valued_of memory marks (expr_at (rows_of words) row))
