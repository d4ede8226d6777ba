-- What the public call answers of a statement's assignments.
use Rattle.std.specs.Prelude.{ℕ, List, Result, Ok, Err}
use Rattle.rules.specs.declared.Refusal.{Refusal}
use Rattle.rules.specs.Judged.{Judged}
use Rattle.rules.specs.Rows.{rows_of}
use Rattle.rules.specs.Trees.{stmt_at}
use Rattle.rules.specs.Values.{may_assign}
use Rattle.rules.specs.Judging.{judge}
use Rattle.rules.specs.Answers.{number_of}

-- What the rules say of a statement in any table: the variables that it may assign; refused, with its number and row.
pub data AssignedSaid : Type 0 where
  variables : ℕ → AssignedSaid
  refused : ℕ → ℕ → AssignedSaid

-- 10.11: Where a function answers with an enum, a definition gives these rules' numbers and values for each of its cases.
abbrev pub said_of_assigned : Result ℕ Refusal → AssignedSaid
said_of_assigned (Ok set) = variables set
said_of_assigned (Err refusal) = refused (number_of refusal.fault) refusal.row

abbrev pub variables_or : Judged → ℕ → AssignedSaid
variables_or Judged.Accepted set = variables set
variables_or (Judged.Refused number row) set = refused number row

-- a refused table gives its refusal; of any other, what the statement at the row may assign
abbrev pub assigned_at : List ℕ → ℕ → AssignedSaid
assigned_at words row = variables_or (judge words) (may_assign (stmt_at (rows_of words) row))
