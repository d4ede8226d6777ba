-- What is found of a table or of a trace: that it is accepted, or the refusal that is given, by its number and row.
use Rattle.std.specs.Prelude.{ℕ}

pub data Judged : Type 0 where
  Accepted : Judged
  Refused : ℕ → ℕ → Judged
