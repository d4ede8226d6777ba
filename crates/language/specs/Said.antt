-- What a reading says.
use Rattle.std.specs.Prelude.{ℕ}
use Rattle.language.specs.declared.Part.{Part}

-- The refusal's number and row, or 0; how many rows and which marks; and the part that is handed back.
pub record Said : Type 0 where
  pub refusal : ℕ
  pub at : ℕ
  pub rows : ℕ
  pub marks : ℕ
  pub part : Part
