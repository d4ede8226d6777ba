-- What the writer's methods do.
use Rattle.std.specs.Prelude.{ℕ, ◌+◌, ◌≤◌, ◌≡◌, List, length}
use Rattle.report.specs.declared.Writer.{Writer}
use Rattle.report.specs.Written.{Placed}

-- so many bytes have room
abbrev pub HasRoom : Writer → ℕ → Type 0
HasRoom w most = w.at + most ≤ length w.out.now

-- The bytes are put at the writer's place, they are no more than most, and the writer still has the same buffer.
pub record Puts (old new : Writer) (bytes : List ℕ) (most : ℕ) : Type 0 where
  pub placed : Placed old.out.now old.at bytes most new.at new.out.now
  pub long : length new.out.now ≡ length old.out.now
  pub same : new.out.ghost_name ≡ old.out.ghost_name
