-- `numbers::grown` meets its contract. Assumes nothing.
use Rattle.lines.proofs.NumberLaws.{digit_within}
use native.Mathlib.Omega.{arith}
use Rattle.numbers.proofs.grown.Goals as goal

pub overflow_sub-byte : goal.overflow_sub-byte
overflow_sub-byte c = omega (arith, digit_within c.args.byte c.requires.1)
