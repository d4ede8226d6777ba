-- The loop's invariant: what is left of the key is what is left of the word where the key is the word.
use Prim.Native.Nat.{◌-◌}
use mathlib.Core.Path.{◌≡◌}
use lib.ListN.{length, drop}
use Rattle.language.specs.Tokens.{same}
use Rattle.spans.proofs.is_key.Given as goal

abbrev pub invariant-loop-i : goal.invariant-loop-i
invariant-loop-i l = same (drop l.i l.key) (drop l.i l.word) ≡ same l.key l.word

abbrev pub decreases-loop-i : goal.decreases-loop-i
decreases-loop-i l = length l.key - l.i
