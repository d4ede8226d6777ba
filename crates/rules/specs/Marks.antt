-- 1.3: A mark set is a number of 32 bits: bit i is 1 where vi is marked, that is provisional, and 0 where vi is settled.
-- 1.5: Every other set of variables is a number of the same form as a mark set.
use Rattle.std.specs.Prelude.{ℕ, zero, suc, ◌+◌, ◌*◌, ◌/◌, ◌%◌, Bool, true, cond, not, T, eqb}
use Rattle.std.specs.Int.Bits.{bit_or}
use Rattle.rules.specs.Limits.{width}

-- the set of no variable
unfoldable pub none : ℕ
none = 0

-- bit i of the set is set
unfoldable pub has : ℕ → ℕ → Bool
has set zero = eqb (set % 2) 1
has set (suc i) = has (set / 2) i

-- the set with bit i set or cleared
unfoldable pub put : ℕ → Bool → ℕ → ℕ
put zero bit set = set / 2 * 2 + cond bit 1 0
put (suc i) bit set = put i bit (set / 2) * 2 + set % 2

-- the set of one variable
unfoldable pub only : ℕ → ℕ
only i = put i true none

-- what stands in either set
unfoldable pub union : ℕ → ℕ → ℕ
union a b = bit_or a b

-- every variable of the one set is in the other
infix 4 ◌⊆◌
abbrev pub ◌⊆◌ : ℕ → ℕ → Type 0
a ⊆ b = (i : ℕ) → T (has a i) → T (has b i)

-- 3.7: An expression is provisional where its level is not empty, and else it is settled; ..
unfoldable pub provisional : ℕ → Bool
provisional level = not (eqb level 0)

-- how many of the first n, and of all
-- 9.13: .. `marked=` with how many variables it marks, ..
unfoldable pub marked_below : ℕ → ℕ → ℕ
marked_below zero set = 0
marked_below (suc n) set = cond (has set n) 1 0 + marked_below n set

unfoldable pub marked : ℕ → ℕ
marked set = marked_below width set
