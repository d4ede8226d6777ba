-- A number that was read is told by what it says of the text: it is read back from there.
use Prim.Native.Nat.{ℕ, ◌-◌, ◌≤◌}
use native.Mathlib.Omega.{arith}
use mathlib.Core.List.{List}
use mathlib.Core.Path.{◌≡◌, refl, sym, ap, ◌∙◌}
use lib.ListN.{length, length-drop}
use Rattle.std.specs.Prelude.{Option, Some, None}
use Rattle.lines.specs.Numbers.{Number, no_number, number}
use Rattle.numbers.specs.declared.Parsed.{Parsed}
use Rattle.numbers.specs.Read.{field_said, next_of}

-- the place at which a text is the rest
field_from : List ℕ → Number → Option (Parsed ℕ)
field_from text no_number = None
field_from text (number value rest) = Some (record { value = value; next = length text - length rest })

field_back : (text : List ℕ) (a : Option (Parsed ℕ)) → next_of a ≤ length text → field_from text (field_said text a) ≡ a
unfolding field_from
field_back text None h = refl
field_back text (Some read) h =
    let rest = length-drop read.next text in
    ap (λ (next : ℕ). Some (record { value = read.value; next = next })) (omega arith)

-- two answers within the text that say the same are the same
pub field_unique : (text : List ℕ) (a b : Option (Parsed ℕ)) → next_of a ≤ length text → next_of b ≤ length text → field_said text a ≡ field_said text b → a ≡ b
field_unique text a b h k e = sym (field_back text a h) ∙ ap (field_from text) e ∙ field_back text b k
