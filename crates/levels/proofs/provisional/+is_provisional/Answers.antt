-- The proof of the cycle of calls {is_provisional}: the row number falls, and each arm is one kind of expression.
use borrow.Enum.Refused.{opened}
use native.Mathlib.Omega.{arith}
use native.Mathlib.Nat.{mod-eq_of_lt}
use mathlib.Core.Bool.{Bool, ◌||◌}
use mathlib.Core.Path.{◌≡◌, sym, ap, ◌∙◌}
use lib.ListN.{length}
use mathlib.Core.List.{List}
use Rattle.rules.specs.declared.Row.{Row}
use Rattle.rules.specs.Marks.{has, provisional}
use Rattle.rules.specs.Rows.{row_at}
use Rattle.rules.specs.Trees.{expr_at, expr_node}
use Rattle.rules.specs.Values.{level}
use Rattle.rules.specs.Sound.{Sound}
use Rattle.rules.proofs.RowLaws.{kind_arm}
use Rattle.rules.proofs.TreeLaws.{sound_as, expr_of_row, variable_words, binary_words}
use Rattle.rules.proofs.ValueLaws.{provisional_arms}
use Prim.Native.Nat.{ℕ, ◌<◌}
use Rattle.levels.proofs.provisional.+is_provisional.Goals as goal

-- whether a row that was read is provisional
of_row :
    {rows : List Row} {i : ℕ} {row : Row} {b : Bool} (marks : ℕ) → Sound rows → i < length rows → row ≡ row_at rows i
    → provisional (level marks (expr_node (expr_at rows) row row.kind)) ≡ b → b ≡ provisional (level marks (expr_at rows i))
of_row marks sound more read e = sym e ∙ ap (λ x. provisional (level marks x)) (expr_of_row sound more read)

pub is_provisional-requires : goal.is_provisional-requires
is_provisional-requires t c =
    let w = (binary_words (sound_as c.row-here.ensures.sound c.requires c.row-here.ensures.read c.in-Binary.is)).0 in (omega (arith, w), omega (arith, w, c.requires))

pub returns-then-is_provisional : goal.returns-then-is_provisional
returns-then-is_provisional t c =
    let left = sym c.is_provisional.ensures ∙ c.if-is_provisional.true in
    c.if-is_provisional.true ∙ of_row c.args.marks c.row-here.ensures.sound c.requires c.row-here.ensures.read
    (kind_arm (provisional_arms _ _ _).1 _ c.in-Binary.in-Binary-own.keys2
    ∙ ap (λ (b : Bool). b || provisional (level c.args.marks (expr_at c.args.table.now c.row-here.result.r))) left)

pub is_provisional-requires-else-is_provisional : goal.is_provisional-requires-else-is_provisional
is_provisional-requires-else-is_provisional t c =
    let w = (binary_words (sound_as c.row-here.ensures.sound c.requires c.row-here.ensures.read c.in-Binary.is)).1 in (omega (arith, w), omega (arith, w, c.requires))

pub returns-in-Variable : goal.returns-in-Variable
returns-in-Variable t c =
    c.has_mark.ensures
    ∙ ap (has c.args.marks) (mod-eq_of_lt (variable_words (sound_as c.row-here.ensures.sound c.requires c.row-here.ensures.read c.in-Variable.is)))
    ∙ of_row c.args.marks c.row-here.ensures.sound c.requires c.row-here.ensures.read (kind_arm (provisional_arms _ _ _).0 _ c.in-Variable.in-Variable-own.keys1)

pub returns-else-is_provisional : goal.returns-else-is_provisional
returns-else-is_provisional t c =
    let left = sym c.is_provisional.ensures ∙ c.if-is_provisional.false in
    c.is_provisional-else-is_provisional.ensures
    ∙ of_row c.args.marks c.row-here.ensures.sound c.requires c.row-here.ensures.read
    (kind_arm (provisional_arms _ _ _).1 _ c.in-Binary.in-Binary-own.keys2
    ∙ ap (λ (b : Bool). b || provisional (level c.args.marks (expr_at c.args.table.now c.row-here.result.r))) left)

pub returns-in_default : goal.returns-in_default
returns-in_default t c = of_row c.args.marks c.row-here.ensures.sound c.requires c.row-here.ensures.read (kind_arm (provisional_arms _ _ _).2 _ (opened c.in_default.in_default-own.keys3))
