-- The proof of the cycle of calls {may_assign_lent}: the row number falls, and each arm is one kind of statement.
use borrow.Enum.Refused.{opened}
use native.Mathlib.Omega.{arith}
use native.Mathlib.Nat.{mod-eq_of_lt}
use mathlib.Core.Path.{◌≡◌, sym, ap, ap₂, ◌∙◌}
use lib.ListN.{length}
use mathlib.Core.List.{List}
use Rattle.rules.specs.declared.Row.{Row}
use Rattle.rules.specs.Marks.{only, union}
use Rattle.rules.specs.Rows.{row_at}
use Rattle.rules.specs.Trees.{expr_at, stmt_at, stmt_node}
use Rattle.rules.specs.Values.{may_assign}
use Rattle.rules.specs.Sound.{Sound}
use Rattle.rules.proofs.RowLaws.{kind_arm}
use Rattle.rules.proofs.TreeLaws.{sound_as, stmt_of_row, assign_words, sequence_words, if_words, while_words}
use Rattle.rules.proofs.ValueLaws.{assign_arms}
use Prim.Native.Nat.{ℕ, ◌<◌}
use Rattle.expression.proofs.assigned.+may_assign_lent.Goals as goal

-- what a row that was read may assign
of_row :
    {rows : List Row} {i : ℕ} {row : Row} {set : ℕ} → Sound rows → i < length rows → row ≡ row_at rows i
    → may_assign (stmt_node (expr_at rows) (stmt_at rows) i row row.kind) ≡ set → set ≡ may_assign (stmt_at rows i)
of_row sound more read e = sym e ∙ ap may_assign (stmt_of_row sound more read)

pub may_assign_lent-requires : goal.may_assign_lent-requires
may_assign_lent-requires t c =
    let w = (sequence_words (sound_as c.row-here.ensures.sound c.requires c.row-here.ensures.read c.in-Sequence.is)).0 in (omega (arith, w), omega (arith, w, c.requires))

pub may_assign_lent-requires-in-Sequence : goal.may_assign_lent-requires-in-Sequence
may_assign_lent-requires-in-Sequence t c =
    let w = (sequence_words (sound_as c.row-here.ensures.sound c.requires c.row-here.ensures.read c.in-Sequence.is)).1 in (omega (arith, w), omega (arith, w, c.requires))

pub may_assign_lent-requires-in-If : goal.may_assign_lent-requires-in-If
may_assign_lent-requires-in-If t c =
    let w = (if_words (sound_as c.row-here.ensures.sound c.requires c.row-here.ensures.read c.in-If.is)).1 in (omega (arith, w), omega (arith, w, c.requires))

pub may_assign_lent-requires-in-If-2 : goal.may_assign_lent-requires-in-If-2
may_assign_lent-requires-in-If-2 t c =
    let words = if_words (sound_as c.row-here.ensures.sound c.requires c.row-here.ensures.read c.in-If.is) in
    (omega (arith, words.1, words.2), omega (arith, words.1, words.2, c.requires))

pub may_assign_lent-requires-in-While : goal.may_assign_lent-requires-in-While
may_assign_lent-requires-in-While t c =
    let words = while_words (sound_as c.row-here.ensures.sound c.requires c.row-here.ensures.read c.in-While.is) in
    (omega (arith, words.0, words.1), omega (arith, words.0, words.1, c.requires))

pub returns-in-Assign : goal.returns-in-Assign
returns-in-Assign t c =
    c.only_mark.ensures ∙ ap only (mod-eq_of_lt (assign_words (sound_as c.row-here.ensures.sound c.requires c.row-here.ensures.read c.in-Assign.is)).0)
    ∙ of_row c.row-here.ensures.sound c.requires c.row-here.ensures.read (kind_arm (assign_arms _ _ _ _).0 _ c.in-Assign.in-Assign-own.keys1)

pub returns-in-Sequence : goal.returns-in-Sequence
returns-in-Sequence t c =
    c.joined.ensures ∙ ap₂ union c.may_assign_lent.ensures c.may_assign_lent-in-Sequence.ensures
    ∙ of_row c.row-here.ensures.sound c.requires c.row-here.ensures.read (kind_arm (assign_arms _ _ _ _).1 _ c.in-Sequence.in-Sequence-own.keys2)

pub returns-in-If : goal.returns-in-If
returns-in-If t c =
    c.joined-in-If.ensures ∙ ap₂ union c.may_assign_lent-in-If.ensures c.may_assign_lent-in-If-2.ensures
    ∙ of_row c.row-here.ensures.sound c.requires c.row-here.ensures.read (kind_arm (assign_arms _ _ _ _).2 _ c.in-If.in-If-own.keys3)

pub returns-in-While : goal.returns-in-While
returns-in-While t c =
    c.may_assign_lent-in-While.ensures ∙ of_row c.row-here.ensures.sound c.requires c.row-here.ensures.read (kind_arm (assign_arms _ _ _ _).3 _ c.in-While.in-While-own.keys4)

pub returns-in_default : goal.returns-in_default
returns-in_default t c = of_row c.row-here.ensures.sound c.requires c.row-here.ensures.read (kind_arm (assign_arms _ _ _ _).4 _ (opened c.in_default.in_default-own.keys5))
