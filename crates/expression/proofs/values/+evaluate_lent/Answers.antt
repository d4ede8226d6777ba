-- The proof of the cycle of calls {evaluate_lent}: the row number falls, and each arm is one kind of expression.
use borrow.Enum.Refused.{opened}
use native.Mathlib.Omega.{arith}
use native.Mathlib.Nat.{mod-eq_of_lt}
use mathlib.Core.Path.{◌≡◌, sym, ap, ◌∙◌}
use lib.ListN.{length}
use mathlib.Core.List.{List}
use Rattle.rules.specs.declared.Row.{Row}
use Rattle.rules.specs.Rows.{row_at}
use Rattle.rules.specs.Trees.{Expr, variable, expr_at, expr_node}
use Rattle.rules.specs.Sound.{Sound}
use Rattle.rules.proofs.RowLaws.{kind_arm}
use Rattle.rules.proofs.TreeLaws.{sound_as, expr_of_row, expr_arms, variable_words, binary_words}
use Rattle.expression.specs.declared.values.Valued.{Valued}
use Rattle.expression.specs.Valued.{valued_of}
use Rattle.expression.proofs.ValuedLaws.{valued_constant, valued_binary}
use Prim.Native.Nat.{ℕ, ◌<◌}
use Rattle.expression.proofs.values.+evaluate_lent.Goals as goal

-- the value and level of a row that was read
of_row :
    {rows : List Row} {i : ℕ} {row : Row} {e : Expr} {r : Valued} (words : List ℕ) (marks : ℕ) → Sound rows → i < length rows
    → row ≡ row_at rows i → expr_node (expr_at rows) row row.kind ≡ e → r ≡ valued_of words marks e
    → r ≡ valued_of words marks (expr_at rows i)
of_row {rows} {i} {row} words marks sound more read e known =
    known ∙ ap (valued_of words marks) (sym e ∙ expr_of_row sound more read)

pub evaluate_lent-requires : goal.evaluate_lent-requires
evaluate_lent-requires t c =
    let w = (binary_words (sound_as c.row-here.ensures.sound c.requires c.row-here.ensures.read c.in-Binary.is)).0 in (omega (arith, w), omega (arith, w, c.requires))

pub evaluate_lent-requires-in-Binary : goal.evaluate_lent-requires-in-Binary
evaluate_lent-requires-in-Binary t c =
    let w = (binary_words (sound_as c.row-here.ensures.sound c.requires c.row-here.ensures.read c.in-Binary.is)).1 in (omega (arith, w), omega (arith, w, c.requires))

pub returns-in-Constant : goal.returns-in-Constant
returns-in-Constant t c =
    of_row c.args.words.now c.args.marks c.row-here.ensures.sound c.requires c.row-here.ensures.read (kind_arm (expr_arms _ _).0 _ c.in-Constant.in-Constant-own.keys1) (c.pack.ensures ∙ valued_constant _ _ _)

pub returns-in-Variable : goal.returns-in-Variable
returns-in-Variable t c =
    of_row c.args.words.now c.args.marks c.row-here.ensures.sound c.requires c.row-here.ensures.read (kind_arm (expr_arms _ _).1 _ c.in-Variable.in-Variable-own.keys2)
    (c.read_variable.ensures ∙ ap (λ (v : ℕ). valued_of c.args.words.now c.args.marks (variable v)) (mod-eq_of_lt (variable_words (sound_as c.row-here.ensures.sound c.requires c.row-here.ensures.read c.in-Variable.is))))

pub returns-in-Binary : goal.returns-in-Binary
returns-in-Binary t c =
    of_row c.args.words.now c.args.marks c.row-here.ensures.sound c.requires c.row-here.ensures.read (kind_arm (expr_arms _ _).2 _ c.in-Binary.in-Binary-own.keys3)
    (c.pack-in-Binary.ensures
    ∙ valued_binary _ _ _ _ _ (c.unpack-left.ensures ∙ c.evaluate_lent.ensures) (c.unpack-right.ensures ∙ c.evaluate_lent-in-Binary.ensures) c.operated.ensures c.joined.ensures)

pub returns-in_default : goal.returns-in_default
returns-in_default t c =
    of_row c.args.words.now c.args.marks c.row-here.ensures.sound c.requires c.row-here.ensures.read (kind_arm (expr_arms _ _).3 _ (opened c.in_default.in_default-own.keys4)) (c.pack-in_default.ensures ∙ valued_constant _ _ _)
