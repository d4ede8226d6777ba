-- A statement row of a judged table that was read, kind by kind: what it stands for, and what its children are.
use Prim.Native.Nat.{ℕ, ◌<◌}
use mathlib.Core.Bool.{true}
use mathlib.Core.List.{List}
use mathlib.Core.Path.{◌≡◌, sym, ap, ◌∙◌, subst}
use lib.ListN.{length}
use Rattle.rules.specs.declared.Kind.{Kind}
use Rattle.rules.specs.declared.Row.{Row}
use Rattle.rules.specs.Limits.{width}
use Rattle.rules.specs.Rows.{roles_of, is_statement, row_at}
use Rattle.rules.specs.Trees.{skip, assign, sequence, if, while, output, stmt_node, expr_at, stmt_at}
use Rattle.rules.specs.Sound.{SoundRow, Sound}
use Rattle.rules.proofs.TreeLaws.{stmt_law}

-- a row below i that is a statement
pub record Below (rows : List Row) (i child : ℕ) : Type 0 where
  pub lower : child < i
  pub sort : is_statement (row_at rows child).kind ≡ true

module _ (rows : List Row) (sound : Sound rows) (i : ℕ) (within : i < length rows) (row : Row) (read : row ≡ row_at rows i) where
  fits_as : (kind : Kind) → row.kind ≡ kind → SoundRow rows i kind row
  fits_as kind e =
      subst (λ (k : Kind). SoundRow rows i k row) e (subst (λ (r : Row). SoundRow rows i r.kind r) (sym read) (sound.row i within))

  stands_for : (kind : Kind) → row.kind ≡ kind → stmt_at rows i ≡ stmt_node (expr_at rows) (stmt_at rows) i row kind
  stands_for kind e =
      stmt_law rows sound i within ∙ ap (λ (r : Row). stmt_node (expr_at rows) (stmt_at rows) i r r.kind) (sym read)
      ∙ ap (stmt_node (expr_at rows) (stmt_at rows) i row) e

  pub is_skip : row.kind ≡ Kind.Skip → stmt_at rows i ≡ skip
  unfolding stmt_node
  is_skip e = stands_for Kind.Skip e

  pub is_assign : row.kind ≡ Kind.Assign → (stmt_at rows i ≡ assign row.p (expr_at rows row.q)) × (row.p < width) × (row.q < i)
  unfolding stmt_node roles_of
  is_assign e = (stands_for Kind.Assign e, (fits_as Kind.Assign e).p, (fits_as Kind.Assign e).q.0)

  pub is_sequence :
      row.kind ≡ Kind.Sequence
      → (stmt_at rows i ≡ sequence (stmt_at rows row.p) (stmt_at rows row.q)) × Below rows i row.p × Below rows i row.q
  unfolding stmt_node roles_of
  is_sequence e =
      let f = fits_as Kind.Sequence e in
      (stands_for Kind.Sequence e, record { lower = f.p.0; sort = f.p.1 }, record { lower = f.q.0; sort = f.q.1 })

  pub is_if :
      row.kind ≡ Kind.If
      → (stmt_at rows i ≡ if (expr_at rows row.p) (stmt_at rows row.q) (stmt_at rows row.r)) × (row.p < i) × Below rows i row.q × Below rows i row.r
  unfolding stmt_node roles_of
  is_if e =
      let f = fits_as Kind.If e in
      (stands_for Kind.If e, f.p.0, record { lower = f.q.0; sort = f.q.1 }, record { lower = f.r.0; sort = f.r.1 })

  pub is_while :
      row.kind ≡ Kind.While → (stmt_at rows i ≡ while (expr_at rows row.p) (stmt_at rows row.q)) × (row.p < i) × Below rows i row.q
  unfolding stmt_node roles_of
  is_while e =
      let f = fits_as Kind.While e in
      (stands_for Kind.While e, f.p.0, record { lower = f.q.0; sort = f.q.1 })

  pub is_output : row.kind ≡ Kind.Output → (stmt_at rows i ≡ output row.p (expr_at rows row.q) i) × (row.q < i)
  unfolding stmt_node roles_of
  is_output e = (stands_for Kind.Output e, (fits_as Kind.Output e).q.0)
