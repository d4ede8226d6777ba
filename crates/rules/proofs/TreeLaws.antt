-- The trees of a judged table: what an expression row and a statement row stand for, in terms of their children.
use Prim.Native.Nat.{ℕ, zero, suc, ◌-◌, ◌≤◌, ◌<◌}
use native.Mathlib.Omega.{arith}
use mathlib.Core.List.{List, [], ◌∷◌}
use mathlib.Core.Path.{◌≡◌, refl, sym, ap, ap₂, ◌∙◌, subst}
use lib.ListN.{length}
use Rattle.rules.specs.declared.Depth.{Depth}
use Rattle.rules.specs.declared.Kind.{Kind}
use Rattle.rules.specs.declared.Row.{Row}
use Rattle.rules.specs.Limits.{width, highest_channel}
use Rattle.rules.specs.Rows.{roles_of, absent, row_at}
use Rattle.rules.specs.Trees.{Expr, constant, variable, binary, Stmt, skip, assign, sequence, if, while, output, operator_of, expr_node, stmt_node, expr_in, expr_at, stmt_in, stmt_at, recipe, height, nesting, loop_nesting}
use Rattle.rules.specs.Sound.{SoundRow, Fitting, Sound}
use Rattle.rules.specs.OnePass.{depth_at, depth_by}
use Rattle.rules.proofs.JudgeLaws.{row_absent}
use Rattle.rules.proofs.RowLaws.{Arm, kind_at}

-- two readings of the children that agree below row i make one tree of row i
expr_agree :
    (rows : List Row) (i : ℕ) (row : Row) (f g : ℕ → Expr) → ((j : ℕ) → j < i → f j ≡ g j) → (kind : Kind)
    → SoundRow rows i kind row → expr_node f row kind ≡ expr_node g row kind
unfolding expr_node roles_of
expr_agree rows i row f g same Kind.Skip sound = refl
expr_agree rows i row f g same Kind.Assign sound = refl
expr_agree rows i row f g same Kind.Sequence sound = refl
expr_agree rows i row f g same Kind.If sound = refl
expr_agree rows i row f g same Kind.While sound = refl
expr_agree rows i row f g same Kind.Output sound = refl
expr_agree rows i row f g same Kind.Constant sound = refl
expr_agree rows i row f g same Kind.Variable sound = refl
expr_agree rows i row f g same Kind.Binary sound =
    ap₂ (binary (operator_of row.p)) (same row.q sound.q.0) (same row.r sound.r.0)
expr_agree rows i row f g same Kind.Unknown sound = refl

stmt_agree :
    (rows : List Row) (i : ℕ) (row : Row) (test : ℕ → Expr) (f g : ℕ → Stmt) → ((j : ℕ) → j < i → f j ≡ g j) → (kind : Kind)
    → SoundRow rows i kind row → stmt_node test f i row kind ≡ stmt_node test g i row kind
unfolding stmt_node roles_of
stmt_agree rows i row test f g same Kind.Skip sound = refl
stmt_agree rows i row test f g same Kind.Assign sound = refl
stmt_agree rows i row test f g same Kind.Sequence sound =
    ap₂ sequence (same row.p sound.p.0) (same row.q sound.q.0)
stmt_agree rows i row test f g same Kind.If sound =
    ap₂ (if (test row.p)) (same row.q sound.q.0) (same row.r sound.r.0)
stmt_agree rows i row test f g same Kind.While sound = ap (while (test row.p)) (same row.q sound.q.0)
stmt_agree rows i row test f g same Kind.Output sound = refl
stmt_agree rows i row test f g same Kind.Constant sound = refl
stmt_agree rows i row test f g same Kind.Variable sound = refl
stmt_agree rows i row test f g same Kind.Binary sound = refl
stmt_agree rows i row test f g same Kind.Unknown sound = refl

-- what an expression row stands for, by the arms of a match on its kind
pub expr_arms :
    (child : ℕ → Expr) (row : Row)
    → Arm kind_at (expr_node child row) (constant row.p) (6 ∷ [])
    × Arm kind_at (expr_node child row) (variable row.p) (7 ∷ [])
    × Arm kind_at (expr_node child row) (binary (operator_of row.p) (child row.q) (child row.r)) (8 ∷ [])
    × Arm kind_at (expr_node child row) (constant 0) (0 ∷ 1 ∷ 2 ∷ 3 ∷ 4 ∷ 5 ∷ 9 ∷ [])
unfolding expr_node
expr_arms child row = (record { each = refl }, record { each = refl }, record { each = refl }, record { each = refl })

-- what a statement row stands for, by the arms of a match on its kind
pub stmt_arms :
    (test : ℕ → Expr) (child : ℕ → Stmt) (i : ℕ) (row : Row)
    → Arm kind_at (stmt_node test child i row) (assign row.p (test row.q)) (1 ∷ [])
    × Arm kind_at (stmt_node test child i row) (sequence (child row.p) (child row.q)) (2 ∷ [])
    × Arm kind_at (stmt_node test child i row) (if (test row.p) (child row.q) (child row.r)) (3 ∷ [])
    × Arm kind_at (stmt_node test child i row) (while (test row.p) (child row.q)) (4 ∷ [])
    × Arm kind_at (stmt_node test child i row) (output row.p (test row.q) i) (5 ∷ [])
    × Arm kind_at (stmt_node test child i row) skip (0 ∷ 6 ∷ 7 ∷ 8 ∷ 9 ∷ [])
unfolding stmt_node
stmt_arms test child i row =
    (record { each = refl }, record { each = refl }, record { each = refl }, record { each = refl }, record { each = refl }, record { each = refl })

-- the words of a sound row, kind by kind
module _ {rows : List Row} {i : ℕ} {row : Row} where
  pub assign_words : SoundRow rows i Kind.Assign row → (row.p < width) × (row.q < i)
  unfolding roles_of
  assign_words sound = (sound.p, sound.q.0)

  pub sequence_words : SoundRow rows i Kind.Sequence row → (row.p < i) × (row.q < i)
  unfolding roles_of
  sequence_words sound = (sound.p.0, sound.q.0)

  pub if_words : SoundRow rows i Kind.If row → (row.p < i) × (row.q < i) × (row.r < i)
  unfolding roles_of
  if_words sound = (sound.p.0, sound.q.0, sound.r.0)

  pub while_words : SoundRow rows i Kind.While row → (row.p < i) × (row.q < i)
  unfolding roles_of
  while_words sound = (sound.p.0, sound.q.0)

  pub output_words : SoundRow rows i Kind.Output row → (row.p ≤ highest_channel) × (row.q < i)
  unfolding roles_of
  output_words sound = (sound.p, sound.q.0)

  pub variable_words : SoundRow rows i Kind.Variable row → row.p < width
  unfolding roles_of
  variable_words sound = sound.p

  pub binary_words : SoundRow rows i Kind.Binary row → (row.q < i) × (row.r < i)
  unfolding roles_of
  binary_words sound = (sound.q.0, sound.r.0)

-- the depth of a row's tree, where the depths below it are known
depth_node :
    (rows : List Row) (i : ℕ) (row : Row) (depth : ℕ → Depth) → ((j : ℕ) → j < i → depth j ≡ depth_at rows j) → (kind : Kind)
    → SoundRow rows i kind row
    → depth_by kind (depth row.p) (depth row.q) (depth row.r)
    ≡ record {
      height = height (expr_node (expr_at rows) row kind);
      nesting = nesting (stmt_node (expr_at rows) (stmt_at rows) i row kind);
      loops = loop_nesting (stmt_node (expr_at rows) (stmt_at rows) i row kind);
    }
unfolding depth_at depth_by expr_node stmt_node roles_of
depth_node rows i row depth below Kind.Skip sound = refl
depth_node rows i row depth below Kind.Assign sound = refl
depth_node rows i row depth below Kind.Sequence sound =
    ap₂ (λ (p q : Depth). depth_by Kind.Sequence p q q) (below row.p sound.p.0) (below row.q sound.q.0)
depth_node rows i row depth below Kind.If sound =
    ap₂ (λ (q r : Depth). depth_by Kind.If q q r) (below row.q sound.q.0) (below row.r sound.r.0)
depth_node rows i row depth below Kind.While sound = ap (λ (q : Depth). depth_by Kind.While q q q) (below row.q sound.q.0)
depth_node rows i row depth below Kind.Output sound = refl
depth_node rows i row depth below Kind.Constant sound = refl
depth_node rows i row depth below Kind.Variable sound = refl
depth_node rows i row depth below Kind.Binary sound =
    ap₂ (λ (q r : Depth). depth_by Kind.Binary q q r) (below row.q sound.q.0) (below row.r sound.r.0)
depth_node rows i row depth below Kind.Unknown sound = refl

module _ (rows : List Row) (fitting : Fitting rows) where
  -- enough levels for row i: any more give the same tree
  expr_levels : (m n i : ℕ) → i < length rows → i < m → i < n → expr_in m rows i ≡ expr_in n rows i
  unfolding expr_in
  expr_levels zero n i h hm hn = absurd (omega arith)
  expr_levels (suc m) zero i h hm hn = absurd (omega arith)
  expr_levels (suc m) (suc n) i h hm hn =
      expr_agree rows i (row_at rows i) (expr_in m rows) (expr_in n rows)
      (λ j k. expr_levels m n j (omega arith) (omega arith) (omega arith)) (row_at rows i).kind (fitting i h)

  stmt_levels : (m n i : ℕ) → i < length rows → i < m → i < n → stmt_in m rows i ≡ stmt_in n rows i
  unfolding stmt_in
  stmt_levels zero n i h hm hn = absurd (omega arith)
  stmt_levels (suc m) zero i h hm hn = absurd (omega arith)
  stmt_levels (suc m) (suc n) i h hm hn =
      stmt_agree rows i (row_at rows i) (expr_at rows) (stmt_in m rows) (stmt_in n rows)
      (λ j k. stmt_levels m n j (omega arith) (omega arith) (omega arith)) (row_at rows i).kind (fitting i h)

  pub expr_of_fitting : (i : ℕ) → i < length rows → expr_at rows i ≡ expr_node (expr_at rows) (row_at rows i) (row_at rows i).kind
  unfolding expr_at expr_in
  expr_of_fitting i h =
      expr_agree rows i (row_at rows i) (expr_in i rows) (expr_at rows)
      (λ j k. expr_levels i (suc j) j (omega arith) k (omega arith)) (row_at rows i).kind (fitting i h)

  pub stmt_of_fitting : (i : ℕ) → i < length rows → stmt_at rows i ≡ stmt_node (expr_at rows) (stmt_at rows) i (row_at rows i) (row_at rows i).kind
  unfolding stmt_at stmt_in
  stmt_of_fitting i h =
      stmt_agree rows i (row_at rows i) (expr_at rows) (stmt_in i rows) (stmt_at rows)
      (λ j k. stmt_levels i (suc j) j (omega arith) k (omega arith)) (row_at rows i).kind (fitting i h)

  -- a row's depth from those of the rows below it
  pub depth_law :
      (depth : ℕ → Depth) (i : ℕ) → i < length rows → ((j : ℕ) → j < i → depth j ≡ depth_at rows j)
      → depth_by (row_at rows i).kind (depth (row_at rows i).p) (depth (row_at rows i).q) (depth (row_at rows i).r) ≡ depth_at rows i
  unfolding depth_at
  depth_law depth i h below =
      depth_node rows i (row_at rows i) depth below (row_at rows i).kind (fitting i h)
      ∙ ap₂
      (λ (e : Expr) (s : Stmt). record { height = height e; nesting = nesting s; loops = loop_nesting s })
      (sym (expr_of_fitting i h))
      (sym (stmt_of_fitting i h))

module _ (rows : List Row) (sound : Sound rows) where
  pub expr_law : (i : ℕ) → i < length rows → expr_at rows i ≡ expr_node (expr_at rows) (row_at rows i) (row_at rows i).kind
  expr_law = expr_of_fitting rows sound.row

  pub stmt_law : (i : ℕ) → i < length rows → stmt_at rows i ≡ stmt_node (expr_at rows) (stmt_at rows) i (row_at rows i) (row_at rows i).kind
  stmt_law = stmt_of_fitting rows sound.row

-- ---- induction over the statements of a judged table

-- What has to be shown of a property of a row and its statement, kind by kind: children have lower rows.
pub record EachKind (P : ℕ → Stmt → Type 0) : Type 0 where
  pub of_skip : (i : ℕ) → P i skip
  pub of_assign : (i v : ℕ) (e : Expr) → v < width → P i (assign v e)
  pub of_sequence : (i j k : ℕ) (s t : Stmt) → j < i → k < i → P j s → P k t → P i (sequence s t)
  pub of_if : (i j k : ℕ) (e : Expr) (s t : Stmt) → j < i → k < i → P j s → P k t → P i (if e s t)
  pub of_while : (i j : ℕ) (e : Expr) (s : Stmt) → j < i → P j s → P i (while e s)
  pub of_output : (i channel : ℕ) (e : Expr) → channel ≤ highest_channel → P i (output channel e i)

module _ (rows : List Row) (sound : Sound rows) (P : ℕ → Stmt → Type 0) (each : EachKind P) where
  node_holds :
      (i : ℕ) → ((j : ℕ) → j < i → P j (stmt_at rows j)) → (row : Row) (kind : Kind) → SoundRow rows i kind row
      → P i (stmt_node (expr_at rows) (stmt_at rows) i row kind)
  unfolding stmt_node roles_of
  node_holds i below row Kind.Skip fine = each.of_skip i
  node_holds i below row Kind.Assign fine = each.of_assign i row.p (expr_at rows row.q) fine.p
  node_holds i below row Kind.Sequence fine =
      each.of_sequence i row.p row.q _ _ fine.p.0 fine.q.0 (below row.p fine.p.0) (below row.q fine.q.0)
  node_holds i below row Kind.If fine =
      each.of_if i row.q row.r (expr_at rows row.p) _ _ fine.q.0 fine.r.0 (below row.q fine.q.0) (below row.r fine.r.0)
  node_holds i below row Kind.While fine =
      each.of_while i row.q (expr_at rows row.p) _ fine.q.0 (below row.q fine.q.0)
  node_holds i below row Kind.Output fine = each.of_output i row.p (expr_at rows row.q) fine.p
  node_holds i below row Kind.Constant fine = each.of_skip i
  node_holds i below row Kind.Variable fine = each.of_skip i
  node_holds i below row Kind.Binary fine = each.of_skip i
  node_holds i below row Kind.Unknown fine = each.of_skip i

  holds_below : (n i : ℕ) → i < n → n ≤ length rows → P i (stmt_at rows i)
  holds_below zero i h few = absurd (omega arith)
  holds_below (suc n) i h few =
      subst (P i) (sym (stmt_law rows sound i (omega arith)))
      (node_holds i (λ j g. holds_below n j (omega arith) (omega arith)) (row_at rows i) (row_at rows i).kind (sound.row i (omega arith)))

  pub stmt_induction : (i : ℕ) → i < length rows → P i (stmt_at rows i)
  stmt_induction i h = holds_below (length rows) i h (omega arith)

-- the recipe is the statement of the last row
pub recipe_law : (rows : List Row) → recipe rows ≡ stmt_at rows (length rows - 1)
unfolding recipe
recipe_law rows = refl

-- a row that was read: what its words are once its kind is known, and what it stands for
module _ {rows : List Row} {i : ℕ} {row : Row} (sound : Sound rows) (within : i < length rows) (read : row ≡ row_at rows i) where
  pub sound_as : {kind : Kind} → row.kind ≡ kind → SoundRow rows i kind row
  sound_as e =
      subst (λ (k : Kind). SoundRow rows i k row) e
      (subst (λ (r : Row). SoundRow rows i r.kind r) (sym read) (sound.row i within))

  pub expr_of_row : expr_node (expr_at rows) row row.kind ≡ expr_at rows i
  expr_of_row = ap (λ (r : Row). expr_node (expr_at rows) r r.kind) read ∙ sym (expr_law rows sound i within)

  pub stmt_of_row : stmt_node (expr_at rows) (stmt_at rows) i row row.kind ≡ stmt_at rows i
  stmt_of_row =
      ap (λ (r : Row). stmt_node (expr_at rows) (stmt_at rows) i r r.kind) read ∙ sym (stmt_law rows sound i within)

-- a row that the table does not have stands for the constant 0, and for skip
pub expr_absent : (rows : List Row) (i : ℕ) → length rows ≤ i → expr_at rows i ≡ constant 0
unfolding expr_at expr_in expr_node absent
expr_absent rows i h = ap (λ (r : Row). expr_node (expr_in i rows) r r.kind) (row_absent rows i h)

pub stmt_absent : (rows : List Row) (i : ℕ) → length rows ≤ i → stmt_at rows i ≡ skip
unfolding stmt_at stmt_in stmt_node absent
stmt_absent rows i h = ap (λ (r : Row). stmt_node (expr_at rows) (stmt_in i rows) i r r.kind) (row_absent rows i h)
