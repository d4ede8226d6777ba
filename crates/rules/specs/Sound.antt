-- What the rows of an accepted table are, fact by fact and by name. No rule is decided here: these are the words in which
-- laws and private contracts speak of a judged table.
use Rattle.std.specs.Prelude.{ℕ, ◌+◌, ◌≤◌, ◌<◌, true, false, List, ◌≡◌, length}
use Rattle.rules.specs.declared.Kind.{Kind}
use Rattle.rules.specs.declared.Role.{Role}
use Rattle.rules.specs.declared.Row.{Row}
use Rattle.rules.specs.Limits.{width, most_rows, highest_channel, highest_operator, most_height, most_nesting, most_loop_nesting}
use Rattle.rules.specs.Rows.{roles_of, is_statement, is_expression, is_unknown, row_at}
use Rattle.rules.specs.Trees.{expr_at, stmt_at, height, nesting, loop_nesting}
use Rattle.rules.specs.Judging.{children, places}

-- a word of row i is what its role asks
abbrev pub Fits : List Row → ℕ → Role → ℕ → Type 0
Fits rows i Role.Unnamed w = w ≡ 0
Fits rows i Role.Variable w = w < width
Fits rows i Role.Statement w = (w < i) × (is_statement (row_at rows w).kind ≡ true)
Fits rows i Role.Expression w = (w < i) × (is_expression (row_at rows w).kind ≡ true)
Fits rows i Role.Value w = Unit {0}
Fits rows i Role.Channel w = w ≤ highest_channel
Fits rows i Role.Operator w = w ≤ highest_operator

-- row i is of a known kind, and each of its words is what the kind asks
pub record SoundRow (rows : List Row) (i : ℕ) (kind : Kind) (row : Row) : Type 0 where
  pub known : is_unknown kind ≡ false
  pub p : Fits rows i (roles_of kind).p row.p
  pub q : Fits rows i (roles_of kind).q row.q
  pub r : Fits rows i (roles_of kind).r row.r

-- every row is of a known kind and has the words that its kind asks
abbrev pub Fitting : List Row → Type 0
Fitting rows = (i : ℕ) → i < length rows → SoundRow rows i (row_at rows i).kind (row_at rows i)

-- a height, nesting and loop nesting that keep to the limits
pub record WithinLimits (height nesting loops : ℕ) : Type 0 where
  pub low : height ≤ most_height
  pub flat : nesting ≤ most_nesting
  pub few_loops : loops ≤ most_loop_nesting

-- no tree of the table is too deep
abbrev pub Shallow : List Row → ℕ → Type 0
Shallow rows i = WithinLimits (height (expr_at rows i)) (nesting (stmt_at rows i)) (loop_nesting (stmt_at rows i))

-- the rows of an accepted table
pub record Sound (rows : List Row) : Type 0 where
  pub some : 0 < length rows
  pub few : length rows ≤ most_rows
  pub row : Fitting rows
  pub parent : (i : ℕ) → i + 1 < length rows → places i (children rows) ≡ 1
  pub last : (i : ℕ) → i + 1 ≡ length rows → is_expression (row_at rows i).kind ≡ false
  pub depth : (i : ℕ) → i < length rows → Shallow rows i
