-- Section 2 of the rules: kinds, what each word of a row is, and the rows of a table of words.
use Rattle.std.specs.Prelude.{ℕ, Bool, true, false, cond, List, [], ◌∷◌, eqb, get_or}
use Rattle.rules.specs.declared.Kind.{Kind}
use Rattle.rules.specs.declared.Role.{Role}
use Rattle.rules.specs.declared.Roles.{Roles}
use Rattle.rules.specs.declared.Row.{Row}

-- 2.2: The kinds have these numbers, and every other number is an unknown kind.
unfoldable pub kind_of : ℕ → Kind
kind_of k =
    cond (eqb k 0) Kind.Skip
    (cond (eqb k 1) Kind.Assign
    (cond (eqb k 2) Kind.Sequence
    (cond (eqb k 3) Kind.If
    (cond (eqb k 4) Kind.While
    (cond (eqb k 5) Kind.Output
    (cond (eqb k 8) Kind.Constant
    (cond (eqb k 9) Kind.Variable
    (cond (eqb k 10) Kind.Binary Kind.Unknown))))))))

-- an unknown kind stands in no row, and 11 is the number of none
-- 2.2: The kinds have these numbers, and every other number is an unknown kind.
abbrev pub kind_number : Kind → ℕ
kind_number Kind.Skip = 0
kind_number Kind.Assign = 1
kind_number Kind.Sequence = 2
kind_number Kind.If = 3
kind_number Kind.While = 4
kind_number Kind.Output = 5
kind_number Kind.Constant = 8
kind_number Kind.Variable = 9
kind_number Kind.Binary = 10
kind_number Kind.Unknown = 11

-- 2.3: What p, q and r are is fixed by the kind; where nothing stands the word has no name.
unfoldable pub roles_of : Kind → Roles
roles_of Kind.Skip = record { p = Role.Unnamed; q = Role.Unnamed; r = Role.Unnamed }
roles_of Kind.Assign = record { p = Role.Variable; q = Role.Expression; r = Role.Unnamed }
roles_of Kind.Sequence = record { p = Role.Statement; q = Role.Statement; r = Role.Unnamed }
roles_of Kind.If = record { p = Role.Expression; q = Role.Statement; r = Role.Statement }
roles_of Kind.While = record { p = Role.Expression; q = Role.Statement; r = Role.Unnamed }
roles_of Kind.Output = record { p = Role.Channel; q = Role.Expression; r = Role.Unnamed }
roles_of Kind.Constant = record { p = Role.Value; q = Role.Unnamed; r = Role.Unnamed }
roles_of Kind.Variable = record { p = Role.Variable; q = Role.Unnamed; r = Role.Unnamed }
roles_of Kind.Binary = record { p = Role.Operator; q = Role.Expression; r = Role.Expression }
roles_of Kind.Unknown = record { p = Role.Unnamed; q = Role.Unnamed; r = Role.Unnamed }

-- 2.4: The kinds skip, assign, sequence, if, while and output are statements; constant, variable and binary are
-- expressions.
unfoldable pub is_statement : Kind → Bool
is_statement Kind.Skip = true
is_statement Kind.Assign = true
is_statement Kind.Sequence = true
is_statement Kind.If = true
is_statement Kind.While = true
is_statement Kind.Output = true
is_statement Kind.Constant = false
is_statement Kind.Variable = false
is_statement Kind.Binary = false
is_statement Kind.Unknown = false

unfoldable pub is_expression : Kind → Bool
is_expression Kind.Skip = false
is_expression Kind.Assign = false
is_expression Kind.Sequence = false
is_expression Kind.If = false
is_expression Kind.While = false
is_expression Kind.Output = false
is_expression Kind.Constant = true
is_expression Kind.Variable = true
is_expression Kind.Binary = true
is_expression Kind.Unknown = false

unfoldable pub is_unknown : Kind → Bool
is_unknown Kind.Skip = false
is_unknown Kind.Assign = false
is_unknown Kind.Sequence = false
is_unknown Kind.If = false
is_unknown Kind.While = false
is_unknown Kind.Output = false
is_unknown Kind.Constant = false
is_unknown Kind.Variable = false
is_unknown Kind.Binary = false
is_unknown Kind.Unknown = true

-- 2.1: A table is a list of words, and each four of them are a row: its kind, and then p, q and r.
unfoldable pub row_of : ℕ → ℕ → ℕ → ℕ → Row
row_of k p q r = record { kind = kind_of k; p = p; q = q; r = r }

-- The rows of a table of words. Words left over at the end make no row; refusal 1 is given for them.
unfoldable pub rows_of : List ℕ → List Row
rows_of [] = []
rows_of (k ∷ []) = []
rows_of (k ∷ p ∷ []) = []
rows_of (k ∷ p ∷ q ∷ []) = []
rows_of (k ∷ p ∷ q ∷ r ∷ words) = row_of k p q r ∷ rows_of words

-- A row that the table does not have is of no known kind.
unfoldable pub absent : Row
absent = record { kind = Kind.Unknown; p = 0; q = 0; r = 0 }

-- 2.5: Rows are numbered from 0, ..
unfoldable pub row_at : List Row → ℕ → Row
row_at rows i = get_or rows i absent
