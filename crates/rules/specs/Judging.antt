-- Section 4 of the rules: when each of the refusals 1 to 6 is given, and which one.
use Rattle.std.specs.Prelude.{ℕ, zero, suc, ◌+◌, ◌/◌, ◌%◌, Bool, false, cond, not, ◌||◌, List, [], ◌∷◌, ◌++◌, eqb, leb, ltb, length}
use Rattle.rules.specs.declared.Role.{Role}
use Rattle.rules.specs.declared.Row.{Row}
use Rattle.rules.specs.Judged.{Judged}
use Rattle.rules.specs.Limits.{width, row_words, most_rows, highest_channel, highest_operator, most_height, most_nesting, most_loop_nesting, most_trace_words}
use Rattle.rules.specs.Rows.{roles_of, is_statement, is_expression, is_unknown, rows_of, row_at}
use Rattle.rules.specs.Trees.{expr_at, stmt_at, height, nesting, loop_nesting}

-- 4.1: Refusal 1, at 0: the number of words is not a multiple of 4, or there is no row, or there are more than 512.
unfoldable pub wrong_count : List ℕ → Bool
wrong_count words =
    not (eqb (length words % row_words) 0) || eqb (length words / row_words) 0 || ltb most_rows (length words / row_words)

-- 4.2: Refusal 2, at the row: its kind is unknown, or a variable in it is over 31, a channel over 1 or an operator over 5,
-- or a word without a name is not 0.
unfoldable pub wrong_word : Role → ℕ → Bool
wrong_word Role.Unnamed w = not (eqb w 0)
wrong_word Role.Variable w = leb width w
wrong_word Role.Statement w = false
wrong_word Role.Expression w = false
wrong_word Role.Value w = false
wrong_word Role.Channel w = ltb highest_channel w
wrong_word Role.Operator w = ltb highest_operator w

unfoldable pub wrong_words : Row → Bool
wrong_words row =
    is_unknown row.kind || wrong_word (roles_of row.kind).p row.p || wrong_word (roles_of row.kind).q row.q
    || wrong_word (roles_of row.kind).r row.r

-- 4.3: Refusal 3, at the row: a child's number is not lower than its own, or a child is an expression where a statement
-- belongs, or the other way round.
unfoldable pub wrong_child : List Row → ℕ → Role → ℕ → Bool
wrong_child rows parent Role.Unnamed w = false
wrong_child rows parent Role.Variable w = false
wrong_child rows parent Role.Statement w = leb parent w || not (is_statement (row_at rows w).kind)
wrong_child rows parent Role.Expression w = leb parent w || not (is_expression (row_at rows w).kind)
wrong_child rows parent Role.Value w = false
wrong_child rows parent Role.Channel w = false
wrong_child rows parent Role.Operator w = false

unfoldable pub wrong_children : List Row → ℕ → Row → Bool
wrong_children rows i row =
    wrong_child rows i (roles_of row.kind).p row.p || wrong_child rows i (roles_of row.kind).q row.q
    || wrong_child rows i (roles_of row.kind).r row.r

-- the row that a word names, if it names one
-- 2.5: .. a word that is a statement or an expression names a row by its number: that row is a child.
unfoldable pub child_of : Role → ℕ → List ℕ
child_of Role.Unnamed w = []
child_of Role.Variable w = []
child_of Role.Statement w = w ∷ []
child_of Role.Expression w = w ∷ []
child_of Role.Value w = []
child_of Role.Channel w = []
child_of Role.Operator w = []

-- every place at which a row stands as a child, as the child's number
unfoldable pub children : List Row → List ℕ
children [] = []
children (row ∷ rows) =
    child_of (roles_of row.kind).p row.p ++ child_of (roles_of row.kind).q row.q ++ child_of (roles_of row.kind).r row.r
    ++ children rows

-- how many of the numbers are i
unfoldable pub places : ℕ → List ℕ → ℕ
places i [] = 0
places i (child ∷ rest) = cond (eqb child i) 1 0 + places i rest

-- 4.4: Refusal 4, at the row: it is not the last and does not stand as a child at exactly one place, or it is the last and
-- an expression.
unfoldable pub wrong_parents : List Row → List ℕ → ℕ → Bool
wrong_parents rows childs i = cond (eqb (i + 1) (length rows)) (is_expression (row_at rows i).kind) (not (eqb (places i childs) 1))

-- 4.5: Refusal 5, at the row: its height is over 16, its nesting over 8 or its loop nesting over 3.
unfoldable pub too_deep : List Row → ℕ → Bool
too_deep rows i =
    ltb most_height (height (expr_at rows i)) || ltb most_nesting (nesting (stmt_at rows i)) || ltb most_loop_nesting (loop_nesting (stmt_at rows i))

-- the refusal, at the lowest of the n rows from i on to which it applies
unfoldable pub lowest : ℕ → (ℕ → Bool) → ℕ → ℕ → Judged
lowest number applies i zero = Judged.Accepted
lowest number applies i (suc n) = cond (applies i) (Judged.Refused number i) (lowest number applies (i + 1) n)

unfoldable pub or_else : Judged → Judged → Judged
or_else Judged.Accepted next = next
or_else (Judged.Refused number row) next = Judged.Refused number row

unfoldable pub judge_rows : List Row → Judged
judge_rows rows =
    or_else (lowest 2 (λ i. wrong_words (row_at rows i)) 0 (length rows))
    (or_else (lowest 3 (λ i. wrong_children rows i (row_at rows i)) 0 (length rows))
    (or_else (lowest 4 (wrong_parents rows (children rows)) 0 (length rows)) (lowest 5 (too_deep rows) 0 (length rows))))

-- The table's part: 1 to 5.
-- 4.7: Of the refusals 1 to 6 that apply anywhere, the one with the lowest number is given, at the lowest row at which it
-- applies; where none applies the table is accepted.
unfoldable pub judge : List ℕ → Judged
judge words = or_else (cond (wrong_count words) (Judged.Refused 1 0) Judged.Accepted) (judge_rows (rows_of words))

-- 4.6: Refusal 6, at 0: the trace that is lent has more than 16,384 words.
unfoldable pub judge_trace : ℕ → Judged
judge_trace trace_words = cond (ltb most_trace_words trace_words) (Judged.Refused 6 0) Judged.Accepted
