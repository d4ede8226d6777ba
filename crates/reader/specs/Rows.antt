-- Rows that are put into a table of the most rows, one after the other; what comes after the last row of a table is put nowhere.
use Rattle.std.specs.Prelude.{ℕ, ◌+◌, ◌*◌, cond, List, [], ◌∷◌, ltb}
use lib.Seq.{sets}
use Rattle.rules.specs.Limits.{row_words, most_rows}
use Rattle.rules.specs.Cases.{Quad, words_of}

unfoldable pub row_put : ℕ → Quad → List ℕ → List ℕ
row_put row quad table = cond (ltb row most_rows) (sets table (row * row_words) (words_of (quad ∷ []))) table

-- the rows from row on
unfoldable pub rows_put : ℕ → List Quad → List ℕ → List ℕ
rows_put row [] table = table
rows_put row (quad ∷ quads) table = rows_put (row + 1) quads (row_put row quad table)
