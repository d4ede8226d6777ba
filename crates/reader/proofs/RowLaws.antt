-- Rows that are put into a table, one after the other: they stand at its front, and the table stays as long as it was.
use Prim.Native.Nat.{ℕ, ◌+◌, ◌*◌, ◌≤◌, ◌<◌}
use native.Mathlib.Numerals.{add-one, add-two, add-three}
use native.Mathlib.Omega.{arith}
use mathlib.Core.Bool.{Bool, true, false, cond}
use mathlib.Core.List.{List, [], ◌∷◌, ◌++◌, append_assoc, append-nil}
use mathlib.Core.Path.{◌≡◌, refl, sym, ap, ◌∙◌}
use lib.Dec.{ltb}
use lib.ListN.{length, take, drop, set as write, length-append}
use lib.Seq.{sets, sets-eq, length-sets, length-take-le, take_at}
use borrow.Author.Tests.{lt-ltb, le-ltb}
use Rattle.rules.specs.Limits.{row_words, most_rows, table_words}
use Rattle.rules.specs.Cases.{Quad, words_of}
use Rattle.reader.specs.Rows.{row_put, rows_put}

-- ---- one row

pub row_inside : (row : ℕ) (quad : Quad) (table : List ℕ) → row < most_rows → row_put row quad table ≡ sets table (row * row_words) (words_of (quad ∷ []))
unfolding row_put
row_inside row quad table h = ap (λ (b : Bool). cond b (sets table (row * row_words) (words_of (quad ∷ []))) table) (lt-ltb row most_rows h)

-- its four words, one after the other
pub row_sets : (row : ℕ) (quad : Quad) (table : List ℕ) → row < most_rows
    → write (write (write (write table (row * 4) quad.0) (row * 4 + 1) quad.1) (row * 4 + 2) quad.2) (row * 4 + 3) quad.3
    ≡ row_put row quad table
unfolding words_of
row_sets row quad table h = simp (add-one, add-two, add-three) (sym (row_inside row quad table h))

pub row_beyond : (row : ℕ) (quad : Quad) (table : List ℕ) → most_rows ≤ row → row_put row quad table ≡ table
unfolding row_put
row_beyond row quad table h = ap (λ (b : Bool). cond b (sets table (row * row_words) (words_of (quad ∷ []))) table) (le-ltb row most_rows h)

pub row_put_length : (row : ℕ) (quad : Quad) (table : List ℕ) → length (row_put row quad table) ≡ length table
unfolding row_put
row_put_length row quad table = by (ltb row most_rows)
  where
    by : (b : Bool) → length (cond b (sets table (row * row_words) (words_of (quad ∷ []))) table) ≡ length table
    by true = length-sets table (row * row_words) (words_of (quad ∷ []))
    by false = refl

-- ---- many rows

pub rows_put_length : (row : ℕ) (quads : List Quad) (table : List ℕ) → length (rows_put row quads table) ≡ length table
unfolding rows_put
rows_put_length row [] table = refl
rows_put_length row (quad ∷ quads) table = rows_put_length (row + 1) quads (row_put row quad table) ∙ row_put_length row quad table

pub rows_put_append : (row : ℕ) (a b : List Quad) (table : List ℕ) → rows_put row (a ++ b) table ≡ rows_put (row + length a) b (rows_put row a table)
unfolding rows_put
rows_put_append row [] b table =
    let same : row ≡ row + length {A = Quad} [] = omega arith in
    ap (λ (n : ℕ). rows_put n b table) same
rows_put_append row (quad ∷ a) b table =
    let same : row + 1 + length a ≡ row + length (quad ∷ a) = omega arith in
    rows_put_append (row + 1) a b (row_put row quad table)
    ∙ ap (λ (n : ℕ). rows_put n b (rows_put (row + 1) a (row_put row quad table))) same

-- a row more at the end
pub rows_put_last : (row : ℕ) (a : List Quad) (quad : Quad) (table : List ℕ) → rows_put row (a ++ quad ∷ []) table ≡ row_put (row + length a) quad (rows_put row a table)
unfolding rows_put
rows_put_last row a quad table = rows_put_append row a (quad ∷ []) table

-- ---- the rows at the front

row_front : (row : ℕ) (quad : Quad) (table : List ℕ) → length table ≡ table_words → row < most_rows
    → take (4 * (row + 1)) (row_put row quad table) ≡ take (4 * row) table ++ words_of (quad ∷ [])
unfolding words_of
row_front row quad table long h =
    let words : List ℕ = words_of (quad ∷ []) in
    let at : ℕ = row * row_words in
    let fits : at + length words ≤ length table = omega arith in
    let front : List ℕ = take at table ++ words in
    let rest : List ℕ = drop (at + length words) table in
    let put : row_put row quad table ≡ front ++ rest =
    row_inside row quad table h ∙ sets-eq words table at fits in
    let before : length (take at table) ≡ at = length-take-le at table (omega arith) in
    let size : length front ≡ 4 * (row + 1) = length-append (take at table) words ∙ omega arith in
    let same : at ≡ 4 * row = omega arith in
    ap (take (4 * (row + 1))) put ∙ take_at front rest (4 * (row + 1)) size ∙ ap (λ (n : ℕ). take n table ++ words) same

rows_front_from : (quads : List Quad) (row : ℕ) (table : List ℕ) → length table ≡ table_words → row + length quads ≤ most_rows
    → take (4 * (row + length quads)) (rows_put row quads table) ≡ take (4 * row) table ++ words_of quads
unfolding rows_put words_of
rows_front_from [] row table long few =
    let same : 4 * (row + length {A = Quad} []) ≡ 4 * row = omega arith in
    ap (λ (n : ℕ). take n table) same ∙ sym (append-nil (take (4 * row) table))
rows_front_from (quad ∷ quads) row table long few =
    let same : 4 * (row + length (quad ∷ quads)) ≡ 4 * (row + 1 + length quads) = omega arith in
    ap (λ (n : ℕ). take n (rows_put (row + 1) quads (row_put row quad table))) same
    ∙ rows_front_from quads (row + 1) (row_put row quad table) (row_put_length row quad table ∙ long) (omega arith)
    ∙ ap (λ (l : List ℕ). l ++ words_of quads) (row_front row quad table long (omega arith))
    ∙ append_assoc (take (4 * row) table) (words_of (quad ∷ [])) (words_of quads)

pub rows_front : (quads : List Quad) (table : List ℕ) → length table ≡ table_words → length quads ≤ most_rows
    → take (4 * length quads) (rows_put 0 quads table) ≡ words_of quads
unfolding rows_put
rows_front quads table long few =
    let same : 4 * length quads ≡ 4 * (0 + length quads) = omega arith in
    ap (λ (n : ℕ). take n (rows_put 0 quads table)) same ∙ rows_front_from quads 0 table long (omega arith)
