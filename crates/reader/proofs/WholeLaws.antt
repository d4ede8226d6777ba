-- What is answered to a whole text.
use Prim.Native.Nat.{ℕ, ◌-◌, ◌*◌, ◌≤◌, ◌<◌}
use native.Mathlib.Omega.{arith}
use mathlib.Core.Bool.{Bool, true, false}
use mathlib.Core.List.{List, [], ◌∷◌, ◌++◌}
use mathlib.Core.Path.{◌≡◌, refl, sym, ap, ap₂, subst, ◌∙◌}
use lib.Dec.{leb}
use lib.ListN.{length, take, drop}
use borrow.Author.Tests.{le-leb, lt-leb}
use Rattle.rules.specs.Judged.{Judged}
use Rattle.rules.specs.Limits.{row_words, most_rows}
use Rattle.rules.specs.Judging.{judge}
use Rattle.rules.specs.Marks.{none}
use Rattle.language.specs.declared.Unread.{Unread}
use Rattle.language.specs.Answers.{flaw_number, flaw_row}
use Rattle.language.specs.Said.{Said}
use Rattle.language.specs.Limits.{declared_again, too_many_rows, table_too_short}
use Rattle.language.specs.Words.{Word}
use Rattle.language.specs.Recipes.{Recipe}
use Rattle.language.specs.Tables.{block_size, table_of, marks_of}
use Rattle.language.specs.Readings.{words_of, end_of, part_at, repeated, refused, laid, judged, sized, declared, reading_of}
use Rattle.language.proofs.RowCounts.{table_words_lem}
use Rattle.reader.specs.Heads.{StandsAt}
use Rattle.reader.specs.Wholes.{turned_away, answered, Made}
use Rattle.std.specs.Prelude.{Some, None}
use Rattle.spans.specs.declared.Span.{Span}
use Rattle.reader.specs.declared.head.Seen.{Seen}

-- ---- a variable that is declared again

again_part : (words : List Word) (text : List ℕ) (name : Span) (r : Recipe) (marks : ℕ) (table : List ℕ) → StandsAt words (Some name)
    → answered (turned_away declared_again 0 name.start name.end) table ≡ declared words text r marks table
unfolding declared part_at
again_part [] text name r marks table stands = absurd stands
again_part (w ∷ words) text name r marks table (a, b, c) =
    let size : name.end - name.start ≡ length w.bytes = omega (arith, b) in
    ap₂ (λ (x y : ℕ). answered (refused declared_again 0 (record { start = x; size = y })) table) a size

pub made_again : (text : List ℕ) (s : Seen) (rows : List ℕ) (count : ℕ) (table : List ℕ) {name : Span} → s.again ≡ Some name
    → Made text s rows count table (turned_away declared_again 0 name.start name.end) table
unfolding reading_of
made_again text s rows count table {name} is r stands marks counted put =
    again_part (repeated none r.declarations (words_of text)) text name r (marks_of false r.declarations) table
    (subst (StandsAt (repeated none r.declarations (words_of text))) is stands)

-- ---- none is declared again

not_again : (words : List Word) (text : List ℕ) (r : Recipe) (marks : ℕ) (table : List ℕ) → StandsAt words None
    → sized (leb (block_size r.block) most_rows) text r marks table ≡ declared words text r marks table
unfolding declared
not_again [] text r marks table stands = refl
not_again (w ∷ words) text r marks table stands = absurd stands

made : (text : List ℕ) (s : Seen) (r : Recipe) (table : List ℕ) → s.again ≡ None
    → StandsAt (repeated none r.declarations (words_of text)) s.again
    → sized (leb (block_size r.block) most_rows) text r (marks_of false r.declarations) table ≡ reading_of false text r table
unfolding reading_of
made text s r table is stands =
    not_again (repeated none r.declarations (words_of text)) text r (marks_of false r.declarations) table
    (subst (StandsAt (repeated none r.declarations (words_of text))) is stands)

pub made_many : (text : List ℕ) (s : Seen) (rows : List ℕ) (count : ℕ) (table : List ℕ) → s.again ≡ None → most_rows < count
    → Made text s rows count table (refused too_many_rows 0 (end_of text)) table
unfolding sized
made_many text s rows count table is many r stands marks counted put =
    ap (λ (b : Bool). sized b text r (marks_of false r.declarations) table) (sym (lt-leb (block_size r.block) most_rows (omega (arith, counted, many))))
    ∙ made text s r table is stands

-- at most as many rows as there may be
few : (text : List ℕ) (s : Seen) (r : Recipe) (table : List ℕ) → s.again ≡ None
    → StandsAt (repeated none r.declarations (words_of text)) s.again → block_size r.block ≤ most_rows
    → judged (judge (table_of r)) text r (marks_of false r.declarations) table ≡ reading_of false text r table
unfolding sized
few text s r table is stands h =
    ap (λ (b : Bool). sized b text r (marks_of false r.declarations) table) (sym (le-leb (block_size r.block) most_rows h))
    ∙ made text s r table is stands

pub made_judged : (text : List ℕ) (s : Seen) (rows : List ℕ) (count : ℕ) (table : List ℕ) (number row : ℕ) → s.again ≡ None → count ≤ most_rows
    → judge (take (count * row_words) rows) ≡ Judged.Refused number row
    → Made text s rows count table (refused number row (end_of text)) table
unfolding judged
made_judged text s rows count table number row is h verdict r stands marks counted put =
    let small : block_size r.block ≤ most_rows = omega (arith, counted, h) in
    ap (λ (j : Judged). judged j text r (marks_of false r.declarations) table) (sym verdict ∙ ap judge (put small))
    ∙ few text s r table is stands small

laid_where : (text : List ℕ) (s : Seen) (rows : List ℕ) (count : ℕ) (table : List ℕ) (b : Bool) → s.again ≡ None → count ≤ most_rows
    → judge (take (count * row_words) rows) ≡ Judged.Accepted → leb (count * row_words) (length table) ≡ b → (r : Recipe)
    → StandsAt (repeated none r.declarations (words_of text)) s.again → count ≡ block_size r.block
    → (block_size r.block ≤ most_rows → take (count * row_words) rows ≡ table_of r)
    → laid b text r (marks_of false r.declarations) table ≡ reading_of false text r table
unfolding judged
laid_where text s rows count table b is h verdict fits r stands counted put =
    let small : block_size r.block ≤ most_rows = omega (arith, counted, h) in
    ap (λ (x : Bool). laid x text r (marks_of false r.declarations) table)
    (sym fits ∙ ap (λ (n : ℕ). leb n (length table)) (ap (λ (n : ℕ). n * row_words) counted ∙ sym (table_words_lem r)))
    ∙ ap (λ (j : Judged). judged j text r (marks_of false r.declarations) table) (sym verdict ∙ ap judge (put small))
    ∙ few text s r table is stands small

pub made_short : (text : List ℕ) (s : Seen) (rows : List ℕ) (count : ℕ) (table : List ℕ) → s.again ≡ None → count ≤ most_rows
    → judge (take (count * row_words) rows) ≡ Judged.Accepted → length table < count * row_words
    → Made text s rows count table (refused table_too_short 0 (end_of text)) table
unfolding laid
made_short text s rows count table is h verdict short r stands marks counted put =
    laid_where text s rows count table false is h verdict (lt-leb (count * row_words) (length table) short) r stands counted put

pub made_laid : (text : List ℕ) (s : Seen) (rows : List ℕ) (count : ℕ) (table : List ℕ) → s.again ≡ None → count ≤ most_rows
    → judge (take (count * row_words) rows) ≡ Judged.Accepted → count * row_words ≤ length table
    → Made text s rows count table
    (record { refusal = 0; at = 0; rows = count; marks = s.marks; part = record { start = length text; size = 0 } })
    (take (count * row_words) rows ++ drop (count * row_words) table)
unfolding laid
made_laid text s rows count table is h verdict fits r stands marks counted put =
    let small : block_size r.block ≤ most_rows = omega (arith, counted, h) in
    let size : count * row_words ≡ length (table_of r) = ap (λ (n : ℕ). n * row_words) counted ∙ sym (table_words_lem r) in
    ap₂ answered
    (ap₂ (λ (n m : ℕ). record { refusal = 0; at = 0; rows = n; marks = m; part = end_of text }) counted marks)
    (ap₂ (λ (a : List ℕ) (n : ℕ). a ++ drop n table) (put small) size)
    ∙ laid_where text s rows count table true is h verdict (le-leb (count * row_words) (length table) fits) r stands counted put

-- the same, where what is said, and the table afterwards, are known by equations
pub made_as : (text : List ℕ) (s : Seen) (rows : List ℕ) (count : ℕ) (table : List ℕ) {said other : Said} {left kept : List ℕ}
    → said ≡ other → left ≡ kept → Made text s rows count table other kept → Made text s rows count table said left
made_as text s rows count table e f m r stands marks counted put = ap₂ answered e f ∙ m r stands marks counted put

-- what a refusal says that is known by an equation
pub said_flaw : {u v : Unread} → u ≡ v
    → refused (flaw_number u.flaw) (flaw_row u.flaw) u.part ≡ refused (flaw_number v.flaw) (flaw_row v.flaw) v.part
said_flaw e = ap (λ (u : Unread). refused (flaw_number u.flaw) (flaw_row u.flaw) u.part) e
