-- What a text reads as: a recipe; or a refusal, and the part of the text that is handed back.
use Rattle.std.specs.Prelude.{ℕ, ◌≤◌, ◌<◌, Bool, true, false, List, [], ◌∷◌, ◌++◌, ◌≡◌, leb, length, take, drop}
use Rattle.rules.specs.Judged.{Judged}
use Rattle.rules.specs.Limits.{most_rows}
use Rattle.rules.specs.Marks.{none, has, put}
use Rattle.rules.specs.Judging.{judge}
use Rattle.language.specs.declared.Part.{Part}
use Rattle.language.specs.Said.{Said}
use Rattle.language.specs.Limits.{most_text_bytes, too_long, faulty_word, declared_again, too_many_rows, table_too_short}
use Rattle.language.specs.Words.{Word, words_from}
use Rattle.language.specs.Tokens.{Token, token_of, tokens}
use Rattle.language.specs.Recipes.{Declaration, Recipe, declaration_tokens, recipe_tokens}
use Rattle.language.specs.Tables.{block_size, table_of, marks_of}

-- the words of a whole text
abbrev pub words_of : List ℕ → List Word
words_of text = words_from 0 text

-- The text is this recipe.
abbrev pub Is : List ℕ → Recipe → Type 0
Is text r = tokens (words_of text) ≡ recipe_tokens r

-- some recipe begins with these words
abbrev pub Begun : List Token → Type 0
Begun first = (r : Recipe) × (rest : List Token) × (recipe_tokens r ≡ first ++ rest)

-- Where the rest is empty, the fault is at the end: some recipe begins with the words of the text, but they are no recipe.
-- 13.13: Refusal 10, at 0: the text's words are no recipe; the faulty word is the first with which no recipe begins that
-- begins with the words before it, and where there is none such the fault is at the end.
pub record Fault (words rest : List Word) : Type 0 where
  pub before : List Word
  pub split : words ≡ before ++ rest
  pub begun : Begun (tokens before)
  pub stuck : (w : Word) (after : List Word) → rest ≡ w ∷ after → Begun (tokens before ++ token_of w.bytes ∷ []) → ⊥
  pub unfinished : (r : Recipe) → tokens words ≡ recipe_tokens r → ⊥

-- the bytes of a part of a text
-- 13.20: The faulty word is handed back as the part of the text where it stands, ..
abbrev pub handed : List ℕ → Part → List ℕ
handed text p = take p.size (drop p.start text)

-- 13.20: .. in every other case the part is the empty one at the text's end.
abbrev pub end_of : List ℕ → Part
end_of text = record { start = length text; size = 0 }

-- the first of the words, or the end of the text
-- 13.20: The faulty word is handed back as the part of the text where it stands, ..
unfoldable pub part_at : List ℕ → List Word → Part
part_at text [] = end_of text
part_at text (w ∷ rest) = record { start = w.start; size = length w.bytes }

-- The words from that of the first variable that is declared again on, or none; seen are the variables declared before
-- these.
-- 13.14: .. the faulty word is that variable in the first such declaration.
unfoldable pub on_declared : Bool → List Word → List Word → List Word
on_declared true here later = here
on_declared false here later = later

unfoldable pub repeated : ℕ → List Declaration → List Word → List Word
repeated seen [] words = []
repeated seen (d ∷ ds) words =
    on_declared (has seen d.variable) (drop 1 words)
    (repeated (put d.variable true seen) ds (drop (length (declaration_tokens d)) words))

-- 13.18: .. with 0 rows and no marks, and the table is as it was lent.
abbrev pub refused : ℕ → ℕ → Part → Said
refused number at part = record { refusal = number; at = at; rows = 0; marks = none; part = part }

-- what is said, and the words of the table that was lent, afterwards
pub record Reading : Type 0 where
  pub said : Said
  pub table : List ℕ

abbrev pub untouched : Said → List ℕ → Reading
untouched said table = record { said = said; table = table }

-- 13.17: Refusal 13, at 0: the table that is lent has fewer words than the rows take.
-- 13.19: A text that is not refused is answered with the number of its rows and its start marks, and the rows stand at the
-- front of the table; the words after them keep what they held.
unfoldable pub laid : Bool → List ℕ → Recipe → ℕ → List ℕ → Reading
laid true text r marks table = record {
  said = record { refusal = 0; at = 0; rows = block_size r.block; marks = marks; part = end_of text };
  table = table_of r ++ drop (length (table_of r)) table;
}
laid false text r marks table = untouched (refused table_too_short 0 (end_of text)) table

-- 13.16: Refusal 5, at the row: the judge gives it for the recipe's table.
unfoldable pub judged : Judged → List ℕ → Recipe → ℕ → List ℕ → Reading
judged (Judged.Refused number row) text r marks table = untouched (refused number row (end_of text)) table
judged Judged.Accepted text r marks table = laid (leb (length (table_of r)) (length table)) text r marks table

-- 13.15: Refusal 12, at 0: the recipe has more than 512 rows.
unfoldable pub sized : Bool → List ℕ → Recipe → ℕ → List ℕ → Reading
sized false text r marks table = untouched (refused too_many_rows 0 (end_of text)) table
sized true text r marks table = judged (judge (table_of r)) text r marks table

-- 13.14: Refusal 11, at 0: a variable is declared that was declared before; ..
unfoldable pub declared : List Word → List ℕ → Recipe → ℕ → List ℕ → Reading
declared (w ∷ rest) text r marks table = untouched (refused declared_again 0 (part_at text (w ∷ rest))) table
declared [] text r marks table = sized (leb (block_size r.block) most_rows) text r marks table

-- where a plain declaration means this
-- 13.18: The first of 9, 10, 11, 12, 5 and 13 that applies is given, ..
unfoldable pub reading_of : Bool → List ℕ → Recipe → List ℕ → Reading
reading_of meant text r table =
    declared (repeated none r.declarations (words_of text)) text r (marks_of meant r.declarations) table

-- Too long; at fault; or a recipe.
-- 13.12: Refusal 9, at 0: the text has more than 16,384 bytes.
-- 13.18: The first of 9, 10, 11, 12, 5 and 13 that applies is given, ..
pub data Reads (meant : Bool) (text table : List ℕ) : Reading → Type 0 where
  long : most_text_bytes < length text → Reads meant text table (untouched (refused too_long 0 (end_of text)) table)
  faulty :
      length text ≤ most_text_bytes → (rest : List Word) → Fault (words_of text) rest
      → Reads meant text table (untouched (refused faulty_word 0 (part_at text rest)) table)
  read : length text ≤ most_text_bytes → (r : Recipe) → Is text r → Reads meant text table (reading_of meant text r table)
