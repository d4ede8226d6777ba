-- What is answered to a whole text.
use Rattle.std.specs.Prelude.{ℕ, ◌-◌, ◌*◌, ◌≤◌, false, List, ◌≡◌, take}
use Rattle.rules.specs.Limits.{row_words, most_rows}
use Rattle.rules.specs.Marks.{none}
use Rattle.language.specs.Said.{Said}
use Rattle.language.specs.Limits.{faulty_word}
use Rattle.language.specs.Recipes.{Recipe}
use Rattle.language.specs.Tables.{block_size, table_of, marks_of}
use Rattle.language.specs.Readings.{words_of, repeated, part_at, refused, Reading, reading_of}
use Rattle.spans.specs.Cut.{from}
use Rattle.reader.specs.Heads.{StandsAt}
use Rattle.reader.specs.declared.head.Seen.{Seen}

-- a refusal, with the part from a place to another
abbrev pub turned_away : ℕ → ℕ → ℕ → ℕ → Said
turned_away number at start end = refused number at (record { start = start; size = end - start })

-- where no recipe goes on with the first word from a place on
abbrev pub blamed : List ℕ → ℕ → Said
blamed text place = refused faulty_word 0 (part_at text (from text place))

abbrev pub answered : Said → List ℕ → Reading
answered said table = record { said = said; table = table }

-- what is answered where a text is a recipe, whose declarations were seen and whose rows stand at the front of these
abbrev pub Made : List ℕ → Seen → List ℕ → ℕ → List ℕ → Said → List ℕ → Type 0
Made text s rows count table said left =
    (r : Recipe) → StandsAt (repeated none r.declarations (words_of text)) s.again → s.marks ≡ marks_of false r.declarations
    → count ≡ block_size r.block → (block_size r.block ≤ most_rows → take (count * row_words) rows ≡ table_of r)
    → answered said left ≡ reading_of false text r table
