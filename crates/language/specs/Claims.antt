-- What is claimed of texts and recipes, and every claim of this crate. Its one proof cites theirs, so that none of them can go missing.
use Rattle.std.specs.Prelude.{ℕ, ◌*◌, ◌≤◌, ◌<◌, Bool, List, ◌∷◌, ◌++◌, ◌⊎◌, ◌≡◌, length, take, drop}
use Rattle.rules.specs.Judged.{Judged}
use Rattle.rules.specs.Limits.{row_words, most_rows}
use Rattle.rules.specs.Marks.{none, has}
use Rattle.rules.specs.Rows.{rows_of}
use Rattle.rules.specs.Trees as tree
use Rattle.rules.specs.Judging.{judge}
use Rattle.language.specs.Limits.{most_text_bytes, faulty_word}
use Rattle.language.specs.Words.{Word}
use Rattle.language.specs.Tokens.{tokens}
use Rattle.language.specs.Recipes.{Recipe}
use Rattle.language.specs.Tables.{block_size, table_of, block_tree, is_declared_provisional}
use Rattle.language.specs.Readings.{words_of, Is, Begun, handed, part_at, Reading, Reads}
use Rattle.language.specs.Cases.{TextsRead, TextsRefused, FaultsFound, WordsTold}

-- 13.21: No two recipes are the same words, ..
abbrev pub SingleReading : Type 0
SingleReading = (text : List ℕ) (r other : Recipe) → Is text r → Is text other → r ≡ other

-- What a text reads as is decided, the table afterwards too.
-- 13.21: .. a text has one answer.
abbrev pub OneAnswer : Type 0
OneAnswer = (meant : Bool) (text table : List ℕ) (a b : Reading) → Reads meant text table a → Reads meant text table b → a ≡ b

-- A text that is not too long is refused by 10 exactly where it is no recipe.
-- 13.13: Refusal 10, at 0: the text's words are no recipe; ..
abbrev pub ExactlyRecipes : Type 0
ExactlyRecipes =
    (meant : Bool) (text table : List ℕ) (a : Reading) → Reads meant text table a → length text ≤ most_text_bytes
    → ((r : Recipe) → Is text r → a.said.refusal ≡ faulty_word → ⊥) × ((a.said.refusal ≡ faulty_word → ⊥) → (r : Recipe) × Is text r)

-- As many words as stand before a place, or fewer, can be gone on with to a recipe; with the word there, or more, they cannot.
pub record First (words rest : List Word) : Type 0 where
  pub before : List Word
  pub split : words ≡ before ++ rest
  pub begun : (k : ℕ) → k ≤ length before → Begun (tokens (take k words))
  pub stuck : (k : ℕ) → length before < k → k ≤ length words → Begun (tokens (take k words)) → ⊥

-- What is handed back with 10 stands at that place.
-- 13.13: .. the faulty word is the first with which no recipe begins that begins with the words before it, and where there
-- is none such the fault is at the end.
abbrev pub FaultIsFirst : Type 0
FaultIsFirst =
    (meant : Bool) (text table : List ℕ) (a : Reading) → Reads meant text table a → a.said.refusal ≡ faulty_word
    → (rest : List Word) × (a.said.part ≡ part_at text rest) × First (words_of text) rest

-- 13.20: The faulty word is handed back as the part of the text where it stands, ..
abbrev pub PartIsTheWord : Type 0
PartIsTheWord =
    (text : List ℕ) (before rest : List Word) (w : Word) → words_of text ≡ before ++ w ∷ rest
    → handed text (part_at text (w ∷ rest)) ≡ w.bytes

-- 13.18: .. with 0 rows and no marks, and the table is as it was lent.
abbrev pub RefusedChangesNothing : Type 0
RefusedChangesNothing =
    (meant : Bool) (text table : List ℕ) (a : Reading) → Reads meant text table a → (a.said.refusal ≡ 0 → ⊥)
    → (a.said.rows ≡ 0) × (a.said.marks ≡ none) × (a.table ≡ table)

-- What is known of a text that is not refused: which recipe it is, that the marked variables are those that it declares provisional,
-- and that the rows at the front of the table are accepted and stand for it.
-- 13.11: The start marks are the variables that are declared provisional; a variable that is not declared is settled.
pub record Stands (meant : Bool) (text table : List ℕ) (a : Reading) : Type 0 where
  pub recipe : Recipe
  pub is : Is text recipe
  pub marks : (v : ℕ) → has a.said.marks v ≡ is_declared_provisional meant v recipe.declarations
  pub accepted : judge (take (a.said.rows * row_words) a.table) ≡ Judged.Accepted
  pub tree : tree.recipe (rows_of (take (a.said.rows * row_words) a.table)) ≡ block_tree 0 recipe.block
  pub kept : drop (a.said.rows * row_words) a.table ≡ drop (a.said.rows * row_words) table

-- 13.19: A text that is not refused is answered with the number of its rows and its start marks, and the rows stand at the
-- front of the table; the words after them keep what they held.
-- 13.22: .. it stands for the recipe that was written.
abbrev pub AcceptedStands : Type 0
AcceptedStands =
    (meant : Bool) (text table : List ℕ) (a : Reading) → Reads meant text table a → a.said.refusal ≡ 0 → Stands meant text table a

-- 13.22: The table of a recipe of at most 512 rows is accepted by the judge or refused by 5, ..
abbrev pub TableIsJudged : Type 0
TableIsJudged =
    (text : List ℕ) (r : Recipe) → Is text r → block_size r.block ≤ most_rows
    → (judge (table_of r) ≡ Judged.Accepted) ⊎ ((row : ℕ) × (judge (table_of r) ≡ Judged.Refused 5 row))

-- 13.22: .. it stands for the recipe that was written.
abbrev pub RowsAreTheTree : Type 0
RowsAreTheTree = (text : List ℕ) (r : Recipe) → Is text r → tree.recipe (rows_of (table_of r)) ≡ block_tree 0 r.block

pub record Claims : Type 0 where
  pub single_reading : SingleReading
  pub one_answer : OneAnswer
  pub exactly_recipes : ExactlyRecipes
  pub fault_is_first : FaultIsFirst
  pub part_is_the_word : PartIsTheWord
  pub refused_changes_nothing : RefusedChangesNothing
  pub accepted_stands : AcceptedStands
  pub table_is_judged : TableIsJudged
  pub rows_are_the_tree : RowsAreTheTree
  pub texts_read : TextsRead
  pub texts_refused : TextsRefused
  pub faults_found : FaultsFound
  pub words_told : WordsTold
