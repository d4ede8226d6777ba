-- What reading a part of a recipe from a place on comes to.
use Rattle.std.specs.Prelude.{Result, Ok, Err, ℕ, ◌+◌, ◌≤◌, false, List, [], ◌∷◌, ◌++◌, ◌≡◌, length}
use Rattle.rules.specs.Cases.{Quad}
use Rattle.rules.specs.Trees.{Expr}
use Rattle.language.specs.Limits.{most_text_bytes}
use Rattle.language.specs.Words.{Word}
use Rattle.language.specs.Tokens as word
use Rattle.language.specs.Tokens.{Token, tokens}
use Rattle.language.specs.Recipes.{Statement, Block, expr_tokens, statement_tokens, block_tokens}
use Rattle.language.specs.Tables.{expr_size, statement_size, block_size, expr_rows, statement_rows, block_rows}
use Rattle.spans.specs.Cut.{from}
use Rattle.reader.specs.Machine.{is_word, Closer, Symbol, statement, rest, stuck, run}
use Rattle.reader.specs.Rows.{rows_put}
use Rattle.reader.specs.declared.expressions.Place.{Place}

-- what a reader of one sort of part needs to know of it: its words, its rows from a row on, and how many they are
pub record Sort (Tree : Type 0) : Type 0 where
  pub words : Tree → List Token
  pub rows : ℕ → Tree → List Quad
  pub size : Tree → ℕ

abbrev pub expressions : Sort Expr
expressions = record { words = expr_tokens; rows = expr_rows; size = expr_size }

abbrev pub statements : Sort Statement
statements = record { words = statement_tokens; rows = statement_rows; size = statement_size }

abbrev pub blocks : Sort Block
blocks = record { words = block_tokens; rows = block_rows; size = block_size }

-- the words from a later place on are the last of those from an earlier one on
pub record Later (text : List ℕ) (at next : ℕ) : Type 0 where
  pub between : List Word
  pub split : from text at ≡ between ++ from text next

-- This much of the text may be asked of: no text is too long, and no more rows were put than bytes were read.
pub record Asked (text : List ℕ) (from_place : Place) : Type 0 where
  pub inside : from_place.at ≤ length text
  pub short : length text ≤ most_text_bytes
  pub few : from_place.count ≤ from_place.at

-- A part was read: its words stand between the two places, and its rows were put.
pub record Read {Tree : Type 0} (sort : Sort Tree) (text : List ℕ) (at count : ℕ) (rows : List ℕ) (next total : ℕ) (left : List ℕ) : Type 0 where
  pub tree : Tree
  pub is : tokens (from text at) ≡ sort.words tree ++ tokens (from text next)
  pub later : Later text at next
  pub put : left ≡ rows_put count (sort.rows count tree) rows
  pub counted : total ≡ count + sort.size tree
  pub inside : next ≤ length text
  pub few : total + at ≤ count + next

-- No recipe goes on with the first word from a place on, whatever is still to come after these symbols.
pub record Stuck (text : List ℕ) (at : ℕ) (symbols : List Symbol) (place : ℕ) : Type 0 where
  pub stops : (others : List Symbol) → run (tokens (from text at)) (symbols ++ others) ≡ stuck (tokens (from text place))
  pub later : Later text at place

-- what is said of an expression or a statement from a place on, and the rows afterwards
abbrev pub Stepped : {Tree : Type 0} → Sort Tree → List Symbol → List ℕ → Place → List ℕ → Result Place ℕ → List ℕ → Type 0
Stepped sort symbols text at rows (Ok next) left = Read sort text at.at at.count rows next.at next.count left
Stepped sort symbols text at rows (Err place) left = Stuck text at.at symbols place

-- Another word than this stands at a place, or none.
abbrev pub Missing : List ℕ → ℕ → Token → Type 0
Missing text at t = (first : Token) (later : List Token) → tokens (from text at) ≡ first ∷ later → is_word t first ≡ false

-- The block is over: no semicolon follows.
abbrev pub Over : List ℕ → ℕ → Type 0
Over text at = Missing text at word.semicolon

abbrev pub BlockStepped : List ℕ → Place → List ℕ → Result Place ℕ → List ℕ → Type 0
BlockStepped text at rows (Ok next) left = Read blocks text at.at at.count rows next.at next.count left × Over text next.at
BlockStepped text at rows (Err place) left = (c : Closer) → Stuck text at.at (statement ∷ rest c ∷ []) place
