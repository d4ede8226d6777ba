-- What the reader of declarations says.
use Rattle.std.specs.Prelude.{Result, Ok, Err, Option, Some, None, ℕ, ◌+◌, ◌%◌, ◌≤◌, ◌<◌, Bool, true, false, List, [], ◌∷◌, ◌++◌, ◌≡◌, length}
use Rattle.rules.specs.Limits.{width}
use Rattle.rules.specs.Marks.{none, has, put}
use Rattle.language.specs.Words.{Word, word}
use Rattle.language.specs.Tokens as token
use Rattle.language.specs.Tokens.{tokens}
use Rattle.language.specs.Recipes as recipe
use Rattle.language.specs.Recipes.{Declaration, level_tokens, declarations_tokens}
use Rattle.language.specs.Tables.{makes_provisional, marks_from}
use Rattle.language.specs.Readings.{repeated}
use Rattle.spans.specs.Cut.{from, part}
use Rattle.reader.specs.Machine.{exactly, name, start, level}
use Rattle.reader.specs.Steps.{Later, Missing, Stuck}
use Rattle.reader.specs.Statements.{Led}
use Rattle.numbers.specs.declared.Parsed.{Parsed}
use Rattle.spans.specs.declared.Span.{Span}
use Rattle.reader.specs.declared.head.Declared.{Declared}
use Rattle.reader.specs.declared.head.Seen.{Seen}

-- the semicolon after a level word
abbrev pub LevelClosed : List ℕ → ℕ → Bool → Result (Parsed Bool) ℕ → Type 0
LevelClosed text at meant (Ok read) =
    (read.value ≡ meant) × Led text at token.semicolon read.next
LevelClosed text at meant (Err place) = Stuck text at (exactly token.semicolon ∷ []) place

-- A declaration after its variable, where a plain one is settled.
pub record Leveled (text : List ℕ) (at : ℕ) (provisional : Bool) (next : ℕ) : Type 0 where
  pub level : recipe.Level
  pub is : tokens (from text at) ≡ level_tokens level ++ token.semicolon ∷ tokens (from text next)
  pub meant : makes_provisional false level ≡ provisional
  pub later : Later text at next
  pub on : at < next
  pub inside : next ≤ length text

abbrev pub LevelRead : List ℕ → ℕ → Result (Parsed Bool) ℕ → Type 0
LevelRead text at (Ok read) = Leveled text at read.value read.next
LevelRead text at (Err place) = Stuck text at (level ∷ []) place

-- A declaration after its first word: its variable's word is the first there.
pub record DeclaredAs (text : List ℕ) (at variable first last : ℕ) (provisional : Bool) (next : ℕ) : Type 0 where
  pub level : recipe.Level
  pub is : tokens (from text at) ≡ token.variable variable ∷ (level_tokens level ++ token.semicolon ∷ tokens (from text next))
  pub meant : makes_provisional false level ≡ provisional
  pub known : variable < width
  pub others : List Word
  pub word_is : from text at ≡ word first (part text first last) ∷ others
  pub some : first < last
  pub within : last ≤ length text
  pub later : Later text at next
  pub on : at < next
  pub inside : next ≤ length text

abbrev pub DeclarationRead : List ℕ → ℕ → Result Declared ℕ → Type 0
DeclarationRead text at (Ok d) = DeclaredAs text at d.variable d.name.start d.name.end d.provisional d.next
DeclarationRead text at (Err place) = Stuck text at (name ∷ level ∷ []) place

-- where a variable stands that is declared again: the first such, or this one where there was none and it is one
abbrev pub again_with : Option Span → Bool → Span → Option Span
again_with (Some first) again found = Some first
again_with None true found = Some found
again_with None false found = None

-- the declarations so far, and one more
abbrev pub seen_with : Seen → Declared → Seen
seen_with s d = record {
  at = d.next;
  declared = put (d.variable % width) true s.declared;
  marks = put (d.variable % width) d.provisional s.marks;
  again = again_with s.again (has s.declared (d.variable % width)) d.name;
}

-- the variables that the declarations declare, and those declared before them
abbrev pub declared_from : ℕ → List Declaration → ℕ
declared_from seen [] = seen
declared_from seen (d ∷ ds) = declared_from (put d.variable true seen) ds

-- the first of these words stands there, and where there is none, nothing does
abbrev pub StandsAt : List Word → Option Span → Type 0
StandsAt [] None = Unit {0}
StandsAt [] (Some s) = ⊥
StandsAt (w ∷ words) None = ⊥
StandsAt (w ∷ words) (Some s) = (s.start ≡ w.start) × (s.end ≡ s.start + length w.bytes) × (s.start < s.end)

-- These declarations stand at the front of the text.
pub record Declarations (text : List ℕ) (s : Seen) : Type 0 where
  pub declarations : List Declaration
  pub is : tokens (from text 0) ≡ declarations_tokens declarations ++ tokens (from text s.at)
  pub later : Later text 0 s.at
  pub declared : s.declared ≡ declared_from none declarations
  pub marks : s.marks ≡ marks_from false none declarations
  pub again : StandsAt (repeated none declarations (from text 0)) s.again
  pub inside : s.at ≤ length text

-- the declarations are over: no further one follows
abbrev pub HeadRead : List ℕ → Result Seen ℕ → Type 0
HeadRead text (Ok s) =
    Declarations text s × Missing text s.at token.input
HeadRead text (Err place) = Stuck text 0 (start ∷ []) place
