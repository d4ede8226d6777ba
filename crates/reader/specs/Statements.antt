-- What the readers of statements say: of a word that is to stand at a place, and of a statement after its first word.
use Rattle.std.specs.Prelude.{Result, Ok, Err, ℕ, ◌+◌, ◌≤◌, ◌<◌, Bool, true, false, ◌&&◌, List, [], ◌∷◌, ◌≡◌, length, get_or}
use Rattle.language.specs.Words.{is_blank, is_joining}
use Rattle.language.specs.Tokens as word
use Rattle.language.specs.Tokens.{Token, same, token_of, tokens}
use Rattle.spans.specs.Cut.{from, part, Begun, Cut}
use Rattle.spans.specs.declared.Span.{Span}
use Rattle.reader.specs.Machine.{is_word, statement}
use Rattle.reader.specs.Steps.{statements, Later, Missing, Stepped}
use Rattle.reader.specs.declared.expressions.Place.{Place}

-- a key that is one word: letters and digits, or a single byte
abbrev pub all_joining : List ℕ → Bool
all_joining [] = true
all_joining (byte ∷ bytes) = is_joining byte && all_joining bytes

abbrev pub one_word : List ℕ → Bool
one_word [] = false
one_word (byte ∷ []) = true
one_word (byte ∷ next ∷ bytes) = all_joining (byte ∷ next ∷ bytes)

-- Whether the word that starts at a place, where no blank stands, is this key, and where it ends then.
abbrev pub Compared : List ℕ → ℕ → List ℕ → Bool → Type 0
Compared text at key r =
    one_word key ≡ true → (at < length text → is_blank (get_or text at 0) ≡ false) → (w : Span) → Cut text at w
    → (r ≡ same key (part text w.start w.end)) × (r ≡ true → w.end ≡ at + length key)

-- The key is how a word is always written, and no other word is written so.
pub record Spells (key : List ℕ) (t : Token) : Type 0 where
  pub one : one_word key ≡ true
  pub told : (bytes : List ℕ) → same key bytes ≡ is_word t (token_of bytes)
  pub is : (bytes : List ℕ) → same key bytes ≡ true → token_of bytes ≡ t
  pub some : same key [] ≡ false

-- This word stands at a place, and the next place is the one after it.
pub record Led (text : List ℕ) (at : ℕ) (t : Token) (next : ℕ) : Type 0 where
  pub is : tokens (from text at) ≡ t ∷ tokens (from text next)
  pub later : Later text at next
  pub on : at < next
  pub inside : next ≤ length text

-- This word stands at a place, or is missing there; then the place after the blanks is told.
abbrev pub Expected : List ℕ → ℕ → Token → Result ℕ ℕ → Type 0
Expected text at t (Ok next) = Led text at t next
Expected text at t (Err here) = Missing text at t × Begun text at here

-- what is said of the word at a place, whichever word the key is
abbrev pub Looked : List ℕ → ℕ → List ℕ → Result ℕ ℕ → Type 0
Looked text at key r = (t : Token) → Spells key t → Expected text at t r

-- what comes of reading a word after what was read
abbrev pub EndedAt : List ℕ → Place → Token → Result Place ℕ → Type 0
EndedAt text read t (Ok next) = (next.count ≡ read.count) × Led text read.at t next.at
EndedAt text read t (Err place) = (place ≡ read.at) × Missing text read.at t

abbrev pub Ended : List ℕ → List ℕ → Place → Result Place ℕ → Type 0
Ended text key read r = (t : Token) → Spells key t → EndedAt text read t r

-- what is said of a statement after its first word: the statement begins wherever that word leads here
abbrev pub After : Token → List ℕ → Place → List ℕ → Result Place ℕ → List ℕ → Type 0
After t text from rows r left =
    (at : ℕ) → Led text at t from.at → Stepped statements (statement ∷ []) text (record { at = at; count = from.count }) rows r left

-- the first word of an output, and its channel
pub data Outputs : Token → ℕ → Type 0 where
  settled : Outputs word.settled 0
  provisional : Outputs word.provisional 1

abbrev pub OutputAfter : ℕ → List ℕ → Place → List ℕ → Result Place ℕ → List ℕ → Type 0
OutputAfter channel text from rows r left = (t : Token) → Outputs t channel → After t text from rows r left
