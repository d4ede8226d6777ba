-- The words of a text from a place on, and what it is to cut off the first of them.
use Rattle.std.specs.Prelude.{ℕ, ◌-◌, ◌≤◌, ◌<◌, List, [], ◌∷◌, ◌≡◌, true, false, length, get_or, take, drop}
use Rattle.language.specs.Words.{is_blank, is_joining, Word, word, words_from}
use Rattle.spans.specs.declared.Span.{Span}

-- the words of a text from a place on
abbrev pub from : List ℕ → ℕ → List Word
from text at = words_from at (drop at text)

-- the bytes of a text from a place to another
abbrev pub part : List ℕ → ℕ → ℕ → List ℕ
part text start end = take (end - start) (drop start text)

-- The first place from a place on where no blank stands, or the text's end.
pub record Begun (text : List ℕ) (at start : ℕ) : Type 0 where
  pub inside : start ≤ length text
  pub later : start < length text → at ≤ start
  pub same : from text start ≡ from text at
  pub shown : start < length text → is_blank (get_or text start 0) ≡ false

-- The span is the first word's; where there is no word it is empty, at the text's end.
pub record Cut (text : List ℕ) (at : ℕ) (s : Span) : Type 0 where
  pub forward : s.start ≤ s.end
  pub inside : s.end ≤ length text
  pub later : s.start < s.end → at ≤ s.start
  pub first : s.start < s.end → from text at ≡ word s.start (part text s.start s.end) ∷ from text s.end
  pub last : s.start ≡ s.end → (s.end ≡ length text) × (from text at ≡ [])

-- Letters and digits stand from a place to another, and neither stands there.
pub record JoinedTo (text : List ℕ) (at end : ℕ) : Type 0 where
  pub later : at ≤ end
  pub inside : end ≤ length text
  pub run : (i : ℕ) → i < end → at ≤ i → is_joining (get_or text i 0) ≡ true
  pub over : end < length text → is_joining (get_or text end 0) ≡ false
