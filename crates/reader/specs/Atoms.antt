-- What a word is in an expression, as the code answers it.
use Rattle.std.specs.Prelude.{Option, None, Some, IsSome, ℕ, ◌+◌, ◌≤◌, ◌<◌, false, cond, List, [], ◌∷◌, ◌≡◌, leb, length, get_or}
use Rattle.language.specs.Words.{is_blank}
use Rattle.lines.specs.Numbers.{beyond, Number, no_number, number, number_at}
use Rattle.language.specs.Tokens as word
use Rattle.language.specs.Tokens.{Token, token_of}
use Rattle.rules.specs.declared.Operator.{Operator}
use Rattle.spans.specs.Cut.{part, Cut, JoinedTo}
use Rattle.spans.specs.declared.Span.{Span}
use Rattle.numbers.specs.declared.Parsed.{Parsed}

-- the number that is the whole text, where it is at most so much; else one that is no value
unfoldable pub whole_of : ℕ → Number → ℕ
whole_of most no_number = beyond
whole_of most (number value []) = cond (leb value most) value beyond
whole_of most (number value (byte ∷ rest)) = beyond

unfoldable pub whole_from : ℕ → List ℕ → ℕ
whole_from most text = whole_of most (number_at text)

-- a word that is an expression by itself, or another
pub data Atom : Type 0 where
  nothing : Atom
  constant : ℕ → Atom
  variable : ℕ → Atom

unfoldable pub atom_of : Token → Atom
atom_of word.skip = nothing
atom_of word.set = nothing
atom_of word.if = nothing
atom_of word.then = nothing
atom_of word.else = nothing
atom_of word.end = nothing
atom_of word.while = nothing
atom_of word.doing = nothing
atom_of word.settled = nothing
atom_of word.provisional = nothing
atom_of word.input = nothing
atom_of word.opening = nothing
atom_of word.closing = nothing
atom_of word.semicolon = nothing
atom_of (word.sign o) = nothing
atom_of (word.variable v) = variable v
atom_of (word.numeral n) = constant n
atom_of word.unknown = nothing

-- the operator that a word is
unfoldable pub sign_of : Token → Option Operator
sign_of word.skip = None
sign_of word.set = None
sign_of word.if = None
sign_of word.then = None
sign_of word.else = None
sign_of word.end = None
sign_of word.while = None
sign_of word.doing = None
sign_of word.settled = None
sign_of word.provisional = None
sign_of word.input = None
sign_of word.opening = None
sign_of word.closing = None
sign_of word.semicolon = None
sign_of (word.sign o) = Some o
sign_of (word.variable v) = None
sign_of (word.numeral n) = None
sign_of word.unknown = None

-- what is said of the number that stands from a place on to the end of a word
abbrev pub NumeralTo : List ℕ → ℕ → ℕ → ℕ → Option (Parsed ℕ) → Type 0
NumeralTo text at most end None = whole_from most (part text at end) ≡ beyond
NumeralTo text at most end (Some read) = (read.next ≡ end) × (read.value ≤ most) × (whole_from most (part text at end) ≡ read.value)

abbrev pub NumberTo : List ℕ → ℕ → ℕ → Option (Parsed ℕ) → Type 0
NumberTo text at most r = (end : ℕ) → JoinedTo text at end → NumeralTo text at most end r

abbrev pub AtomIs : (ℕ → Atom) → Atom → ℕ → Option (Parsed ℕ) → Type 0
AtomIs made atom end None = (n : ℕ) → atom ≡ made n → ⊥
AtomIs made atom end (Some read) = (read.next ≡ end) × (atom ≡ made read.value)

-- what is said of the word that starts at a place, where no blank stands: which sort of atom it is
abbrev pub AtomAt : (ℕ → Atom) → List ℕ → ℕ → Option (Parsed ℕ) → Type 0
AtomAt made text at r =
    at ≤ length text → (at < length text → is_blank (get_or text at 0) ≡ false) → (w : Span) → Cut text at w
    → AtomIs made (atom_of (token_of (part text w.start w.end))) w.end r

abbrev pub VariableAt : List ℕ → ℕ → Option (Parsed ℕ) → Type 0
VariableAt = AtomAt variable

abbrev pub ConstantAt : List ℕ → ℕ → Option (Parsed ℕ) → Type 0
ConstantAt = AtomAt constant

-- what is said of an operator that starts at a place, where no blank stands, and where it ends
abbrev pub SignAt : List ℕ → ℕ → Option Operator → Type 0
SignAt text at r =
    (at < length text → is_blank (get_or text at 0) ≡ false) → (w : Span) → Cut text at w
    → (r ≡ sign_of (token_of (part text w.start w.end))) × (IsSome r → w.end ≡ at + 1)
