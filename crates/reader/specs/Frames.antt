-- An expression that is being read: what is open, and what of it has been read.
use Rattle.std.specs.Prelude.{Result, Ok, Err, ℕ, ◌+◌, ◌*◌, ◌/◌, ◌%◌, ◌≤◌, ◌<◌, Bool, true, false, List, [], ◌∷◌, ◌++◌, ◌≡◌, length, get_or}
use Rattle.rules.specs.declared.Operator.{Operator}
use Rattle.rules.specs.Cases.{Quad}
use Rattle.rules.specs.Trees.{Expr}
use Rattle.language.specs.Limits.{most_text_bytes}
use Rattle.language.specs.Tokens as word
use Rattle.language.specs.Tokens.{Token, tokens}
use Rattle.language.specs.Recipes.{expr_tokens}
use Rattle.rules.specs.Trees.{operator_number}
use Rattle.language.specs.Tables.{expr_below, expr_size, expr_rows}
use Rattle.spans.specs.Cut.{from}
use Rattle.reader.specs.Machine.{expr}
use Rattle.rules.specs.Limits.{most_rows}
use Rattle.reader.specs.Rows.{rows_put}
use Rattle.reader.specs.Steps.{Later, Stuck}
use Rattle.reader.specs.declared.expressions.Inside.{Inside}

-- a parenthesis that is open: its left side is being read; or its right side, after a left side and an operator
pub data Frame : Type 0 where
  waiting : Frame
  having : Expr → Operator → Frame

-- the innermost parenthesis first: their words and their rows
abbrev pub frames_tokens : List Frame → List Token
frames_tokens [] = []
frames_tokens (waiting ∷ frames) = frames_tokens frames ++ word.opening ∷ []
frames_tokens (having e o ∷ frames) = frames_tokens frames ++ word.opening ∷ (expr_tokens e ++ word.sign o ∷ [])

abbrev pub frames_size : List Frame → ℕ
frames_size [] = 0
frames_size (waiting ∷ frames) = frames_size frames
frames_size (having e o ∷ frames) = frames_size frames + expr_size e

abbrev pub frames_rows : ℕ → List Frame → List Quad
frames_rows base [] = []
frames_rows base (waiting ∷ frames) = frames_rows base frames
frames_rows base (having e o ∷ frames) = frames_rows base frames ++ expr_rows (base + frames_size frames) e

-- how many bytes at least still come, for what is open: an operator, an expression and the end after a left side, the end after a right one
abbrev pub frames_owed : List Frame → ℕ
frames_owed [] = 0
frames_owed (waiting ∷ frames) = frames_owed frames + 3
frames_owed (having e o ∷ frames) = frames_owed frames + 1

-- how many entries are held: a parenthesis takes four bytes at least
abbrev pub most_held : ℕ
most_held = most_text_bytes / 4

-- the entry that stands for a parenthesis, where these are around it
abbrev pub entry_of : ℕ → List Frame → Frame → ℕ
entry_of base frames waiting = 0
entry_of base frames (having e o) = (base + frames_size frames + expr_below e) % most_rows * 8 + operator_number o + 1

-- The entry of each parenthesis stands where its depth says, unless what is open cannot be closed before so many bytes: then one that
-- was opened later may stand there.
abbrev pub Entries : ℕ → List ℕ → ℕ → List Frame → Type 0
Entries base held least [] = Unit {0}
Entries base held least (frame ∷ frames) =
    (least < 4 * (length frames + most_held + 1) → get_or held (length frames % most_held) 0 ≡ entry_of base frames frame)
    × Entries base held least frames

-- the expression that was just read to its end, or none
pub data Whole : Type 0 where
  nothing : Whole
  just : Expr → Whole

abbrev pub is_whole : Whole → Bool
is_whole nothing = false
is_whole (just e) = true

abbrev pub whole_tokens : Whole → List Token
whole_tokens nothing = []
whole_tokens (just e) = expr_tokens e

abbrev pub whole_size : Whole → ℕ
whole_size nothing = 0
whole_size (just e) = expr_size e

abbrev pub whole_owed : Whole → ℕ
whole_owed nothing = 1
whole_owed (just e) = 0

abbrev pub whole_rows : ℕ → Whole → List Quad
whole_rows base nothing = []
whole_rows base (just e) = expr_rows base e

-- this much of the text may be asked of
pub record Ready (text : List ℕ) (s : Inside) : Type 0 where
  pub inside : s.at ≤ length text
  pub short : length text ≤ most_text_bytes
  pub few : s.count ≤ s.at
  pub low : s.depth ≤ s.at
  pub some : s.whole ≡ true → 0 < s.count

-- An expression that begins at a place, with its first row at first, is read as far as this: these parentheses are open.
pub record Standing (text : List ℕ) (at first : ℕ) (before : List ℕ) (s : Inside) (rows held : List ℕ) (frames : List Frame) (whole : Whole) : Type 0 where
  pub mode : s.whole ≡ is_whole whole
  pub depth : s.depth ≡ length frames
  pub read : tokens (from text at) ≡ frames_tokens frames ++ (whole_tokens whole ++ tokens (from text s.at))
  pub later : Later text at s.at
  pub put : rows ≡ rows_put first (frames_rows first frames ++ whole_rows (first + frames_size frames) whole) before
  pub counted : s.count ≡ first + frames_size frames + whole_size whole
  pub owed : 4 * length frames ≤ s.at + frames_owed frames + whole_owed whole
  pub entries : Entries first held (s.at + frames_owed frames + whole_owed whole) frames
  pub few : s.count + at ≤ first + s.at

abbrev pub Reached : List ℕ → ℕ → ℕ → List ℕ → Inside → List ℕ → List ℕ → Type 0
Reached text at first before s rows held =
    (frames : List Frame) × (whole : Whole) × Standing text at first before s rows held frames whole

-- what a turn says: wherever the expression was read as far as before it, it is read further, or the word is at fault
abbrev pub Turned : List ℕ → Inside → List ℕ → List ℕ → Result Inside ℕ → List ℕ → List ℕ → Type 0
Turned text s rows held (Ok s') left held' =
    (s.at < s'.at) × Ready text s'
    × ((at first : ℕ) (before : List ℕ) → Reached text at first before s rows held → Reached text at first before s' left held')
Turned text s rows held (Err place) left held' =
    (place ≡ s.at)
    × ((at first : ℕ) (before : List ℕ) → Reached text at first before s rows held → Stuck text at (expr ∷ []) s.at)
