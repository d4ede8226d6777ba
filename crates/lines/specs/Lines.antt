-- A line is fields, each a key and a number after it, and then LF.
-- 9.1: A job is lines of bytes, and every line ends in LF.
-- 9.3: A line is a key and a number after it; a row's line has three more numbers, each after a comma.
use Rattle.std.specs.Prelude.{ℕ, zero, suc, ◌+◌, Bool, true, false, ◌&&◌, cond, List, [], ◌∷◌, ◌++◌, eqb, leb}
use Rattle.lines.specs.Limits.{lacks_form, out_of_range}
use Rattle.lines.specs.Numbers.{Number, no_number, number, number_at, decimal}

-- ---- keys, as bytes

-- LF
abbrev pub line_end : List ℕ
line_end = 10 ∷ []

-- ,
abbrev pub comma : List ℕ
comma = 44 ∷ []

-- budget=
abbrev pub budget_key : List ℕ
budget_key = 98 ∷ 117 ∷ 100 ∷ 103 ∷ 101 ∷ 116 ∷ 61 ∷ []

-- room=
abbrev pub room_key : List ℕ
room_key = 114 ∷ 111 ∷ 111 ∷ 109 ∷ 61 ∷ []

-- levels=
abbrev pub levels_key : List ℕ
levels_key = 108 ∷ 101 ∷ 118 ∷ 101 ∷ 108 ∷ 115 ∷ 61 ∷ []

-- inputs=
abbrev pub inputs_key : List ℕ
inputs_key = 105 ∷ 110 ∷ 112 ∷ 117 ∷ 116 ∷ 115 ∷ 61 ∷ []

-- in=
abbrev pub in_key : List ℕ
in_key = 105 ∷ 110 ∷ 61 ∷ []

-- rows=
abbrev pub rows_key : List ℕ
rows_key = 114 ∷ 111 ∷ 119 ∷ 115 ∷ 61 ∷ []

-- row=
abbrev pub row_key : List ℕ
row_key = 114 ∷ 111 ∷ 119 ∷ 61 ∷ []

-- 9.3: .. a row's line has three more numbers, each after a comma.
abbrev pub row_keys : List (List ℕ)
row_keys = row_key ∷ comma ∷ comma ∷ comma ∷ []

-- ---- a line that is read

-- The text after a key, where the text begins with it.
pub data After : Type 0 where
  absent : After
  after : List ℕ → After

unfoldable pub after_key : List ℕ → List ℕ → After
after_key [] text = after text
after_key (k ∷ key) [] = absent
after_key (k ∷ key) (byte ∷ text) = cond (eqb k byte) (after_key key text) absent

-- a field: a key and a number after it
unfoldable pub number_after : After → Number
number_after absent = no_number
number_after (after text) = number_at text

unfoldable pub field : List ℕ → List ℕ → Number
field key text = number_after (after_key key text)

-- The numbers of fields one after the other, and the text after them.
pub data Fields : Type 0 where
  no_fields : Fields
  fields : List ℕ → List ℕ → Fields

unfoldable pub put : ℕ → Fields → Fields
put value no_fields = no_fields
put value (fields values text) = fields (value ∷ values) text

unfoldable pub onward : (List ℕ → Fields) → Number → Fields
onward more no_number = no_fields
onward more (number value text) = put value (more text)

unfoldable pub fields_of : List (List ℕ) → List ℕ → Fields
fields_of [] text = fields [] text
fields_of (key ∷ keys) text = onward (fields_of keys) (field key text)

-- A line that is read: its numbers and the text after it, or the number of its refusal.
pub data Line : Type 0 where
  line : List ℕ → List ℕ → Line
  faulty : ℕ → Line

unfoldable pub in_range : ℕ → List ℕ → Bool
in_range most [] = true
in_range most (value ∷ values) = leb value most && in_range most values

-- A line whose form is right is refused by 8 where a number is out of range.
-- 9.10: .. 7 comes before 8 on one line.
unfoldable pub closed : After → Bool → List ℕ → Line
closed absent within values = faulty lacks_form
closed (after text) false values = faulty out_of_range
closed (after text) true values = line values text

unfoldable pub ended : ℕ → Fields → Line
ended most no_fields = faulty lacks_form
ended most (fields values text) = closed (after_key line_end text) (in_range most values) values

unfoldable pub line_of : List (List ℕ) → ℕ → List ℕ → Line
line_of keys most text = ended most (fields_of keys text)

-- So many lines: their numbers and the text after them, or the refusal's number and its line. at is the first one's number.
pub data Lines : Type 0 where
  lines : List ℕ → List ℕ → Lines
  broken : ℕ → ℕ → Lines

unfoldable pub on_line : (List ℕ → List ℕ → Lines) → ℕ → List ℕ → Line → Lines
on_line more at before (line values text) = more (before ++ values) text
on_line more at before (faulty refusal) = broken refusal at

-- before are the numbers of the lines before these
unfoldable pub lines_of : (List ℕ → Line) → ℕ → ℕ → List ℕ → List ℕ → Lines
lines_of form zero at before text = lines before text
lines_of form (suc n) at before text = on_line (lines_of form n (at + 1)) at before (form text)

-- ---- a line that is written

unfoldable pub field_text : List ℕ → ℕ → List ℕ
field_text key value = key ++ decimal value

-- keys and numbers in pairs, as many as there are of both
unfoldable pub fields_text : List (List ℕ) → List ℕ → List ℕ
fields_text [] values = []
fields_text (key ∷ keys) [] = []
fields_text (key ∷ keys) (value ∷ values) = field_text key value ++ fields_text keys values

unfoldable pub line_text : List (List ℕ) → List ℕ → List ℕ
line_text keys values = fields_text keys values ++ line_end

-- a line of one number
unfoldable pub one_text : List ℕ → ℕ → List ℕ
one_text key value = line_text (key ∷ []) (value ∷ [])
