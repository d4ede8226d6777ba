-- Section 9 of the rules: the bytes of a report.
use Rattle.std.specs.Prelude.{ℕ, ◌-◌, List, [], ◌∷◌, ◌++◌, length, replicate}
use Rattle.rules.specs.Marks.{marked}
use Rattle.rules.specs.Running.{Record}
use Rattle.rules.specs.Answers.{Said, accepted, refused, verdict, pass, fail, Whole}
use Rattle.lines.specs.Lines.{levels_key, comma, line_text, one_text}

-- ---- keys, as bytes

-- refused=
abbrev pub refused_key : List ℕ
refused_key = 114 ∷ 101 ∷ 102 ∷ 117 ∷ 115 ∷ 101 ∷ 100 ∷ 61 ∷ []

-- at=
abbrev pub at_key : List ℕ
at_key = 97 ∷ 116 ∷ 61 ∷ []

-- verdict=
abbrev pub verdict_key : List ℕ
verdict_key = 118 ∷ 101 ∷ 114 ∷ 100 ∷ 105 ∷ 99 ∷ 116 ∷ 61 ∷ []

-- place=
abbrev pub place_key : List ℕ
place_key = 112 ∷ 108 ∷ 97 ∷ 99 ∷ 101 ∷ 61 ∷ []

-- because=
abbrev pub because_key : List ℕ
because_key = 98 ∷ 101 ∷ 99 ∷ 97 ∷ 117 ∷ 115 ∷ 101 ∷ 61 ∷ []

-- steps=
abbrev pub steps_key : List ℕ
steps_key = 115 ∷ 116 ∷ 101 ∷ 112 ∷ 115 ∷ 61 ∷ []

-- marked=
abbrev pub marked_key : List ℕ
marked_key = 109 ∷ 97 ∷ 114 ∷ 107 ∷ 101 ∷ 100 ∷ 61 ∷ []

-- mem=
abbrev pub mem_key : List ℕ
mem_key = 109 ∷ 101 ∷ 109 ∷ 61 ∷ []

-- records=
abbrev pub records_key : List ℕ
records_key = 114 ∷ 101 ∷ 99 ∷ 111 ∷ 114 ∷ 100 ∷ 115 ∷ 61 ∷ []

-- out=
abbrev pub out_key : List ℕ
out_key = 111 ∷ 117 ∷ 116 ∷ 61 ∷ []

-- ---- the report

-- 9.12: The report of a refusal is the lines `refused=` with its number and `at=` with its row or line.
unfoldable pub refusal_text : ℕ → ℕ → List ℕ
refusal_text refusal at = one_text refused_key refusal ++ one_text at_key at

-- 9.13: .. for each record a line `out=` with its channel, a comma and its value.
unfoldable pub record_text : Record → List ℕ
record_text r = line_text (out_key ∷ comma ∷ []) (r.channel ∷ r.value ∷ [])

unfoldable pub records_text : List Record → List ℕ
records_text [] = []
records_text (r ∷ records) = record_text r ++ records_text records

-- 9.13: .. `mem=` with the memory's values and commas between them, ..
unfoldable pub memory_text : List ℕ → List ℕ
memory_text memory = line_text (mem_key ∷ replicate (length memory - 1) comma) memory

-- 9.13: The report of a run is the lines `verdict=`, `place=`, `because=` with the set of what it was stopped because of,
-- `steps=`, `levels=` with the final mark set, `marked=` with how many variables it marks, ..
unfoldable pub head_text : ℕ → ℕ → ℕ → ℕ → ℕ → List ℕ
head_text number place because steps marks =
    one_text verdict_key number
    ++ one_text place_key place
    ++ one_text because_key because
    ++ one_text steps_key steps
    ++ one_text levels_key marks
    ++ one_text marked_key (marked marks)

-- from its verdict, its place and what it was stopped because of
-- 9.13: The report of a run is the lines `verdict=`, `place=`, `because=` with the set of what it was stopped because of,
-- `steps=`, `levels=` with the final mark set, `marked=` with how many variables it marks, `mem=` with the memory's values
-- and commas between them, `records=` with their number, and for each record a line `out=` with its channel, a comma and its
-- value.
unfoldable pub run_text : ℕ → ℕ → ℕ → Whole → List ℕ
run_text number place because w =
    head_text number place because w.steps w.marks
    ++ memory_text w.memory
    ++ one_text records_key (length w.records)
    ++ records_text w.records

-- A run answers a verdict or a refusal, and nothing else.
unfoldable pub said_text : Said → Whole → List ℕ
said_text (refused refusal row) w = refusal_text refusal row
said_text (verdict number place) w = run_text number place w.because w
said_text accepted w = []
said_text pass w = []
said_text (fail row) w = []

unfoldable pub report : Whole → List ℕ
report w = said_text w.said w
