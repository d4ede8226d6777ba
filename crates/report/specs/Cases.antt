-- Reports, byte by byte: of refusals, and of a run whose numbers all differ.
use Rattle.std.specs.Prelude.{ℕ, List, [], ◌∷◌, ◌≡◌, replicate}
use Rattle.rules.specs.Answers.{Said, refused, verdict, Whole}
use Rattle.report.specs.Reports.{refusal_text, report}

-- a run with two records
abbrev whole : Said → Whole
whole said = record {
  said = said;
  because = 10;
  steps = 8;
  records = record { channel = 1; value = 4294967295 } ∷ record { channel = 0; value = 5 } ∷ [];
  memory = 4 ∷ 6 ∷ 9 ∷ replicate 29 0;
  marks = 11;
}

-- a job's refusal: 7 at its line 12
abbrev faulty_job : List ℕ
faulty_job =
    -- refused=7
    114 ∷ 101 ∷ 102 ∷ 117 ∷ 115 ∷ 101 ∷ 100 ∷ 61 ∷ 55 ∷ 10 ∷
    -- at=12
    97 ∷ 116 ∷ 61 ∷ 49 ∷ 50 ∷ 10 ∷ []

-- a table's refusal: 4 at its row 0
abbrev bad_table : List ℕ
bad_table =
    -- refused=4
    114 ∷ 101 ∷ 102 ∷ 117 ∷ 115 ∷ 101 ∷ 100 ∷ 61 ∷ 52 ∷ 10 ∷
    -- at=0
    97 ∷ 116 ∷ 61 ∷ 48 ∷ 10 ∷ []

-- verdict 1 at row 17, because of v1 and v3
abbrev stopped_run : List ℕ
stopped_run =
    -- verdict=1
    118 ∷ 101 ∷ 114 ∷ 100 ∷ 105 ∷ 99 ∷ 116 ∷ 61 ∷ 49 ∷ 10 ∷
    -- place=17
    112 ∷ 108 ∷ 97 ∷ 99 ∷ 101 ∷ 61 ∷ 49 ∷ 55 ∷ 10 ∷
    -- because=10
    98 ∷ 101 ∷ 99 ∷ 97 ∷ 117 ∷ 115 ∷ 101 ∷ 61 ∷ 49 ∷ 48 ∷ 10 ∷
    -- steps=8
    115 ∷ 116 ∷ 101 ∷ 112 ∷ 115 ∷ 61 ∷ 56 ∷ 10 ∷
    -- levels=11
    108 ∷ 101 ∷ 118 ∷ 101 ∷ 108 ∷ 115 ∷ 61 ∷ 49 ∷ 49 ∷ 10 ∷
    -- marked=3
    109 ∷ 97 ∷ 114 ∷ 107 ∷ 101 ∷ 100 ∷ 61 ∷ 51 ∷ 10 ∷
    -- mem=4,6,9,0,0,0,0,0,0,0,0,0,0,0,0,0,0,0,0,0,0,0,0,0,0,0,0,0,0,0,0,0
    109 ∷ 101 ∷ 109 ∷ 61 ∷ 52 ∷ 44 ∷ 54 ∷ 44 ∷ 57 ∷ 44 ∷ 48 ∷ 44 ∷ 48 ∷ 44 ∷ 48 ∷ 44 ∷ 48 ∷ 44 ∷ 48 ∷ 44 ∷ 48 ∷ 44 ∷ 48 ∷ 44 ∷ 48 ∷ 44 ∷ 48 ∷ 44 ∷ 48 ∷ 44 ∷ 48 ∷ 44 ∷ 48 ∷ 44 ∷ 48 ∷ 44 ∷ 48 ∷ 44 ∷ 48 ∷ 44 ∷ 48 ∷ 44 ∷ 48 ∷ 44 ∷ 48 ∷ 44 ∷ 48 ∷ 44 ∷ 48 ∷ 44 ∷ 48 ∷ 44 ∷ 48 ∷ 44 ∷ 48 ∷ 44 ∷ 48 ∷ 44 ∷ 48 ∷ 44 ∷ 48 ∷ 44 ∷ 48 ∷ 44 ∷ 48 ∷ 44 ∷ 48 ∷ 10 ∷
    -- records=2
    114 ∷ 101 ∷ 99 ∷ 111 ∷ 114 ∷ 100 ∷ 115 ∷ 61 ∷ 50 ∷ 10 ∷
    -- out=1,4294967295
    111 ∷ 117 ∷ 116 ∷ 61 ∷ 49 ∷ 44 ∷ 52 ∷ 50 ∷ 57 ∷ 52 ∷ 57 ∷ 54 ∷ 55 ∷ 50 ∷ 57 ∷ 53 ∷ 10 ∷
    -- out=0,5
    111 ∷ 117 ∷ 116 ∷ 61 ∷ 48 ∷ 44 ∷ 53 ∷ 10 ∷ []

-- 9.12: The report of a refusal is the lines `refused=` with its number and `at=` with its row or line.
abbrev pub RefusalsPrinted : Type 0
RefusalsPrinted = (refusal_text 7 12 ≡ faulty_job) × (report (whole (refused 4 0)) ≡ bad_table)

-- 9.13: The report of a run is the lines `verdict=`, `place=`, `because=` with the set of what it was stopped because of,
-- `steps=`, `levels=` with the final mark set, `marked=` with how many variables it marks, `mem=` with the memory's values
-- and commas between them, `records=` with their number, and for each record a line `out=` with its channel, a comma and its
-- value.
abbrev pub RunPrinted : Type 0
RunPrinted = report (whole (verdict 1 17)) ≡ stopped_run
