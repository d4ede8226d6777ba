-- The whole case, and jobs that are refused, byte by byte.
use Rattle.std.specs.Prelude.{ℕ, List, [], ◌∷◌, ◌≡◌}
use Rattle.desk.specs.Desk.{job_report}

-- 12.13: The job of budget 10, room 2, mark set 2, inputs 7 and 9 and the rows `9,0,0,0`, `5,0,0,0`, `9,1,0,0`, `5,1,2,0`
-- and `2,1,3,0` ..
abbrev whole_text : List ℕ
whole_text =
    -- budget=10
    98 ∷ 117 ∷ 100 ∷ 103 ∷ 101 ∷ 116 ∷ 61 ∷ 49 ∷ 48 ∷ 10 ∷
    -- room=2
    114 ∷ 111 ∷ 111 ∷ 109 ∷ 61 ∷ 50 ∷ 10 ∷
    -- levels=2
    108 ∷ 101 ∷ 118 ∷ 101 ∷ 108 ∷ 115 ∷ 61 ∷ 50 ∷ 10 ∷
    -- inputs=2
    105 ∷ 110 ∷ 112 ∷ 117 ∷ 116 ∷ 115 ∷ 61 ∷ 50 ∷ 10 ∷
    -- in=7
    105 ∷ 110 ∷ 61 ∷ 55 ∷ 10 ∷
    -- in=9
    105 ∷ 110 ∷ 61 ∷ 57 ∷ 10 ∷
    -- rows=5
    114 ∷ 111 ∷ 119 ∷ 115 ∷ 61 ∷ 53 ∷ 10 ∷
    -- row=9,0,0,0
    114 ∷ 111 ∷ 119 ∷ 61 ∷ 57 ∷ 44 ∷ 48 ∷ 44 ∷ 48 ∷ 44 ∷ 48 ∷ 10 ∷
    -- row=5,0,0,0
    114 ∷ 111 ∷ 119 ∷ 61 ∷ 53 ∷ 44 ∷ 48 ∷ 44 ∷ 48 ∷ 44 ∷ 48 ∷ 10 ∷
    -- row=9,1,0,0
    114 ∷ 111 ∷ 119 ∷ 61 ∷ 57 ∷ 44 ∷ 49 ∷ 44 ∷ 48 ∷ 44 ∷ 48 ∷ 10 ∷
    -- row=5,1,2,0
    114 ∷ 111 ∷ 119 ∷ 61 ∷ 53 ∷ 44 ∷ 49 ∷ 44 ∷ 50 ∷ 44 ∷ 48 ∷ 10 ∷
    -- row=2,1,3,0
    114 ∷ 111 ∷ 119 ∷ 61 ∷ 50 ∷ 44 ∷ 49 ∷ 44 ∷ 51 ∷ 44 ∷ 48 ∷ 10 ∷ []

-- 12.13: .. has the report of verdict 0, place 0, because 0, 2 steps, mark set 2 with 1 variable marked, the inputs in
-- memory and the rest 0, and the 2 records `0,7` and `1,9`.
abbrev whole_report : List ℕ
whole_report =
    -- verdict=0
    118 ∷ 101 ∷ 114 ∷ 100 ∷ 105 ∷ 99 ∷ 116 ∷ 61 ∷ 48 ∷ 10 ∷
    -- place=0
    112 ∷ 108 ∷ 97 ∷ 99 ∷ 101 ∷ 61 ∷ 48 ∷ 10 ∷
    -- because=0
    98 ∷ 101 ∷ 99 ∷ 97 ∷ 117 ∷ 115 ∷ 101 ∷ 61 ∷ 48 ∷ 10 ∷
    -- steps=2
    115 ∷ 116 ∷ 101 ∷ 112 ∷ 115 ∷ 61 ∷ 50 ∷ 10 ∷
    -- levels=2
    108 ∷ 101 ∷ 118 ∷ 101 ∷ 108 ∷ 115 ∷ 61 ∷ 50 ∷ 10 ∷
    -- marked=1
    109 ∷ 97 ∷ 114 ∷ 107 ∷ 101 ∷ 100 ∷ 61 ∷ 49 ∷ 10 ∷
    -- mem=7,9,0,0,0,0,0,0,0,0,0,0,0,0,0,0,0,0,0,0,0,0,0,0,0,0,0,0,0,0,0,0
    109 ∷ 101 ∷ 109 ∷ 61 ∷ 55 ∷ 44 ∷ 57 ∷ 44 ∷ 48 ∷ 44 ∷ 48 ∷ 44 ∷ 48 ∷ 44 ∷ 48 ∷ 44 ∷ 48 ∷ 44 ∷ 48 ∷ 44 ∷ 48 ∷ 44 ∷ 48 ∷ 44 ∷ 48 ∷ 44 ∷ 48 ∷ 44 ∷ 48 ∷ 44 ∷ 48 ∷ 44 ∷ 48 ∷ 44 ∷ 48 ∷ 44 ∷ 48 ∷ 44 ∷ 48 ∷ 44 ∷ 48 ∷ 44 ∷ 48 ∷ 44 ∷ 48 ∷ 44 ∷ 48 ∷ 44 ∷ 48 ∷ 44 ∷ 48 ∷ 44 ∷ 48 ∷ 44 ∷ 48 ∷ 44 ∷ 48 ∷ 44 ∷ 48 ∷ 44 ∷ 48 ∷ 44 ∷ 48 ∷ 44 ∷ 48 ∷ 44 ∷ 48 ∷ 10 ∷
    -- records=2
    114 ∷ 101 ∷ 99 ∷ 111 ∷ 114 ∷ 100 ∷ 115 ∷ 61 ∷ 50 ∷ 10 ∷
    -- out=0,7
    111 ∷ 117 ∷ 116 ∷ 61 ∷ 48 ∷ 44 ∷ 55 ∷ 10 ∷
    -- out=1,9
    111 ∷ 117 ∷ 116 ∷ 61 ∷ 49 ∷ 44 ∷ 57 ∷ 10 ∷ []

-- The claim: the report of the input's bytes is the output's bytes.
abbrev pub WholeCase : Type 0
WholeCase = job_report whole_text ≡ whole_report

-- a job that ends after its second line
abbrev faulty_text : List ℕ
faulty_text =
    -- budget=10
    98 ∷ 117 ∷ 100 ∷ 103 ∷ 101 ∷ 116 ∷ 61 ∷ 49 ∷ 48 ∷ 10 ∷
    -- room=2
    114 ∷ 111 ∷ 111 ∷ 109 ∷ 61 ∷ 50 ∷ 10 ∷ []

-- "a missing line is 7 at the number it would have"
abbrev faulty_report : List ℕ
faulty_report =
    -- refused=7
    114 ∷ 101 ∷ 102 ∷ 117 ∷ 115 ∷ 101 ∷ 100 ∷ 61 ∷ 55 ∷ 10 ∷
    -- at=3
    97 ∷ 116 ∷ 61 ∷ 51 ∷ 10 ∷ []

-- a job whose table has a sequence that is its own child
abbrev refused_text : List ℕ
refused_text =
    -- budget=10
    98 ∷ 117 ∷ 100 ∷ 103 ∷ 101 ∷ 116 ∷ 61 ∷ 49 ∷ 48 ∷ 10 ∷
    -- room=0
    114 ∷ 111 ∷ 111 ∷ 109 ∷ 61 ∷ 48 ∷ 10 ∷
    -- levels=0
    108 ∷ 101 ∷ 118 ∷ 101 ∷ 108 ∷ 115 ∷ 61 ∷ 48 ∷ 10 ∷
    -- inputs=0
    105 ∷ 110 ∷ 112 ∷ 117 ∷ 116 ∷ 115 ∷ 61 ∷ 48 ∷ 10 ∷
    -- rows=2
    114 ∷ 111 ∷ 119 ∷ 115 ∷ 61 ∷ 50 ∷ 10 ∷
    -- row=0,0,0,0
    114 ∷ 111 ∷ 119 ∷ 61 ∷ 48 ∷ 44 ∷ 48 ∷ 44 ∷ 48 ∷ 44 ∷ 48 ∷ 10 ∷
    -- row=2,0,1,0
    114 ∷ 111 ∷ 119 ∷ 61 ∷ 50 ∷ 44 ∷ 48 ∷ 44 ∷ 49 ∷ 44 ∷ 48 ∷ 10 ∷ []

-- "Then 1 to 5 apply."
abbrev refused_report : List ℕ
refused_report =
    -- refused=3
    114 ∷ 101 ∷ 102 ∷ 117 ∷ 115 ∷ 101 ∷ 100 ∷ 61 ∷ 51 ∷ 10 ∷
    -- at=1
    97 ∷ 116 ∷ 61 ∷ 49 ∷ 10 ∷ []

-- The claim: "A refusal prints `refused=` and `at=`, a line each."
abbrev pub RefusedCases : Type 0
RefusedCases = (job_report faulty_text ≡ faulty_report) × (job_report refused_text ≡ refused_report)
