-- A case for each way in which a job is refused.
use Rattle.std.specs.Prelude.{ℕ, ◌+◌, List, [], ◌∷◌, map, ◌≡◌, replicate}
use Rattle.rules.specs.Limits.{most_job_bytes}
use Rattle.job.specs.Jobs.{Told, untold, read_job}

-- a text, and what it reads as
pub record Reading : Type 0 where
  pub text : List ℕ
  pub told : Told

abbrev refusal : List ℕ → ℕ → ℕ → Reading
refusal text number at = record { text = text; told = untold number at }

unfoldable pub faulty_jobs : List Reading
faulty_jobs =
    -- over 32,768 bytes, before every other fault
    refusal (replicate (most_job_bytes + 1) 0) 9 0
    -- as many bytes as a job may have
    ∷ refusal (replicate most_job_bytes 0) 7 1
    -- the empty text: ''
    ∷ refusal [] 7 1
    -- a first line without LF: 'budget=10'
    ∷ refusal (98 ∷ 117 ∷ 100 ∷ 103 ∷ 101 ∷ 116 ∷ 61 ∷ 49 ∷ 48 ∷ []) 7 1
    -- a last line without LF, whatever its number says: 'budget=99999999999'
    ∷ refusal (98 ∷ 117 ∷ 100 ∷ 103 ∷ 101 ∷ 116 ∷ 61 ∷ 57 ∷ 57 ∷ 57 ∷ 57 ∷ 57 ∷ 57 ∷ 57 ∷ 57 ∷ 57 ∷ 57 ∷ 57 ∷ []) 7 1
    -- a missing line, at the number it would have: 'budget=10\n'
    ∷ refusal (98 ∷ 117 ∷ 100 ∷ 103 ∷ 101 ∷ 116 ∷ 61 ∷ 49 ∷ 48 ∷ 10 ∷ []) 7 2
    -- an empty line: 'budget=10\n\n'
    ∷ refusal (98 ∷ 117 ∷ 100 ∷ 103 ∷ 101 ∷ 116 ∷ 61 ∷ 49 ∷ 48 ∷ 10 ∷ 10 ∷ []) 7 2
    -- a leading zero: 'budget=01\n'
    ∷ refusal (98 ∷ 117 ∷ 100 ∷ 103 ∷ 101 ∷ 116 ∷ 61 ∷ 48 ∷ 49 ∷ 10 ∷ []) 7 1
    -- no digit: 'budget=\n'
    ∷ refusal (98 ∷ 117 ∷ 100 ∷ 103 ∷ 101 ∷ 116 ∷ 61 ∷ 10 ∷ []) 7 1
    -- a sign: 'budget=+1\n'
    ∷ refusal (98 ∷ 117 ∷ 100 ∷ 103 ∷ 101 ∷ 116 ∷ 61 ∷ 43 ∷ 49 ∷ 10 ∷ []) 7 1
    -- a blank before LF: 'budget=1 \n'
    ∷ refusal (98 ∷ 117 ∷ 100 ∷ 103 ∷ 101 ∷ 116 ∷ 61 ∷ 49 ∷ 32 ∷ 10 ∷ []) 7 1
    -- CR before LF: 'budget=1\r\n'
    ∷ refusal (98 ∷ 117 ∷ 100 ∷ 103 ∷ 101 ∷ 116 ∷ 61 ∷ 49 ∷ 13 ∷ 10 ∷ []) 7 1
    -- one over 4,294,967,295: 'budget=4294967296\n'
    ∷ refusal (98 ∷ 117 ∷ 100 ∷ 103 ∷ 101 ∷ 116 ∷ 61 ∷ 52 ∷ 50 ∷ 57 ∷ 52 ∷ 57 ∷ 54 ∷ 55 ∷ 50 ∷ 57 ∷ 54 ∷ 10 ∷ []) 8 1
    -- a number of any length: 'budget=100000000000000000000000000\n'
    ∷ refusal (98 ∷ 117 ∷ 100 ∷ 103 ∷ 101 ∷ 116 ∷ 61 ∷ 49 ∷ 48 ∷ 48 ∷ 48 ∷ 48 ∷ 48 ∷ 48 ∷ 48 ∷ 48 ∷ 48 ∷ 48 ∷ 48 ∷ 48 ∷ 48 ∷ 48 ∷ 48 ∷ 48 ∷ 48 ∷ 48 ∷ 48 ∷ 48 ∷ 48 ∷ 48 ∷ 48 ∷ 48 ∷ 48 ∷ 48 ∷ 10 ∷ []) 8 1
    -- over the range of room: 'budget=0\nroom=8193\n'
    ∷ refusal (98 ∷ 117 ∷ 100 ∷ 103 ∷ 101 ∷ 116 ∷ 61 ∷ 48 ∷ 10 ∷ 114 ∷ 111 ∷ 111 ∷ 109 ∷ 61 ∷ 56 ∷ 49 ∷ 57 ∷ 51 ∷ 10 ∷ []) 8 2
    -- over the range of inputs: 'budget=0\nroom=8192\nlevels=4294967295\ninputs=33\n'
    ∷ refusal (98 ∷ 117 ∷ 100 ∷ 103 ∷ 101 ∷ 116 ∷ 61 ∷ 48 ∷ 10 ∷ 114 ∷ 111 ∷ 111 ∷ 109 ∷ 61 ∷ 56 ∷ 49 ∷ 57 ∷ 50 ∷ 10 ∷ 108 ∷ 101 ∷ 118 ∷ 101 ∷ 108 ∷ 115 ∷ 61 ∷ 52 ∷ 50 ∷ 57 ∷ 52 ∷ 57 ∷ 54 ∷ 55 ∷ 50 ∷ 57 ∷ 53 ∷ 10 ∷ 105 ∷ 110 ∷ 112 ∷ 117 ∷ 116 ∷ 115 ∷ 61 ∷ 51 ∷ 51 ∷ 10 ∷ []) 8 4
    -- an 8 on line 1 before a 7 on line 2: 'budget=4294967296\nrom=1\n'
    ∷ refusal (98 ∷ 117 ∷ 100 ∷ 103 ∷ 101 ∷ 116 ∷ 61 ∷ 52 ∷ 50 ∷ 57 ∷ 52 ∷ 57 ∷ 54 ∷ 55 ∷ 50 ∷ 57 ∷ 54 ∷ 10 ∷ 114 ∷ 111 ∷ 109 ∷ 61 ∷ 49 ∷ 10 ∷ []) 8 1
    -- over the range of rows: 'budget=0\nroom=0\nlevels=0\ninputs=0\nrows=513\n'
    ∷ refusal (98 ∷ 117 ∷ 100 ∷ 103 ∷ 101 ∷ 116 ∷ 61 ∷ 48 ∷ 10 ∷ 114 ∷ 111 ∷ 111 ∷ 109 ∷ 61 ∷ 48 ∷ 10 ∷ 108 ∷ 101 ∷ 118 ∷ 101 ∷ 108 ∷ 115 ∷ 61 ∷ 48 ∷ 10 ∷ 105 ∷ 110 ∷ 112 ∷ 117 ∷ 116 ∷ 115 ∷ 61 ∷ 48 ∷ 10 ∷ 114 ∷ 111 ∷ 119 ∷ 115 ∷ 61 ∷ 53 ∷ 49 ∷ 51 ∷ 10 ∷ []) 8 5
    -- 7 before 8 on one line: 'budget=0\nroom=0\nlevels=0\ninputs=0\nrows=1\nrow=4294967296,0,0\n'
    ∷ refusal (98 ∷ 117 ∷ 100 ∷ 103 ∷ 101 ∷ 116 ∷ 61 ∷ 48 ∷ 10 ∷ 114 ∷ 111 ∷ 111 ∷ 109 ∷ 61 ∷ 48 ∷ 10 ∷ 108 ∷ 101 ∷ 118 ∷ 101 ∷ 108 ∷ 115 ∷ 61 ∷ 48 ∷ 10 ∷ 105 ∷ 110 ∷ 112 ∷ 117 ∷ 116 ∷ 115 ∷ 61 ∷ 48 ∷ 10 ∷ 114 ∷ 111 ∷ 119 ∷ 115 ∷ 61 ∷ 49 ∷ 10 ∷ 114 ∷ 111 ∷ 119 ∷ 61 ∷ 52 ∷ 50 ∷ 57 ∷ 52 ∷ 57 ∷ 54 ∷ 55 ∷ 50 ∷ 57 ∷ 54 ∷ 44 ∷ 48 ∷ 44 ∷ 48 ∷ 10 ∷ []) 7 6
    -- an 8 in a row: 'budget=0\nroom=0\nlevels=0\ninputs=0\nrows=1\nrow=0,4294967296,0,0\n'
    ∷ refusal (98 ∷ 117 ∷ 100 ∷ 103 ∷ 101 ∷ 116 ∷ 61 ∷ 48 ∷ 10 ∷ 114 ∷ 111 ∷ 111 ∷ 109 ∷ 61 ∷ 48 ∷ 10 ∷ 108 ∷ 101 ∷ 118 ∷ 101 ∷ 108 ∷ 115 ∷ 61 ∷ 48 ∷ 10 ∷ 105 ∷ 110 ∷ 112 ∷ 117 ∷ 116 ∷ 115 ∷ 61 ∷ 48 ∷ 10 ∷ 114 ∷ 111 ∷ 119 ∷ 115 ∷ 61 ∷ 49 ∷ 10 ∷ 114 ∷ 111 ∷ 119 ∷ 61 ∷ 48 ∷ 44 ∷ 52 ∷ 50 ∷ 57 ∷ 52 ∷ 57 ∷ 54 ∷ 55 ∷ 50 ∷ 57 ∷ 54 ∷ 44 ∷ 48 ∷ 44 ∷ 48 ∷ 10 ∷ []) 8 6
    -- an `in=` line with a leading zero: 'budget=0\nroom=0\nlevels=0\ninputs=2\nin=3\nin=09\n'
    ∷ refusal (98 ∷ 117 ∷ 100 ∷ 103 ∷ 101 ∷ 116 ∷ 61 ∷ 48 ∷ 10 ∷ 114 ∷ 111 ∷ 111 ∷ 109 ∷ 61 ∷ 48 ∷ 10 ∷ 108 ∷ 101 ∷ 118 ∷ 101 ∷ 108 ∷ 115 ∷ 61 ∷ 48 ∷ 10 ∷ 105 ∷ 110 ∷ 112 ∷ 117 ∷ 116 ∷ 115 ∷ 61 ∷ 50 ∷ 10 ∷ 105 ∷ 110 ∷ 61 ∷ 51 ∷ 10 ∷ 105 ∷ 110 ∷ 61 ∷ 48 ∷ 57 ∷ 10 ∷ []) 7 6
    -- an 8 in an `in=` line: 'budget=0\nroom=0\nlevels=0\ninputs=2\nin=3\nin=4294967296\n'
    ∷ refusal (98 ∷ 117 ∷ 100 ∷ 103 ∷ 101 ∷ 116 ∷ 61 ∷ 48 ∷ 10 ∷ 114 ∷ 111 ∷ 111 ∷ 109 ∷ 61 ∷ 48 ∷ 10 ∷ 108 ∷ 101 ∷ 118 ∷ 101 ∷ 108 ∷ 115 ∷ 61 ∷ 48 ∷ 10 ∷ 105 ∷ 110 ∷ 112 ∷ 117 ∷ 116 ∷ 115 ∷ 61 ∷ 50 ∷ 10 ∷ 105 ∷ 110 ∷ 61 ∷ 51 ∷ 10 ∷ 105 ∷ 110 ∷ 61 ∷ 52 ∷ 50 ∷ 57 ∷ 52 ∷ 57 ∷ 54 ∷ 55 ∷ 50 ∷ 57 ∷ 54 ∷ 10 ∷ []) 8 6
    -- a missing `in=` line: 'budget=0\nroom=0\nlevels=0\ninputs=2\nin=3\nrows=0\n'
    ∷ refusal (98 ∷ 117 ∷ 100 ∷ 103 ∷ 101 ∷ 116 ∷ 61 ∷ 48 ∷ 10 ∷ 114 ∷ 111 ∷ 111 ∷ 109 ∷ 61 ∷ 48 ∷ 10 ∷ 108 ∷ 101 ∷ 118 ∷ 101 ∷ 108 ∷ 115 ∷ 61 ∷ 48 ∷ 10 ∷ 105 ∷ 110 ∷ 112 ∷ 117 ∷ 116 ∷ 115 ∷ 61 ∷ 50 ∷ 10 ∷ 105 ∷ 110 ∷ 61 ∷ 51 ∷ 10 ∷ 114 ∷ 111 ∷ 119 ∷ 115 ∷ 61 ∷ 48 ∷ 10 ∷ []) 7 6
    -- a missing row: 'budget=0\nroom=0\nlevels=0\ninputs=1\nin=3\nrows=1\n'
    ∷ refusal (98 ∷ 117 ∷ 100 ∷ 103 ∷ 101 ∷ 116 ∷ 61 ∷ 48 ∷ 10 ∷ 114 ∷ 111 ∷ 111 ∷ 109 ∷ 61 ∷ 48 ∷ 10 ∷ 108 ∷ 101 ∷ 118 ∷ 101 ∷ 108 ∷ 115 ∷ 61 ∷ 48 ∷ 10 ∷ 105 ∷ 110 ∷ 112 ∷ 117 ∷ 116 ∷ 115 ∷ 61 ∷ 49 ∷ 10 ∷ 105 ∷ 110 ∷ 61 ∷ 51 ∷ 10 ∷ 114 ∷ 111 ∷ 119 ∷ 115 ∷ 61 ∷ 49 ∷ 10 ∷ []) 7 7
    -- a further line: 'budget=0\nroom=0\nlevels=0\ninputs=0\nrows=0\nrow=0,0,0,0\n'
    ∷ refusal (98 ∷ 117 ∷ 100 ∷ 103 ∷ 101 ∷ 116 ∷ 61 ∷ 48 ∷ 10 ∷ 114 ∷ 111 ∷ 111 ∷ 109 ∷ 61 ∷ 48 ∷ 10 ∷ 108 ∷ 101 ∷ 118 ∷ 101 ∷ 108 ∷ 115 ∷ 61 ∷ 48 ∷ 10 ∷ 105 ∷ 110 ∷ 112 ∷ 117 ∷ 116 ∷ 115 ∷ 61 ∷ 48 ∷ 10 ∷ 114 ∷ 111 ∷ 119 ∷ 115 ∷ 61 ∷ 48 ∷ 10 ∷ 114 ∷ 111 ∷ 119 ∷ 61 ∷ 48 ∷ 44 ∷ 48 ∷ 44 ∷ 48 ∷ 44 ∷ 48 ∷ 10 ∷ []) 7 6
    -- an empty further line: 'budget=0\nroom=0\nlevels=0\ninputs=0\nrows=0\n\n'
    ∷ refusal (98 ∷ 117 ∷ 100 ∷ 103 ∷ 101 ∷ 116 ∷ 61 ∷ 48 ∷ 10 ∷ 114 ∷ 111 ∷ 111 ∷ 109 ∷ 61 ∷ 48 ∷ 10 ∷ 108 ∷ 101 ∷ 118 ∷ 101 ∷ 108 ∷ 115 ∷ 61 ∷ 48 ∷ 10 ∷ 105 ∷ 110 ∷ 112 ∷ 117 ∷ 116 ∷ 115 ∷ 61 ∷ 48 ∷ 10 ∷ 114 ∷ 111 ∷ 119 ∷ 115 ∷ 61 ∷ 48 ∷ 10 ∷ 10 ∷ []) 7 6
    ∷ []

-- The claim: each is refused as it says.
abbrev pub FaultyJobs : Type 0
FaultyJobs = map (λ (r : Reading). read_job r.text) faulty_jobs ≡ map (λ (r : Reading). r.told) faulty_jobs
