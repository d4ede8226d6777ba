-- The numbers of a job, each once, under a name.
use Rattle.std.specs.Prelude.{ℕ}
use Rattle.rules.specs.Limits.{width}

-- 9.4: .. `room=` with at most 8,192 records, ..
abbrev pub most_room : ℕ
most_room = 8192

-- 9.4: .. `inputs=` with at most 32.
abbrev pub most_inputs : ℕ
most_inputs = width

-- 9.9: Refusal 9, at 0: the job is longer than 32,768 bytes.
abbrev pub too_long : ℕ
too_long = 9
