-- What is run of a job that was read.
use Rattle.std.specs.Prelude.{ℕ, ◌*◌, List, take}
use Rattle.rules.specs.Limits.{row_words}
use Rattle.rules.specs.Answers.{Inputs, inputs}
use Rattle.job.specs.declared.Job.{Job}

-- the words of its rows, its memory, its mark set and its budget, with this trace
abbrev pub inputs_with : Job → List ℕ → Inputs
inputs_with job trace = inputs (take (row_words * job.rows) job.table) job.memory.words job.marks job.budget trace
