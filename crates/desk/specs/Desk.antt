-- The report of a job's bytes: what the job says is run by the rules, and the answer is reported.
-- 9.11: What a job says is run, with a trace for as many records as `room=` says; so refusals 1 to 5 come after 7 to 9.
use Rattle.std.specs.Prelude.{ℕ, ◌*◌, List, replicate}
use Rattle.rules.specs.Limits.{width, record_words}
use Rattle.rules.specs.Answers.{Whole, inputs, answer}
use Rattle.job.specs.Limits.{most_room}
use Rattle.job.specs.Jobs.{Job, Told, told, untold, read_job}
use Rattle.job.specs.Read.{filled}
use Rattle.report.specs.Reports.{refusal_text, report}
use Rattle.report.specs.Written.{most_run}

-- the bytes of the longest report: that of a run whose records fill the most room
abbrev pub most_report : ℕ
most_report = most_run most_room

-- The trace has the words of as many records as there is room for.
-- 9.5: .. the other variables are 0.
-- 9.11: What a job says is run, with a trace for as many records as `room=` says; ..
unfoldable pub job_answer : Job → Whole
job_answer job =
    answer
    (inputs job.table (filled width job.inputs) job.marks job.budget (replicate (record_words * job.room) 0))

-- The run itself refuses a table, and its report is the refusal's.
-- 9.11: .. so refusals 1 to 5 come after 7 to 9.
unfoldable pub told_report : Told → List ℕ
told_report (told job) = report (job_answer job)
told_report (untold refusal at) = refusal_text refusal at

unfoldable pub job_report : List ℕ → List ℕ
job_report text = told_report (read_job text)
