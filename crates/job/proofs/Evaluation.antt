-- The refusals of a job, proved by evaluating the definitions.
use mathlib.Core.Path.{refl}
use Rattle.lines.specs.Numbers.{is_digit, on_byte, digits_on, begun, number_at}
use Rattle.lines.specs.Lines.{after_key, number_after, field, put, onward, fields_of, in_range, closed, ended, line_of, on_line, lines_of}
use Rattle.job.specs.Jobs.{one, many, finish, form_at, number_line, number_lines, row_line, read_table, read_inputs, read_lines, sized, read_job}
use Rattle.job.specs.Cases.{faulty_jobs, FaultyJobs}

-- Whoever unfolds this unfolds what reads a job.
unfoldable pub reading : Unit {0}
unfolding is_digit on_byte digits_on begun number_at after_key number_after field put onward fields_of in_range closed ended line_of on_line lines_of one many finish form_at number_line number_lines row_line read_table read_inputs read_lines sized read_job
reading = tt

pub faulty_met : FaultyJobs
unfolding reading faulty_jobs
faulty_met = refl
