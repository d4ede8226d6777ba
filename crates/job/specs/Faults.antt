-- The rules' numbers of a job's faults.
use Rattle.std.specs.Prelude.{ℕ}
use Rattle.lines.specs.Limits.{lacks_form, out_of_range}
use Rattle.job.specs.Limits.{too_long}
use Rattle.job.specs.declared.Fault.{Fault}

-- 10.11: Where a function answers with an enum, a definition gives these rules' numbers and values for each of its cases.
abbrev pub fault_number : Fault → ℕ
fault_number Fault.LacksForm = lacks_form
fault_number Fault.OutOfRange = out_of_range
fault_number Fault.TooLong = too_long
