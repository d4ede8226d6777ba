-- Reports, proved by evaluating the definitions.
use mathlib.Core.Path.{refl}
use Rattle.rules.specs.Marks.{marked_below, marked}
use Rattle.rules.proofs.Evaluation.{rules}
use Rattle.lines.specs.Numbers.{higher, decimal_in, decimal}
use Rattle.lines.specs.Lines.{field_text, fields_text, line_text, one_text}
use Rattle.report.specs.Reports.{refusal_text, record_text, records_text, memory_text, head_text, run_text, said_text, report}
use Rattle.report.specs.Cases.{RefusalsPrinted, RunPrinted}

-- Whoever unfolds this unfolds what writes a report.
unfoldable pub writing : Unit {0}
unfolding higher decimal_in decimal field_text fields_text line_text one_text refusal_text record_text records_text memory_text head_text run_text said_text report marked_below marked
writing = tt

pub refusals_printed : RefusalsPrinted
unfolding writing
refusals_printed = (refl, refl)

pub run_printed : RunPrinted
unfolding rules writing
run_printed = refl
