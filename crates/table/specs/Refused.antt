-- Each of the refusals 2 to 5 at the lowest row to which it applies, as `judge_rows` of the rules has it.
use Rattle.std.specs.Prelude.{List, length}
use Rattle.rules.specs.Judged.{Judged}
use Rattle.rules.specs.declared.Row.{Row}
use Rattle.rules.specs.Rows.{row_at}
use Rattle.rules.specs.Judging.{wrong_words, wrong_children, children, wrong_parents, too_deep, lowest}

abbrev pub refused_words : List Row → Judged
refused_words rows = lowest 2 (λ i. wrong_words (row_at rows i)) 0 (length rows)

abbrev pub refused_children : List Row → Judged
refused_children rows = lowest 3 (λ i. wrong_children rows i (row_at rows i)) 0 (length rows)

abbrev pub refused_parents : List Row → Judged
refused_parents rows = lowest 4 (wrong_parents rows (children rows)) 0 (length rows)

abbrev pub refused_depths : List Row → Judged
refused_depths rows = lowest 5 (too_deep rows) 0 (length rows)
