-- `job::read_table` meets its contract. Assumes nothing.
use Prim.Native.Nat.{◌+◌, ◌*◌}
use mathlib.Core.List.{[], ◌∷◌}
use mathlib.Core.Path.{ap, ◌∙◌}
use lib.ListN.{take, drop}
use Rattle.rules.specs.Limits.{row_words, most_rows, table_words}
use Rattle.job.specs.Jobs.{first_input}
use Rattle.lines.specs.Lines.{rows_key}
use Rattle.job.specs.Read.{numbers_of, reading}
use Rattle.lines.proofs.LineLaws.{line_within}
use Rattle.numbers.proofs.ErrLaws.{handed_on}
use Rattle.job.proofs.JobLaws.{table_uncounted, table_broken, table_further, table_told, filled_front, rows_counted, reading_refused, reading_told}
use native.Mathlib.Omega.{arith}
use Rattle.job.proofs.read_table.Goals as goal

pub returns-in_err-rows : goal.returns-in_err-rows
returns-in_err-rows c =
    let args = c.args in
    let refusal = c.in_err-rows.ensures in
    rw (handed_on _ c.from_residual.ensures.1, refusal.1)
    (reading_refused _ _
    ∙ ap reading (table_uncounted (first_input + args.head.inputs) (numbers_of args.head) (take args.head.inputs args.memory.words) (drop args.at args.text.now) _ refusal.0))

pub read_rows-requires : goal.read_rows-requires
read_rows-requires c =
    let args = c.args in
    let text = args.text.now in
    let rows = c.in_ok-rows.rows in
    (line_within (rows_key ∷ []) most_rows rows.value (drop args.at text) (drop rows.next text) c.in_ok-rows.ensures, omega arith)

pub returns-in_err-end : goal.returns-in_err-end
returns-in_err-end c =
    let args = c.args in
    let text = args.text.now in
    let rows = c.in_ok-rows.rows in
    let said = rw c.in_err-end.was at c.read_rows.ensures.said in
    rw (handed_on _ c.from_residual-in_err-end.ensures.1)
    (reading_refused _ _
    ∙ ap reading
    (table_broken (first_input + args.head.inputs) (numbers_of args.head) (take args.head.inputs args.memory.words) (drop args.at text) rows.value
    (5 + args.head.inputs + 1) (drop rows.next text) c.in_ok-rows.ensures (omega arith) _ _ said))

pub overflow_add-result-then-end-text : goal.overflow_add-result-then-end-text
overflow_add-result-then-end-text c =
    let args = c.args in
    let text = args.text.now in
    let rows = c.in_ok-rows.rows in
    let few = line_within (rows_key ∷ []) most_rows rows.value (drop args.at text) (drop rows.next text) c.in_ok-rows.ensures in
    omega arith

pub returns-then-end-text : goal.returns-then-end-text
returns-then-end-text c =
    let args = c.args in
    let text = args.text.now in
    let rows = c.in_ok-rows.rows in
    let words = c.read_rows.new.table in
    let said = rw c.in_ok-end.was at c.read_rows.ensures.said in
    reading_refused _ _
    ∙ ap reading
    (table_further (first_input + args.head.inputs) (numbers_of args.head) (take args.head.inputs args.memory.words) (drop args.at text) rows.value
    (5 + args.head.inputs + 1) (drop rows.next text) c.in_ok-rows.ensures (omega arith) (take (row_words * rows.value) words) text c.in_ok-end.end
    said c.if-end-text.true)

pub returns : goal.returns
returns c =
    let args = c.args in
    let text = args.text.now in
    let rows = c.in_ok-rows.rows in
    let words = c.read_rows.new.table in
    let values = take args.head.inputs args.memory.words in
    let few = line_within (rows_key ∷ []) most_rows rows.value (drop args.at text) (drop rows.next text) c.in_ok-rows.ensures in
    let same = c.read_rows.ensures.same in
    let said = rw c.in_ok-end.was at c.read_rows.ensures.said in
    reading_told (numbers_of args.head) args.memory.words words values (take (row_words * rows.value) words) rows.value c.requires.1
    (filled_front table_words (row_words * rows.value) words (omega arith) same c.read_rows.ensures.kept)
    (rows_counted rows.value words (omega (arith, few, same)))
    ∙ ap reading
    (table_told (first_input + args.head.inputs) (numbers_of args.head) values (drop args.at text) rows.value
    (5 + args.head.inputs + 1) (drop rows.next text) c.in_ok-rows.ensures (omega arith) (take (row_words * rows.value) words) text c.in_ok-end.end
    said c.if-end-text.false)
