-- The proof of the cycle of calls {read_block, read_if, read_statement, read_while}: the text that remains falls. Each
-- answer is a law of the statement that was read as far as that.
use native.Mathlib.Omega.{arith}
use mathlib.Core.List.{[], ◌∷◌}
use mathlib.Core.Path.{refl}
use Rattle.language.specs.Tokens as word
use Rattle.reader.specs.Machine.{at_else, at_end, statement, exactly, rest}
use Rattle.reader.specs.Statements.{Outputs}
use Rattle.numbers.proofs.ErrLaws.{handed_on}
use Rattle.reader.proofs.SpellLaws.{spells_skip, spells_set, spells_if, spells_then, spells_else, spells_end, spells_while, spells_doing, spells_settled, spells_provisional, spells_semicolon}
use Rattle.reader.proofs.PlaceLaws.{led_start, missing_start, stuck_more, missing_unlike, stuck_end}
use Rattle.reader.proofs.StatementLaws.{asked_on, asked_after, with_else, with_end, stuck_statement, stuck_tested, stuck_if, stuck_chosen, stuck_while, stuck_semicolon, lacks_statement, test_ended, test_unended, block_ended, block_unended, skip_read, if_read, while_read, one_read, begun_read, over_begun, more_read}
use Rattle.reader.proofs.statements.+statements.Goals as goal

pub read_block-read_block-requires : goal.read_block-read_block-requires
read_block-read_block-requires t c =
    let first = c.in_ok-first.ensures in
    let more = c.in-Ok.ensures word.semicolon spells_semicolon in (
      omega (arith, c.decreases, first.few, first.counted, more.on, more.inside),
      asked_after {next = record { at = c.in-Ok.at; count = c.in_ok-first.first.count }} (asked_on c.requires first) refl more,
    )

pub read_block-returns-in_err-read-in-Ok : goal.read_block-returns-in_err-read-in-Ok
read_block-returns-in_err-read-in-Ok t c =
    let first = c.in_ok-first.ensures in
    let more = c.in-Ok.ensures word.semicolon spells_semicolon in
    rw (handed_on _ c.from_residual-in_err-read-in-Ok.ensures.1)
    (λ closer. stuck_statement (rest closer ∷ []) first (stuck_semicolon closer more (c.in_err-read-in-Ok.ensures closer)))

pub read_block-returns-in-Err : goal.read_block-returns-in-Err
read_block-returns-in-Err t c =
    let m = c.in-Err.ensures word.semicolon spells_semicolon in
    (begun_read (one_read c.in_ok-first.ensures) m.1, over_begun m.0 m.1)

pub read_block-returns-in_ok-read-in-Ok : goal.read_block-returns-in_ok-read-in-Ok
read_block-returns-in_ok-read-in-Ok t c =
    let first = c.in_ok-first.ensures in
    let more = c.in-Ok.ensures word.semicolon spells_semicolon in
    let others = c.in_ok-read-in-Ok.ensures in
    (more_read first more others.0 c.put_row.ensures, others.1)

pub read_if-returns-in_err-test : goal.read_if-returns-in_err-test
read_if-returns-in_err-test t c =
    rw (handed_on _ c.from_residual.ensures.1)
    (λ at w. stuck_if w (stuck_more c.in_err-test.ensures (exactly word.then ∷ statement ∷ rest at_else ∷ [])))

pub read_if-returns-in_err-tested : goal.read_if-returns-in_err-tested
read_if-returns-in_err-tested t c =
    rw (handed_on _ c.from_residual-in_err-tested.ensures.1)
    (λ at w.
    stuck_if w
    (stuck_more (test_unended spells_then c.in_ok-test.ensures (c.in_err-tested.ensures word.then spells_then)) (statement ∷ rest at_else ∷ [])))

pub read_if-read_block-requires : goal.read_if-read_block-requires
read_if-read_block-requires t c =
    let tested = test_ended spells_then c.in_ok-test.ensures (c.in_ok-tested.ensures word.then spells_then) in
    (omega (arith, c.decreases, tested.few, tested.counted, tested.inside), asked_on c.requires tested)

pub read_if-returns-in_err-choice : goal.read_if-returns-in_err-choice
read_if-returns-in_err-choice t c =
    let tested = test_ended spells_then c.in_ok-test.ensures (c.in_ok-tested.ensures word.then spells_then) in
    rw (handed_on _ c.from_residual-in_err-choice.ensures.1)
    (λ at w. stuck_if w (stuck_tested (statement ∷ rest at_else ∷ []) tested (c.in_err-choice.ensures at_else)))

pub read_if-returns-in_err-chosen : goal.read_if-returns-in_err-chosen
read_if-returns-in_err-chosen t c =
    let tested = test_ended spells_then c.in_ok-test.ensures (c.in_ok-tested.ensures word.then spells_then) in
    rw (handed_on _ c.from_residual-in_err-chosen.ensures.1)
    (λ at w.
    stuck_if w
    (stuck_tested (statement ∷ rest at_else ∷ []) tested
    (block_unended spells_else with_else c.in_ok-choice.ensures (c.in_err-chosen.ensures word.else spells_else))))

pub read_if-read_block-requires-2 : goal.read_if-read_block-requires-2
read_if-read_block-requires-2 t c =
    let tested = test_ended spells_then c.in_ok-test.ensures (c.in_ok-tested.ensures word.then spells_then) in
    let chosen = block_ended spells_else c.in_ok-choice.ensures (c.in_ok-chosen.ensures word.else spells_else) in (
      omega (arith, c.decreases, tested.few, tested.counted, chosen.few, chosen.counted, chosen.inside),
      asked_on (asked_on c.requires tested) chosen,
    )

pub read_if-returns-in_err-other : goal.read_if-returns-in_err-other
read_if-returns-in_err-other t c =
    let tested = test_ended spells_then c.in_ok-test.ensures (c.in_ok-tested.ensures word.then spells_then) in
    let chosen = block_ended spells_else c.in_ok-choice.ensures (c.in_ok-chosen.ensures word.else spells_else) in
    rw (handed_on _ c.from_residual-in_err-other.ensures.1)
    (λ at w. stuck_if w (stuck_tested (statement ∷ rest at_else ∷ []) tested (stuck_chosen chosen (c.in_err-other.ensures at_end))))

pub read_if-returns-in_err-read : goal.read_if-returns-in_err-read
read_if-returns-in_err-read t c =
    let tested = test_ended spells_then c.in_ok-test.ensures (c.in_ok-tested.ensures word.then spells_then) in
    let chosen = block_ended spells_else c.in_ok-choice.ensures (c.in_ok-chosen.ensures word.else spells_else) in
    rw (handed_on _ c.from_residual-in_err-read.ensures.1)
    (λ at w.
    stuck_if w
    (stuck_tested (statement ∷ rest at_else ∷ []) tested
    (stuck_chosen chosen (block_unended spells_end with_end c.in_ok-other.ensures (c.in_err-read.ensures word.end spells_end)))))

pub read_if-overflow_sub-tested : goal.read_if-overflow_sub-tested
read_if-overflow_sub-tested t c =
    let tested = test_ended spells_then c.in_ok-test.ensures (c.in_ok-tested.ensures word.then spells_then) in
    let chosen = block_ended spells_else c.in_ok-choice.ensures (c.in_ok-chosen.ensures word.else spells_else) in
    let told = block_ended spells_end c.in_ok-other.ensures (c.in_ok-read.ensures word.end spells_end) in
    omega (arith, tested.counted, chosen.counted, told.counted)

pub read_if-overflow_sub-chosen : goal.read_if-overflow_sub-chosen
read_if-overflow_sub-chosen t c =
    let tested = test_ended spells_then c.in_ok-test.ensures (c.in_ok-tested.ensures word.then spells_then) in
    let chosen = block_ended spells_else c.in_ok-choice.ensures (c.in_ok-chosen.ensures word.else spells_else) in
    let told = block_ended spells_end c.in_ok-other.ensures (c.in_ok-read.ensures word.end spells_end) in
    omega (arith, tested.counted, chosen.counted, told.counted)

pub read_if-overflow_sub-read : goal.read_if-overflow_sub-read
read_if-overflow_sub-read t c =
    let tested = test_ended spells_then c.in_ok-test.ensures (c.in_ok-tested.ensures word.then spells_then) in
    let chosen = block_ended spells_else c.in_ok-choice.ensures (c.in_ok-chosen.ensures word.else spells_else) in
    let told = block_ended spells_end c.in_ok-other.ensures (c.in_ok-read.ensures word.end spells_end) in
    omega (arith, tested.counted, chosen.counted, told.counted)

pub read_if-overflow_add-result : goal.read_if-overflow_add-result
read_if-overflow_add-result t c =
    let tested = test_ended spells_then c.in_ok-test.ensures (c.in_ok-tested.ensures word.then spells_then) in
    let chosen = block_ended spells_else c.in_ok-choice.ensures (c.in_ok-chosen.ensures word.else spells_else) in
    let told = block_ended spells_end c.in_ok-other.ensures (c.in_ok-read.ensures word.end spells_end) in
    let a = asked_on (asked_on (asked_on c.requires tested) chosen) told in
    omega (arith, a.inside, a.short, a.few)

pub read_if-returns : goal.read_if-returns
read_if-returns t c =
    let tested = test_ended spells_then c.in_ok-test.ensures (c.in_ok-tested.ensures word.then spells_then) in
    let chosen = block_ended spells_else c.in_ok-choice.ensures (c.in_ok-chosen.ensures word.else spells_else) in
    let told = block_ended spells_end c.in_ok-other.ensures (c.in_ok-read.ensures word.end spells_end) in
    λ at w. if_read w tested chosen told c.put_row.ensures

pub read_statement-returns-then-text-start : goal.read_statement-returns-then-text-start
read_statement-returns-then-text-start t c =
    stuck_end c.start_at-start.ensures c.if-text-start.true statement refl

pub read_statement-returns-then-is_word : goal.read_statement-returns-then-is_word
read_statement-returns-then-is_word t c =
    c.read_set.ensures _ (led_start c.start_at-start.ensures spells_set c.is_word.ensures.0 c.if-is_word.true)

pub read_statement-returns-then-is_word-2 : goal.read_statement-returns-then-is_word-2
read_statement-returns-then-is_word-2 t c =
    skip_read (led_start c.start_at-start.ensures spells_skip c.is_word-then-text-start-eq115.ensures.0 c.if-is_word-2.true) c.put_row.ensures

pub read_statement-returns-then-is_word-3 : goal.read_statement-returns-then-is_word-3
read_statement-returns-then-is_word-3 t c =
    c.read_output.ensures word.settled Outputs.settled _
    (led_start c.start_at-start.ensures spells_settled c.is_word-then-text-start-eq115-2.ensures.0 c.if-is_word-3.true)

pub read_statement-returns-then-text-start-eq115 : goal.read_statement-returns-then-text-start-eq115
read_statement-returns-then-text-start-eq115 t c =
    lacks_statement
    (missing_start c.start_at-start.ensures spells_skip c.is_word-then-text-start-eq115.ensures.0 c.if-is_word-2.false)
    (missing_start c.start_at-start.ensures spells_set c.is_word.ensures.0 c.if-is_word.false)
    (missing_unlike c.start_at-start.ensures spells_if (λ e. omega (arith, c.if-text-start-eq115.true, e)))
    (missing_unlike c.start_at-start.ensures spells_while (λ e. omega (arith, c.if-text-start-eq115.true, e)))
    (missing_start c.start_at-start.ensures spells_settled c.is_word-then-text-start-eq115-2.ensures.0 c.if-is_word-3.false)
    (missing_unlike c.start_at-start.ensures spells_provisional (λ e. omega (arith, c.if-text-start-eq115.true, e)))

pub read_statement-returns-then-is_word-4 : goal.read_statement-returns-then-is_word-4
read_statement-returns-then-is_word-4 t c =
    c.read_if.ensures _ (led_start c.start_at-start.ensures spells_if c.is_word-2.ensures.0 c.if-is_word-4.true)

pub read_statement-returns-then-is_word-5 : goal.read_statement-returns-then-is_word-5
read_statement-returns-then-is_word-5 t c =
    c.read_while.ensures _ (led_start c.start_at-start.ensures spells_while c.is_word-3.ensures.0 c.if-is_word-5.true)

pub read_statement-returns-then-is_word-6 : goal.read_statement-returns-then-is_word-6
read_statement-returns-then-is_word-6 t c =
    c.read_output-then-is_word-6.ensures word.provisional Outputs.provisional _
    (led_start c.start_at-start.ensures spells_provisional c.is_word-4.ensures.0 c.if-is_word-6.true)

pub read_statement-returns : goal.read_statement-returns
read_statement-returns t c =
    lacks_statement
    (missing_unlike c.start_at-start.ensures spells_skip c.if-text-start-eq115.false)
    (missing_unlike c.start_at-start.ensures spells_set c.if-text-start-eq115.false)
    (missing_start c.start_at-start.ensures spells_if c.is_word-2.ensures.0 c.if-is_word-4.false)
    (missing_start c.start_at-start.ensures spells_while c.is_word-3.ensures.0 c.if-is_word-5.false)
    (missing_unlike c.start_at-start.ensures spells_settled c.if-text-start-eq115.false)
    (missing_start c.start_at-start.ensures spells_provisional c.is_word-4.ensures.0 c.if-is_word-6.false)

pub read_while-returns-in_err-test : goal.read_while-returns-in_err-test
read_while-returns-in_err-test t c =
    rw (handed_on _ c.from_residual.ensures.1)
    (λ at w. stuck_while w (stuck_more c.in_err-test.ensures (exactly word.doing ∷ statement ∷ rest at_end ∷ [])))

pub read_while-returns-in_err-tested : goal.read_while-returns-in_err-tested
read_while-returns-in_err-tested t c =
    rw (handed_on _ c.from_residual-in_err-tested.ensures.1)
    (λ at w.
    stuck_while w
    (stuck_more (test_unended spells_doing c.in_ok-test.ensures (c.in_err-tested.ensures word.doing spells_doing)) (statement ∷ rest at_end ∷ [])))

pub read_while-read_block-requires : goal.read_while-read_block-requires
read_while-read_block-requires t c =
    let tested = test_ended spells_doing c.in_ok-test.ensures (c.in_ok-tested.ensures word.doing spells_doing) in
    (omega (arith, c.decreases, tested.few, tested.counted, tested.inside), asked_on c.requires tested)

pub read_while-returns-in_err-body : goal.read_while-returns-in_err-body
read_while-returns-in_err-body t c =
    let tested = test_ended spells_doing c.in_ok-test.ensures (c.in_ok-tested.ensures word.doing spells_doing) in
    rw (handed_on _ c.from_residual-in_err-body.ensures.1)
    (λ at w. stuck_while w (stuck_tested (statement ∷ rest at_end ∷ []) tested (c.in_err-body.ensures at_end)))

pub read_while-returns-in_err-read : goal.read_while-returns-in_err-read
read_while-returns-in_err-read t c =
    let tested = test_ended spells_doing c.in_ok-test.ensures (c.in_ok-tested.ensures word.doing spells_doing) in
    rw (handed_on _ c.from_residual-in_err-read.ensures.1)
    (λ at w.
    stuck_while w
    (stuck_tested (statement ∷ rest at_end ∷ []) tested
    (block_unended spells_end with_end c.in_ok-body.ensures (c.in_err-read.ensures word.end spells_end))))

pub read_while-overflow_sub-tested : goal.read_while-overflow_sub-tested
read_while-overflow_sub-tested t c =
    let tested = test_ended spells_doing c.in_ok-test.ensures (c.in_ok-tested.ensures word.doing spells_doing) in
    let told = block_ended spells_end c.in_ok-body.ensures (c.in_ok-read.ensures word.end spells_end) in
    omega (arith, tested.counted, told.counted)

pub read_while-overflow_sub-read : goal.read_while-overflow_sub-read
read_while-overflow_sub-read t c =
    let tested = test_ended spells_doing c.in_ok-test.ensures (c.in_ok-tested.ensures word.doing spells_doing) in
    let told = block_ended spells_end c.in_ok-body.ensures (c.in_ok-read.ensures word.end spells_end) in
    omega (arith, tested.counted, told.counted)

pub read_while-overflow_add-result : goal.read_while-overflow_add-result
read_while-overflow_add-result t c =
    let tested = test_ended spells_doing c.in_ok-test.ensures (c.in_ok-tested.ensures word.doing spells_doing) in
    let told = block_ended spells_end c.in_ok-body.ensures (c.in_ok-read.ensures word.end spells_end) in
    let a = asked_on (asked_on c.requires tested) told in
    omega (arith, a.inside, a.short, a.few)

pub read_while-returns : goal.read_while-returns
read_while-returns t c =
    let tested = test_ended spells_doing c.in_ok-test.ensures (c.in_ok-tested.ensures word.doing spells_doing) in
    let told = block_ended spells_end c.in_ok-body.ensures (c.in_ok-read.ensures word.end spells_end) in
    λ at w. while_read w tested told c.put_row.ensures
