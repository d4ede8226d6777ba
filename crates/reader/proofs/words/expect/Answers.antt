-- `reader::words::expect` meets its contract.
use native.Mathlib.Omega.{arith}
use Rattle.reader.proofs.PlaceLaws.{led_start, missing_start}
use Rattle.reader.proofs.words.expect.Goals as goal

pub is_word-requires : goal.is_word-requires
is_word-requires c = c.start_at-start.ensures.inside

pub overflow_add-result : goal.overflow_add-result
overflow_add-result c = omega (arith, c.is_word.ensures.1 c.if-is_word.true)

pub returns-then-is_word : goal.returns-then-is_word
returns-then-is_word c =
    λ t k. led_start c.start_at-start.ensures k c.is_word.ensures.0 c.if-is_word.true

pub returns-else-is_word : goal.returns-else-is_word
returns-else-is_word c =
    λ t k. (missing_start c.start_at-start.ensures k c.is_word.ensures.0 c.if-is_word.false, c.start_at-start.ensures)
