-- `reader::head::read_level` meets its contract. Assumes nothing.
use Rattle.reader.proofs.SpellLaws.{spells_semicolon, spells_settled, spells_provisional}
use Rattle.reader.proofs.PlaceLaws.{led_key, missing_key}
use Rattle.reader.proofs.HeadLaws.{level_plain, level_settled, level_provisional, level_none}
use Rattle.reader.proofs.head.read_level.Goals as goal

pub returns-then-is_key : goal.returns-then-is_key
returns-then-is_key c =
    level_plain
    (led_key c.word_at-start.ensures c.word_part-word.ensures c.is_key.ensures c.if-is_key.true spells_semicolon)

pub returns-then-is_key-2 : goal.returns-then-is_key-2
returns-then-is_key-2 c =
    level_settled
    (led_key c.word_at-start.ensures c.word_part-word.ensures c.is_key-2.ensures c.if-is_key-2.true spells_settled)
    c.close_level.result c.close_level.ensures

pub returns-then-is_key-3 : goal.returns-then-is_key-3
returns-then-is_key-3 c =
    level_provisional
    (led_key c.word_at-start.ensures c.word_part-word.ensures c.is_key-3.ensures c.if-is_key-3.true spells_provisional)
    c.close_level-then-is_key-3.result c.close_level-then-is_key-3.ensures

pub returns : goal.returns
returns c =
    let word = c.word_part-word.ensures in
    let cut = c.word_at-start.ensures in
    level_none
    (missing_key cut word c.is_key.ensures c.if-is_key.false spells_semicolon)
    (missing_key cut word c.is_key-2.ensures c.if-is_key-2.false spells_settled)
    (missing_key cut word c.is_key-3.ensures c.if-is_key-3.false spells_provisional)
