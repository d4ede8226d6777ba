-- `reader::read_body` meets its contract. Assumes nothing.
use native.Mathlib.Omega.{arith}
use mathlib.Core.Path.{ap}
use Rattle.language.specs.Limits.{faulty_word}
use Rattle.language.specs.Readings.{refused}
use Rattle.reader.specs.Machine.{at_finish}
use Rattle.reader.proofs.WholeLaws.{said_flaw}
use Rattle.reader.proofs.TextLaws.{body_faulty, body_left, body_read, reads_as}
use Rattle.reader.proofs.read_body.Goals as goal

pub returns-in-Err : goal.returns-in-Err
returns-in-Err c =
    let a = c.args in
    reads_as a.text.now a.table.now (said_flaw c.faulty.ensures)
    (body_faulty a.text.now a.table.now a.s _ c.requires.0 c.requires.1 (c.in-Err.ensures at_finish))

pub returns-then-rest : goal.returns-then-rest
returns-then-rest c =
    let a = c.args in
    let b = c.in-Ok.ensures in
    reads_as a.text.now a.table.now (ap (refused faulty_word 0) c.from.ensures)
    (body_left a.text.now a.table.now _ _ a.s _ _ c.word_at-rest.result c.requires.0 c.requires.1 b.0 b.1 c.word_at-rest.ensures c.if-rest.true)

pub returns : goal.returns
returns c =
    let a = c.args in
    body_read a.text.now a.table.now _ _ a.s _ _ c.word_at-rest.result _ _ c.requires.0 c.requires.1 (omega arith) c.in-Ok.ensures.0 c.word_at-rest.ensures
    (omega (arith, c.word_at-rest.ensures.forward, c.if-rest.false)) c.finish.ensures
