-- `reader::head::read_head` meets its contract. Assumes nothing.
use Rattle.language.specs.Tokens as token
use Rattle.numbers.proofs.ErrLaws.{handed_on}
use Rattle.reader.proofs.SpellLaws.{spells_input}
use Rattle.reader.proofs.HeadLaws.{head_none, head_more, head_faulty}
use Rattle.reader.proofs.head.read_head.Goals as goal

pub loop-next-init : goal.loop-next-init
loop-next-init c = head_none c.args.text.now

pub returns-in_err-read_declaration : goal.returns-in_err-read_declaration
returns-in_err-read_declaration c =
    rw (handed_on _ c.from_residual.ensures.1)
    (head_faulty c.loop-next.invariant (c.in-Ok.ensures token.input spells_input) c.in_err-read_declaration.ensures)

pub loop-next-smaller : goal.loop-next-smaller
loop-next-smaller c =
    (head_more c.loop-next.invariant (c.in-Ok.ensures token.input spells_input) c.in_ok-read_declaration.ensures _ c.seen_with-s.ensures).1

pub loop-next-preserved : goal.loop-next-preserved
loop-next-preserved c =
    (head_more c.loop-next.invariant (c.in-Ok.ensures token.input spells_input) c.in_ok-read_declaration.ensures _ c.seen_with-s.ensures).0

pub returns : goal.returns
returns c = (c.loop-next.invariant, (c.in_default.ensures token.input spells_input).0)
