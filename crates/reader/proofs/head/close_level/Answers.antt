-- `reader::head::close_level` meets its contract. Assumes nothing.
use mathlib.Core.Path.{refl}
use Rattle.language.specs.Tokens as token
use Rattle.reader.proofs.SpellLaws.{spells_semicolon}
use Rattle.reader.proofs.PlaceLaws.{lacks_word}
use Rattle.reader.proofs.head.close_level.Goals as goal

pub returns-in-Ok : goal.returns-in-Ok
returns-in-Ok c = (refl, c.in-Ok.ensures token.semicolon spells_semicolon)

pub returns-in-Err : goal.returns-in-Err
returns-in-Err c = lacks_word (c.in-Err.ensures token.semicolon spells_semicolon).0
