-- `reader::head::read_declaration` meets its contract. Assumes nothing.
use mathlib.Core.List.{[], ◌∷◌}
use Rattle.reader.specs.Machine.{level}
use Rattle.numbers.proofs.ErrLaws.{handed_on}
use Rattle.reader.proofs.ErrLaws.{err_missing}
use Rattle.reader.proofs.PlaceLaws.{stuck_more}
use Rattle.reader.proofs.NameLaws.{led_name, cut_name, lacks_name}
use Rattle.reader.proofs.HeadLaws.{declaration_variable, declaration_stuck}
use Rattle.reader.proofs.head.read_declaration.Goals as goal

pub returns-in_err-name : goal.returns-in_err-name
returns-in_err-name c =
    rw (err_missing _ _ c.from_residual.ensures.1 c.in_err-name.ensures.ok_part c.in_err-name.ensures.value)
    (stuck_more (lacks_name c.start_at-start.ensures c.variable_at.ensures c.in_err-name.ensures.ok_part) (level ∷ []))

pub returns-in_err-level : goal.returns-in_err-level
returns-in_err-level c =
    rw (handed_on _ c.from_residual-in_err-level.ensures.1)
    (declaration_stuck (led_name c.start_at-start.ensures c.variable_at.ensures c.in_ok-name.ensures.ok_part) c.in_err-level.ensures)

pub returns : goal.returns
returns c =
    declaration_variable (cut_name c.start_at-start.ensures c.variable_at.ensures c.in_ok-name.ensures.ok_part)
    (led_name c.start_at-start.ensures c.variable_at.ensures c.in_ok-name.ensures.ok_part) c.in_ok-level.ensures
