-- `reader::statements::read_set` meets its contract. Assumes nothing.
use native.Mathlib.Omega.{arith}
use mathlib.Core.List.{[], ◌∷◌}
use mathlib.Core.Path.{refl}
use Rattle.rules.specs.declared.Operator.{Operator}
use Rattle.language.specs.Tokens as word
use Rattle.reader.specs.Machine.{expr, exactly}
use Rattle.numbers.proofs.ErrLaws.{handed_on}
use Rattle.reader.proofs.ErrLaws.{err_missing}
use Rattle.reader.proofs.SpellLaws.{spells_equal}
use Rattle.reader.proofs.PlaceLaws.{stuck_more, lacks_word}
use Rattle.reader.proofs.NameLaws.{led_name, lacks_name}
use Rattle.reader.proofs.StatementLaws.{asked_after, stuck_set, stuck_name, stuck_exactly, set_read}
use Rattle.reader.proofs.statements.read_set.Goals as goal

pub returns-in_err-name : goal.returns-in_err-name
returns-in_err-name c =
    rw (err_missing _ _ c.from_residual.ensures.1 c.in_err-name.ensures.ok_part c.in_err-name.ensures.value)
    (λ at w.
    stuck_set w
    (stuck_more (lacks_name c.start_at-start.ensures c.variable_at.ensures c.in_err-name.ensures.ok_part) (exactly (word.sign Operator.Equal) ∷ expr ∷ [])))

pub returns-in-Err : goal.returns-in-Err
returns-in-Err c =
    let named = led_name c.start_at-start.ensures c.variable_at.ensures c.in_ok-name.ensures.ok_part in
    let m = c.in-Err.ensures (word.sign Operator.Equal) spells_equal in
    λ at w. stuck_set w (stuck_name (exactly (word.sign Operator.Equal) ∷ expr ∷ []) named (stuck_more (lacks_word m.0) (expr ∷ [])))

pub read_expression-requires : goal.read_expression-requires
read_expression-requires c =
    let named = led_name c.start_at-start.ensures c.variable_at.ensures c.in_ok-name.ensures.ok_part in
    let equal = c.in-Ok.ensures (word.sign Operator.Equal) spells_equal in
    asked_after {next = record { at = c.in-Ok.at; count = c.args.from.count }}
    (asked_after {next = record { at = c.in_ok-name.name.next; count = c.args.from.count }} c.requires refl named) refl equal

pub returns-in_err-read : goal.returns-in_err-read
returns-in_err-read c =
    let named = led_name c.start_at-start.ensures c.variable_at.ensures c.in_ok-name.ensures.ok_part in
    let equal = c.in-Ok.ensures (word.sign Operator.Equal) spells_equal in
    rw (handed_on _ c.from_residual-in_err-read.ensures.1)
    (λ at w. stuck_set w (stuck_name (exactly (word.sign Operator.Equal) ∷ expr ∷ []) named (stuck_exactly (expr ∷ []) equal c.in_err-read.ensures)))

pub overflow_add-result : goal.overflow_add-result
overflow_add-result c =
    let named = led_name c.start_at-start.ensures c.variable_at.ensures c.in_ok-name.ensures.ok_part in
    let equal = c.in-Ok.ensures (word.sign Operator.Equal) spells_equal in
    let e = c.in_ok-read.ensures in
    omega (arith, c.requires.few, c.requires.short, named.on, equal.on, e.few, e.inside)

pub returns : goal.returns
returns c =
    let named = led_name c.start_at-start.ensures c.variable_at.ensures c.in_ok-name.ensures.ok_part in
    let equal = c.in-Ok.ensures (word.sign Operator.Equal) spells_equal in
    λ at w. set_read w named equal c.in_ok-read.ensures c.put_row.ensures
