-- `monitor::run_accepted` meets its contract.
use native.Mathlib.Omega.{arith}
use mathlib.Core.Path.{refl}
use borrow.Author.Rules.{rules}
use Rattle.rules.proofs.JudgeLaws.{accepted_sound, accepted_count}
use Rattle.monitor.proofs.CallLaws.{machine_holds, machine_told}
use Rattle.monitor.proofs.run_accepted.Goals as goal

pub overflow_sub-last : goal.overflow_sub-last
overflow_sub-last c =
    let a = c.args in
    omega (arith, accepted_count a.table.now c.requires.0, (accepted_sound a.table.now c.requires.0).some)

pub overflow_cast-last : goal.overflow_cast-last
overflow_cast-last c =
    let a = c.args in
    record { fits = omega (arith, accepted_count a.table.now c.requires.0, (accepted_sound a.table.now c.requires.0).few) }

pub new-machine-requires : goal.new-machine-requires
new-machine-requires c =
    let a = c.args in
    omega (arith, accepted_count a.table.now c.requires.0, (accepted_sound a.table.now c.requires.0).few, (accepted_sound a.table.now c.requires.0).some)

pub go_on-finish-requires : goal.go_on-finish-requires
go_on-finish-requires c =
    let a = c.args in
    machine_holds a.table.now a.memory.words a.marks c.requires.0 a.trace.now c.new-machine.result c.new-machine.ensures
    (search rules) c.ranges.marks.fits

pub returns : goal.returns
returns c =
    let a = c.args in
    machine_told a.table.now a.memory.words a.marks c.requires.0 a.trace.now c.new-machine.result c.new-machine.ensures
    a.budget _ _ _ _ c.go_on-finish.ensures _ refl
