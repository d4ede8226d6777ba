-- `step::Machine::apply` meets its contract.
use borrow.Enum.Refused.{opened}
use mathlib.Core.Path.{refl}
use Rattle.rules.specs.Rows.{rows_of}
use Rattle.rules.proofs.RowLaws.{output_left}
use Rattle.step.proofs.ArmLaws.{sort, arm_skip, assign_needs, arm_assign, if_needs, arm_if, while_needs, arm_while, output_needs, arm_output}
use Rattle.step.proofs.Machine.apply.Goals as goal

pub assign-requires : goal.assign-requires
assign-requires c =
    let a = c.args in
    assign_needs (rows_of a.table.now) a.self.now a.trace.now c.requires.0 a.at a.row c.requires.1 c.in-Assign.is

pub branch-self-requires : goal.branch-self-requires
branch-self-requires c =
    let a = c.args in
    if_needs (rows_of a.table.now) a.self.now a.trace.now c.requires.0 a.at a.row c.requires.1 c.in-If.is

pub loop_on-requires : goal.loop_on-requires
loop_on-requires c =
    let a = c.args in
    while_needs (rows_of a.table.now) a.self.now a.trace.now c.requires.0 a.at a.row c.requires.1 c.in-While.is

pub put_out-requires : goal.put_out-requires
put_out-requires c =
    let a = c.args in
    let kind = output_left a.row.kind (opened c.in_default.in_default-own.keys5) (sort (rows_of a.table.now) a.self.now a.trace.now c.requires.0 a.at a.row c.requires.1) c.requires.2 in
    output_needs (rows_of a.table.now) a.self.now a.trace.now c.requires.0 a.at a.row c.requires.1 kind

pub returns-in-Skip-clause-applied : goal.returns-in-Skip-clause-applied
returns-in-Skip-clause-applied c =
    let a = c.args in
    arm_skip (rows_of a.table.now) a.self.now a.trace.now c.requires.0 a.at a.row c.requires.1 c.in-Skip.is (record a.self.now { pending = c.pop.new.self })
    (record { held = λ i. record { pending = c.pop.ensures.len i; pile = a.self.now.pile.len; records = a.self.now.records; marks = a.self.now.marks }; words = refl; entries = c.pop.ensures.items; sets = refl })

pub returns-in-Assign-clause-applied : goal.returns-in-Assign-clause-applied
returns-in-Assign-clause-applied c =
    let a = c.args in
    arm_assign (rows_of a.table.now) a.self.now a.trace.now c.requires.0 a.at a.row c.requires.1 c.in-Assign.is c.assign.new.self c.assign.ensures.stored c.assign.ensures.marked c.assign.ensures.entries c.assign.ensures.sets

pub returns-in-If-clause-applied : goal.returns-in-If-clause-applied
returns-in-If-clause-applied c =
    let a = c.args in
    arm_if (rows_of a.table.now) a.self.now a.trace.now c.requires.0 a.at a.row c.requires.1 c.in-If.is c.branch-self.new.self c.branch-self.ensures

pub returns-in-While-clause-applied : goal.returns-in-While-clause-applied
returns-in-While-clause-applied c =
    let a = c.args in
    arm_while (rows_of a.table.now) a.self.now a.trace.now c.requires.0 a.at a.row c.requires.1 c.in-While.is c.loop_on.new.self c.loop_on.ensures

pub returns-in_default-clause-applied : goal.returns-in_default-clause-applied
returns-in_default-clause-applied c =
    let a = c.args in
    let kind = output_left a.row.kind (opened c.in_default.in_default-own.keys5) (sort (rows_of a.table.now) a.self.now a.trace.now c.requires.0 a.at a.row c.requires.1) c.requires.2 in
    arm_output (rows_of a.table.now) a.self.now a.trace.now c.requires.0 a.at a.row c.requires.1 kind c.put_out.new.self _ _ c.put_out.ensures.out c.put_out.ensures.kept
