-- `step::Machine::branch` meets its contract.
use Rattle.rules.specs.Rows.{rows_of}
use Rattle.rules.specs.Trees.{expr_at}
use Rattle.step.proofs.ArrayLaws.{level_found, found_holds, found_fails}
use Rattle.step.proofs.Machine.branch.Goals as goal

pub returns-then-test-ne0 : goal.returns-then-test-ne0
returns-then-test-ne0 c =
    let m = c.args.self.now in
    let x = expr_at (rows_of c.args.table.now) c.args.row.p in
    let v = c.evaluate-test.result in
    let e = c.evaluate-test.ensures in
    record {
      then = λ h. rw (level_found m.words m.marks x v e) at c.open_branch.ensures;
      otherwise = λ h. found_holds m.words m.marks x v e c.if-test-ne0.true h;
    }

pub returns : goal.returns
returns c =
    let m = c.args.self.now in
    let x = expr_at (rows_of c.args.table.now) c.args.row.p in
    let v = c.evaluate-test.result in
    let e = c.evaluate-test.ensures in
    record {
      then = λ h. found_fails m.words m.marks x v e c.if-test-ne0.false h;
      otherwise = λ h. rw (level_found m.words m.marks x v e) at c.open_branch-2.ensures;
    }
