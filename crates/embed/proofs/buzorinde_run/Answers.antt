-- `embed::buzorinde_run` meets its contract.
use Rattle.std.proofs.Common.{rules}
use Rattle.rules.specs.Answers.{inputs}
use Rattle.embed.proofs.CallLaws.{run_answered}
use Rattle.embed.proofs.buzorinde_run.Goals as goal

pub returns : goal.returns
returns c =
    let a = c.args in
    run_answered (inputs a.table.now a.memory.now a.marks a.budget a.trace.now) a.answer.now c.in-Some-first_chunk_mut.words.now _
    c.run-reached.result c.from-said.result c.because_of.result (search rules) (search rules) (search rules) c.run-reached.ensures c.from-said.ensures c.because_of.ensures
