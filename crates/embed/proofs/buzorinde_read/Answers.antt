-- `embed::buzorinde_read` meets its contract.
use Rattle.std.proofs.Common.{List, ℕ, ◌++◌, drop, ap, rules}
use Rattle.embed.specs.Calls.{short}
use Rattle.embed.proofs.CallLaws.{read_answered}
use Rattle.embed.proofs.buzorinde_read.Goals as goal

pub returns-in_default : goal.returns-in_default
returns-in_default c = short (search rules)

pub returns : goal.returns
returns c =
    let a = c.args in
    read_answered a.text.now a.table.now a.answer.now _ _ _ (search rules) c.read_text-read.ensures
    (ap (λ (l : List ℕ). l ++ drop 7 a.answer.now) c.reading_words.ensures)
