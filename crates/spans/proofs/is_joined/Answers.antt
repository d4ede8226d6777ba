-- `spans::is_joined` meets its contract. Assumes nothing.
use mathlib.Core.Path.{sym, ◌∙◌}
use native.Mathlib.Omega.{arith}
use Rattle.std.proofs.lemmas.Bool.{le-ltb}
use Rattle.spans.proofs.WordLaws.{joins_at, joins_not}
use Rattle.spans.proofs.is_joined.Goals as goal

pub returns-then-at-text : goal.returns-then-at-text
returns-then-at-text c = c.is_joining.ensures ∙ sym (joins_at c.args.text.now c.args.at (omega arith))

pub returns-else-at-text : goal.returns-else-at-text
returns-else-at-text c =
    le-ltb c.args.at _ c.if-at-text.false ∙ sym (joins_not c.args.text.now c.args.at (λ h. absurd (omega arith)))
