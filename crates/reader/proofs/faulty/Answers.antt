-- `reader::faulty` meets its contract. Assumes nothing.
use mathlib.Core.Path.{sym, ap, ◌∙◌}
use Rattle.language.specs.declared.Flaw.{Flaw}
use Rattle.language.specs.declared.Part.{Part}
use Rattle.spans.proofs.WordLaws.{cut_part}
use Rattle.reader.proofs.faulty.Goals as goal

pub returns : goal.returns
returns c = ap (λ (p : Part). record { flaw = Flaw.FaultyWord; part = p }) (c.from.ensures ∙ sym (cut_part c.word_at.ensures))
