-- `embed::because_of` meets its contract.
use borrow.Enum.Refused.{opened}
use mathlib.Core.Path.{sym}
use Rattle.rules.proofs.AnswerLaws.{because_none}
use Rattle.embed.proofs.because_of.Goals as goal

pub returns-in_default : goal.returns-in_default
returns-in_default c = sym (because_none c.args.ended (opened c.in_default.in_default-own.keys2))
