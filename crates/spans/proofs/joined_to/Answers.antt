-- `spans::joined_to` meets its contract. Assumes nothing.
use Rattle.std.proofs.Common.{rules, tests}
use mathlib.Core.Bool.{true, false}
use mathlib.Core.Path.{◌≡◌}
use Rattle.std.proofs.lemmas.Iterator.{IsFirst-from_position, YieldsList-from_slice}
use Rattle.language.specs.Words.{is_joining}
use Rattle.spans.proofs.WordLaws.{run_to, joined_run}
use Rattle.spans.proofs.joined_to.Goals as goal

pub returns : goal.returns
returns c =
    let first = IsFirst-from_position _ _ _ (λ b. is_joining b ≡ false) (λ b. is_joining b ≡ true) c.position.ensures.ran (YieldsList-from_slice _ c.iter.ensures.rest) (λ x q k. search (rules, tests)) (λ x q k. search (rules, tests)) in
    rw c.unwrap_or.ensures (joined_run (run_to is_joining c.args.text.now c.args.at c.position.result c.requires first))
