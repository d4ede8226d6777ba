-- `spans::start_at` meets its contract. Assumes nothing.
use Rattle.std.proofs.Common.{rules, tests}
use mathlib.Core.Bool.{true, false}
use mathlib.Core.Path.{◌≡◌}
use native.Mathlib.Omega.{arith}
use Rattle.std.proofs.lemmas.Iterator.{IsFirst-from_position, YieldsList-from_slice}
use Rattle.language.specs.Words.{is_blank}
use Rattle.spans.proofs.WordLaws.{run_to, begun_run}
use Rattle.spans.proofs.start_at.Goals as goal

pub returns : goal.returns
returns c =
    let first = IsFirst-from_position _ _ _ (λ b. is_blank b ≡ false) (λ b. is_blank b ≡ true) c.position.ensures.ran (YieldsList-from_slice _ c.iter.ensures.rest) (λ x q k. search (rules, tests)) (λ x q k. search (rules, tests)) in
    let from = c.min-first.result in
    rw c.unwrap_or.ensures (begun_run c.args.text.now c.args.at from _ c.min-first.ensures (run_to is_blank c.args.text.now from c.position.result (omega arith) first))
