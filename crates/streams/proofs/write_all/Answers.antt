-- `streams::write_all` meets its contract: what a call took stood after what was taken before.
use Rattle.std.proofs.Common.{◌≡◌, ℕ, ◌+◌, ◌-◌, ◌≤◌, List, ◌++◌, rules, arith, length, take, drop, sym, ap, ◌∙◌, subst, length-drop, take_all}
use Rattle.std.specs.Io.KnownBytes.{Appends}
use Rattle.std.proofs.KnownBytes.{Appends-trans}
use lib.Seq.{take-add}
use Rattle.streams.proofs.write_all.Goals as goal

taken_after : (t p : ℕ) (xs : List ℕ) → take t xs ++ take p (take (length xs - t) (drop t xs)) ≡ take (t + p) xs
taken_after t p xs =
    let rest : length (drop t xs) ≤ length xs - t = omega (arith, length-drop t xs) in
    ap (λ (l : List ℕ). take t xs ++ take p l) (take_all (length xs - t) (drop t xs) rest) ∙ sym (take-add t p xs)

pub loop-taken-preserved : goal.loop-taken-preserved
loop-taken-preserved g c =
    let l = c.loop-taken in
    record {
      within = search rules;
      bytes = subst (Appends _ _) (taken_after l.taken c.in_ok-part.part c.args.buf.now) (Appends-trans _ _ _ _ _ l.invariant.bytes c.in_ok-part.ensures.bytes);
    }
