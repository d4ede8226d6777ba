-- `streams::read_all` meets its contract: what a call read is put after what was read before.
use Rattle.std.proofs.Common.{◌≡◌, ℕ, ◌+◌, ◌-◌, ◌≤◌, List, ◌++◌, rules, length, take, sym, ap, ◌∙◌, subst, length-take-le}
use Rattle.std.specs.Io.KnownBytes.{Consumes}
use Rattle.std.proofs.KnownBytes.{Consumes-trans}
use borrow.Rule.Slice.PartMut.{put_mid, post_of}
use lib.Seq.{take-append-add, take-append-le}
use Rattle.streams.proofs.read_all.Goals as goal

put_after : (a k n : ℕ) (xs ys : List ℕ) → a ≤ length xs → n ≤ length ys → take a xs ++ take n ys ≡ take (a + n) (put_mid a k xs ys)
put_after a k n xs ys within fits =
    sym
    (ap (λ (m : ℕ). take (m + n) (put_mid a k xs ys)) (sym (length-take-le a xs within))
    ∙ take-append-add (take a xs) (ys ++ post_of a k xs) n
    ∙ ap (λ (l : List ℕ). take a xs ++ l) (take-append-le n ys (post_of a k xs) fits))

pub loop-done-preserved : goal.loop-done-preserved
loop-done-preserved g c =
    let l = c.loop-done in
    let count = c.in_ok-count.count in
    record {
      within = search rules;
      bytes = subst (Consumes _ _) (put_after l.done (length l.buf - l.done) count l.buf c.read.new.buf l.invariant.within c.in_ok-count.ensures.bound.0)
          (Consumes-trans _ _ _ _ _ l.invariant.bytes c.in_ok-count.ensures.bytes.0);
    }
