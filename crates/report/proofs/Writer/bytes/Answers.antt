-- `report::Writer::bytes` meets its contract. Assumes nothing.
use Prim.Native.Nat.{ℕ}
use native.Mathlib.Omega.{arith}
use mathlib.Core.List.{List}
use mathlib.Core.Path.{◌≡◌, refl, ap, ap₂, ◌∙◌}
use lib.ListN.{length}
use lib.Seq.{length-sets}
use borrow.Rule.Slice.PartMut.{put_mid}
use Rattle.report.proofs.WriteLaws.{placed_copy}
use Rattle.report.proofs.Writer.bytes.Goals as goal

pub returns : goal.returns
returns c =
    let writer = c.args.self.now in
    let bytes = c.args.bytes.now in
    let placed = placed_copy writer.out.now bytes writer.at c.requires in
    let same : put_mid writer.at _ writer.out.now c.copy_from_slice.new.self ≡ put_mid writer.at (length bytes) writer.out.now bytes =
    ap₂ (λ (n : ℕ) (part : List ℕ). put_mid writer.at n writer.out.now part) (omega arith) c.copy_from_slice.ensures.after in
    record {
      placed = record { place = refl; few = placed.few; kept = same ∙ placed.kept };
      long = ap length (same ∙ placed.kept) ∙ length-sets writer.out.now writer.at bytes;
      same = refl;
    }
