-- `report::put_digits` meets its contract. The measure is the number. Assumes nothing.
use native.Mathlib.Omega.{arith}
use Rattle.report.proofs.WriteLaws.{placed_small, placed_more, digits_room}
use Rattle.report.proofs.+put_digits.Goals as goal

pub returns-then-n-lt10 : goal.returns-then-n-lt10
returns-then-n-lt10 t c =
    let args = c.args in
    placed_small args.out.now args.at args.n c.if-n-lt10.true

pub bounds-out-last : goal.bounds-out-last
bounds-out-last t c =
    omega (
      arith,
      c.put_digits-last.ensures.place,
      c.put_digits-last.auto.out,
      c.requires,
      digits_room c.args.n c.if-n-lt10.false c.ranges.n.fits,
    )

pub returns : goal.returns
returns t c =
    placed_more c.args.out.now c.args.at c.args.n c.put_digits-last.result
    c.put_digits-last.new.out c.if-n-lt10.false c.ranges.n.fits
    c.put_digits-last.ensures
