-- `numbers::number_at` meets its contract. Assumes nothing.
use Prim.Native.Nat.{ℕ, ◌≤◌, zero-le, min, ◌-◌, ◌*◌, ◌+◌}
use native.Mathlib.Omega.{arith}
use mathlib.Core.Bool.{true}
use mathlib.Core.Path.{◌≡◌, sym, ap, ◌∙◌}
use lib.ListN.{get_or}
use borrow.Author.Tests.{lt-leb, le-leb}
use Rattle.lines.specs.Numbers.{zero_byte, nine_byte, beyond, is_digit}
use Rattle.lines.proofs.NumberLaws.{digit_low, digit_under, number_none, number_zero, number_digits, number_lacks}
use Rattle.numbers.proofs.number_at.Goals as goal

-- a byte from 1 to 9 is a digit
digit_between : (byte : ℕ) → zero_byte ≤ byte → byte ≤ nine_byte → is_digit byte ≡ true
digit_between byte low high = sym (digit_low byte low) ∙ le-leb byte nine_byte high

pub returns-in_err-byte : goal.returns-in_err-byte
returns-in_err-byte c =
    rw c.from_residual.ensures
    (number_none c.args.text.now c.args.at c.in_err-byte.ensures.lookup.3, zero-le)

pub returns-in-48 : goal.returns-in-48
returns-in-48 c =
    let inside = c.in_ok-byte.ensures.lookup.3.0 in
    (number_zero c.args.text.now c.args.at inside (sym (c.in_ok-byte.ensures.lookup.3.1 0) ∙ c.in-48.is), omega arith)

pub grown-requires : goal.grown-requires
grown-requires c = (zero-le, digit_between c.in_ok-byte.byte.now (omega arith) (omega arith))

pub returns-in-49-to-57 : goal.returns-in-49-to-57
returns-in-49-to-57 c =
    let inside = c.in_ok-byte.ensures.lookup.3.0 in
    let is = c.in_ok-byte.ensures.lookup.3.1 0 in
    let digit = digit_between (get_or c.args.text.now c.args.at 0) (omega arith) (omega arith) in
    let first = c.grown.ensures ∙ ap (λ (byte : ℕ). min (0 * 10 + (byte - zero_byte)) beyond) is in
    (c.digits_on.ensures.0 ∙ number_digits c.args.text.now c.args.at c.grown.result inside (omega arith) digit first, c.digits_on.ensures.1)

pub returns-in_default : goal.returns-in_default
returns-in_default c =
    let inside = c.in_ok-byte.ensures.lookup.3.0 in
    let is = c.in_ok-byte.ensures.lookup.3.1 0 in
    let byte = get_or c.args.text.now c.args.at 0 in
    (number_lacks c.args.text.now c.args.at inside (omega arith) (sym (digit_under byte (omega arith))), zero-le)

pub returns-in_default-2 : goal.returns-in_default-2
returns-in_default-2 c =
    let inside = c.in_ok-byte.ensures.lookup.3.0 in
    let is = c.in_ok-byte.ensures.lookup.3.1 0 in
    let byte = get_or c.args.text.now c.args.at 0 in
    (number_lacks c.args.text.now c.args.at inside (omega arith) (sym (digit_low byte (omega arith)) ∙ lt-leb byte nine_byte (omega arith)), zero-le)
