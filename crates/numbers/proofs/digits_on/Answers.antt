-- `numbers::digits_on` meets its contract. Assumes nothing.
use Prim.Native.Nat.{ℕ}
use mathlib.Core.Bool.{Bool}
use mathlib.Core.Path.{◌≡◌, sym, ap, ◌∙◌}
use lib.ListN.{length, drop}
use Rattle.std.specs.Char.{is_ascii_digit}
use Rattle.lines.specs.Numbers.{is_digit, digits_on}
use Rattle.lines.proofs.NumberLaws.{digits_again, digits_stop, digits_end}
use native.Mathlib.Omega.{arith}
use Rattle.numbers.proofs.digits_on.Goals as goal

-- what std says of a byte, as the rules' definition
told : (byte : ℕ) {b : Bool} → is_ascii_digit byte ≡ b → is_digit byte ≡ b
unfolding is_digit
told byte e = e

pub returns-then-not-is_ascii_digit : goal.returns-then-not-is_ascii_digit
returns-then-not-is_ascii_digit c =
    let args = c.args in (
      digits_stop args.text.now c.loop-next.next c.loop-next.value c.loop-next-test.true
          (told _ (sym c.is_ascii_digit.ensures.value ∙ c.if-not-is_ascii_digit.true)) c.loop-next.invariant.0
          ∙ c.loop-next.invariant.1,
      omega arith,
    )

pub grown-value-requires : goal.grown-value-requires
grown-value-requires c =
    (c.loop-next.invariant.0, told _ (sym c.is_ascii_digit.ensures.value ∙ c.if-not-is_ascii_digit.false))

pub loop-next-preserved : goal.loop-next-preserved
loop-next-preserved c = (
  omega arith,
  digits_again c.args.text.now c.loop-next.next c.loop-next.value c.grown-value.result c.loop-next-test.true
      (told _ (sym c.is_ascii_digit.ensures.value ∙ c.if-not-is_ascii_digit.false)) c.grown-value.ensures
      ∙ c.loop-next.invariant.1,
)

pub returns : goal.returns
returns c =
    let text = c.args.text.now in
    let end : length text ≡ c.loop-next.next = omega arith in (
      digits_end text (length text) c.loop-next.value (omega arith) c.loop-next.invariant.0
          ∙ ap (λ (i : ℕ). digits_on (drop i text) c.loop-next.value) end
          ∙ c.loop-next.invariant.1,
      omega arith,
    )
