-- Laws of the digits that a number is written with.
use Prim.Native.Nat.{ℕ, zero, suc, ◌+◌, ◌/◌, ◌%◌, ◌^◌, ◌≤◌, ◌<◌}
use native.Mathlib.Nat.{pow-suc}
use native.Mathlib.Omega.{arith}
use mathlib.Core.Bool.{Bool, true, false}
use mathlib.Core.List.{List, [], ◌∷◌, ◌++◌}
use mathlib.Core.Path.{◌≡◌, refl, sym, ap, ◌∙◌}
use lib.Dec.{ltb}
use lib.ListN.{length, length-append}
use borrow.Author.Tests.{ltb-false, lt-ltb, le-ltb}
use Rattle.lines.specs.Limits.{most_digits}
use Rattle.lines.specs.Numbers.{zero_byte, higher, decimal_in, decimal}

digits_law : (f n : ℕ) (b : Bool) → ltb n 10 ≡ b → decimal_in (suc f) n ≡ higher b (decimal_in f) n ++ ((zero_byte + n % 10) ∷ [])
unfolding decimal_in
digits_law f n b e = ap (λ (t : Bool). higher t (decimal_in f) n ++ ((zero_byte + n % 10) ∷ [])) e

-- more levels than the number's value change nothing
fuel_law : (f g n : ℕ) → n < f → n < g → decimal_in f n ≡ decimal_in g n
unfolding higher
fuel_law zero g n hf hg = absurd (omega arith)
fuel_law (suc f) zero n hf hg = absurd (omega arith)
fuel_law (suc f) (suc g) n hf hg = by (ltb n 10) refl (λ h. fuel_law f g (n / 10) h)
  where
    by : (b : Bool) → ltb n 10 ≡ b → (n / 10 < f → n / 10 < g → decimal_in f (n / 10) ≡ decimal_in g (n / 10))
        → decimal_in (suc f) n ≡ decimal_in (suc g) n
    by true e ih = digits_law f n true e ∙ sym (digits_law g n true e)
    by false e ih =
        let h : 10 ≤ n = ltb-false n 10 e in
        digits_law f n false e
        ∙ ap (λ (l : List ℕ). l ++ ((zero_byte + n % 10) ∷ [])) (ih (omega arith) (omega arith))
        ∙ sym (digits_law g n false e)

pub decimal_small : (n : ℕ) → n < 10 → decimal n ≡ (zero_byte + n) ∷ []
unfolding decimal higher
decimal_small n h =
    digits_law n n true (lt-ltb n 10 h) ∙ ap (λ (d : ℕ). (zero_byte + d) ∷ []) (omega arith)

pub decimal_more : (n : ℕ) → 10 ≤ n → decimal n ≡ decimal (n / 10) ++ ((zero_byte + n % 10) ∷ [])
unfolding decimal higher
decimal_more n h =
    digits_law n n false (le-ltb n 10 h)
    ∙ ap (λ (l : List ℕ). l ++ ((zero_byte + n % 10) ∷ [])) (fuel_law n (suc (n / 10)) (n / 10) (omega arith) (omega arith))

digits_few : (k f n : ℕ) → n < 10 ^ suc k → length (decimal_in f n) ≤ suc k
unfolding decimal_in higher
digits_few k zero n h = omega arith
digits_few zero (suc f) n h =
    let small : n < 10 = h in
    omega (arith, ap length (digits_law f n true (lt-ltb n 10 small)))
digits_few (suc k) (suc f) n h = by (ltb n 10) refl (λ g. digits_few k f (n / 10) g)
  where
    by : (b : Bool) → ltb n 10 ≡ b → (n / 10 < 10 ^ suc k → length (decimal_in f (n / 10)) ≤ suc k)
        → length (decimal_in (suc f) n) ≤ suc (suc k)
    by true e ih = omega (arith, ap length (digits_law f n true e))
    by false e ih =
        omega (arith, ih (omega (arith, h, pow-suc 10 (suc k))), ap length (digits_law f n false e), length-append (decimal_in f (n / 10)) ((zero_byte + n % 10) ∷ []))

pub decimal_few : (n : ℕ) → n < 2 ^ 32 → length (decimal n) ≤ most_digits
unfolding decimal
decimal_few n h = digits_few 9 (suc n) n (omega arith)
