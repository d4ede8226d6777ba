-- Laws of writing: a run of stores, what the writer's methods put one after the other, and the digits of a number.
use Prim.Native.Nat.{ℕ, suc, ◌+◌, ◌/◌, ◌%◌, ◌^◌, ◌≤◌, ◌<◌}
use native.Mathlib.Nat.{add-zero, add-suc, suc-add}
use native.Mathlib.Omega.{arith}
use mathlib.Core.List.{List, [], ◌∷◌, ◌++◌, append_assoc}
use mathlib.Core.Path.{◌≡◌, refl, sym, ap, ap₂, ◌∙◌, subst}
use borrow.Rule.Slice.PartMut.{put_mid, post_of}
use lib.ListN.{length, set, take, length-append}
use lib.Seq.{sets, sets-eq}
use Rattle.std.proofs.lemmas.List.{drop-drop}
use Rattle.lines.specs.Limits.{most_digits}
use Rattle.lines.specs.Numbers.{zero_byte, decimal}
use Rattle.lines.proofs.DecimalLaws.{decimal_small, decimal_more, decimal_few}
use Rattle.report.specs.Written.{Placed}
use Rattle.report.specs.declared.Writer.{Writer}
use Rattle.report.specs.Putting.{Puts}

-- ---- a run of stores

pub sets_append : (l : List ℕ) (i : ℕ) (xs ys : List ℕ) → sets (sets l i xs) (i + length xs) ys ≡ sets l i (xs ++ ys)
sets_append l i [] ys = ap (λ (k : ℕ). sets l k ys) (add-zero i)
sets_append l i (x ∷ xs) ys =
    ap (λ (k : ℕ). sets (sets (set l i x) (suc i) xs) k ys) (add-suc i (length xs) ∙ sym (suc-add i (length xs)))
    ∙ sets_append (set l i x) (suc i) xs ys

-- ---- bytes that are put one after the other

placed_then : {out : List ℕ} {at : ℕ} {most next : ℕ} {left : List ℕ} {more after : ℕ} {last : List ℕ} (xs ys : List ℕ)
    → Placed out at xs most next left → Placed left next ys more after last → Placed out at (xs ++ ys) (most + more) after last
placed_then {out} {at} xs ys p q =
    let n = length-append xs ys in
    record {
      place = omega (arith, p.place, q.place, n);
      few = omega (arith, p.few, q.few, n);
      kept = q.kept ∙ ap₂ (λ (o : List ℕ) (k : ℕ). sets o k ys) p.kept p.place ∙ sets_append out at xs ys;
    }

pub puts_none : (w : Writer) → Puts w w [] 0
puts_none w = record { placed = record { place = sym (add-zero w.at); few = omega arith; kept = refl }; long = refl; same = refl }

pub puts_then : {w₀ w₁ w₂ : Writer} {most more : ℕ} (xs ys : List ℕ) → Puts w₀ w₁ xs most → Puts w₁ w₂ ys more → Puts w₀ w₂ (xs ++ ys) (most + more)
puts_then xs ys p q = record {
  placed = placed_then xs ys p.placed q.placed;
  long = q.long ∙ p.long;
  same = q.same ∙ p.same;
}

pub puts_as : {w₀ w₁ : Writer} {most more : ℕ} {xs ys : List ℕ} → xs ≡ ys → most ≡ more → Puts w₀ w₁ xs most → Puts w₀ w₁ ys more
puts_as {w₀} {w₁} {most} {more} {xs} {ys} e n p =
    subst (λ (k : ℕ). Puts w₀ w₁ ys k) n (subst (λ (bytes : List ℕ). Puts w₀ w₁ bytes most) e p)

-- bytes that were copied over a part of the buffer
pub placed_copy : (out bytes : List ℕ) (at : ℕ) → at + length bytes ≤ length out
    → Placed out at bytes (length bytes) (at + length bytes) (put_mid at (length bytes) out bytes)
placed_copy out bytes at h = record {
  place = refl;
  few = omega arith;
  kept =
      sym (append_assoc (take at out) bytes (post_of at (length bytes) out))
      ∙ ap (λ (rest : List ℕ). (take at out ++ bytes) ++ rest) (drop-drop (length bytes) at out)
      ∙ sym (sets-eq bytes out at h);
}

-- ---- the digits of a number

pub placed_small : (out : List ℕ) (at n : ℕ) → n < 10 → Placed out at (decimal n) most_digits (at + 1) (set out at (zero_byte + n))
placed_small out at n h =
    let e = decimal_small n h in
    record {
      place = omega (arith, ap length e);
      few = omega (arith, ap length e);
      kept = sym (ap (sets out at) e);
    }

pub placed_more : (out : List ℕ) (at n last : ℕ) (left : List ℕ) → 10 ≤ n → n < 2 ^ 32
    → Placed out at (decimal (n / 10)) most_digits last left
    → Placed out at (decimal n) most_digits (last + 1) (set left last (zero_byte + n % 10))
placed_more out at n last left h small p =
    let e = decimal_more n h in
    let k = length-append (decimal (n / 10)) ((zero_byte + n % 10) ∷ []) in
    record {
      place = omega (arith, ap length e, p.place, k);
      few = decimal_few n small;
      kept =
          ap₂ (λ (o : List ℕ) (i : ℕ). set o i (zero_byte + n % 10)) p.kept p.place
          ∙ sets_append out at (decimal (n / 10)) ((zero_byte + n % 10) ∷ [])
          ∙ sym (ap (sets out at) e);
    }

-- the place of the last digit
pub digits_room : (n : ℕ) → 10 ≤ n → n < 2 ^ 32 → length (decimal (n / 10)) < most_digits
digits_room n h small =
    omega (arith, ap length (decimal_more n h), decimal_few n small, length-append (decimal (n / 10)) ((zero_byte + n % 10) ∷ []))
