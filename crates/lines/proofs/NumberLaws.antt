-- Laws of numbers that are read: what a digit is, and how the digits of a text go on, stop and end.
use Prim.Native.Nat.{ℕ, ◌+◌, ◌-◌, ◌*◌, ◌≤◌, ◌<◌, min}
use native.Mathlib.Numerals.{add-one}
use native.Mathlib.Omega.{arith}
use mathlib.Core.Bool.{Bool, true, false, ◌&&◌}
use mathlib.Core.List.{List, [], ◌∷◌}
use mathlib.Core.Path.{◌≡◌, refl, sym, ap, ap₂, ◌∙◌}
use lib.Dec.{leb, eqb}
use lib.ListN.{length, get_or, drop, drop_of_length-le}
use lib.Seq.{drop-cons}
use borrow.Author.Tests.{leb-true, le-leb, lt-leb, eq-eqb, ne_eqb}
use Rattle.lines.specs.Numbers.{zero_byte, nine_byte, is_digit, beyond, no_number, number, on_byte, digits_on, begun, number_at}

-- the byte at a place, and the text from there on
pub drop_next : (text : List ℕ) (i : ℕ) → i < length text → drop i text ≡ get_or text i 0 ∷ drop (i + 1) text
drop_next text i h = drop-cons text i 0 h ∙ ap (λ (k : ℕ). get_or text i 0 ∷ drop k text) (sym (add-one i))

pub both_true : (a b : Bool) → (a && b) ≡ true → (a ≡ true) × (b ≡ true)
both_true true true e = (refl, refl)
both_true true false e = (refl, e)
both_true false true e = (e, refl)
both_true false false e = (e, e)

pub digit_within : (byte : ℕ) → is_digit byte ≡ true → (zero_byte ≤ byte) × (byte ≤ nine_byte)
unfolding is_digit
digit_within byte e =
    let parts = both_true (leb zero_byte byte) (leb byte nine_byte) e in
    (leb-true zero_byte byte parts.0, leb-true byte nine_byte parts.1)

pub digit_low : (byte : ℕ) → zero_byte ≤ byte → leb byte nine_byte ≡ is_digit byte
unfolding is_digit
digit_low byte h = ap (λ (b : Bool). b && leb byte nine_byte) (sym (le-leb zero_byte byte h))

pub digit_under : (byte : ℕ) → byte < zero_byte → false ≡ is_digit byte
unfolding is_digit
digit_under byte h = ap (λ (b : Bool). b && leb byte nine_byte) (sym (lt-leb zero_byte byte h))

-- ---- the digits of a text

capped : (v d : ℕ) → min (min v beyond * 10 + d) beyond ≡ min (v * 10 + d) beyond
capped v d = omega arith

-- a number beyond the range reads as any other beyond it
pub digits_capped : (text : List ℕ) (v : ℕ) → digits_on text (min v beyond) ≡ digits_on text v
unfolding digits_on on_byte
digits_capped [] v = ap (λ (n : ℕ). number n []) (omega arith)
digits_capped (byte ∷ text) v = by (is_digit byte) (λ a. digits_capped text a)
  where
    by : (digit : Bool) → ((a : ℕ) → digits_on text (min a beyond) ≡ digits_on text a)
        → on_byte digit (digits_on text) (min v beyond) byte text ≡ on_byte digit (digits_on text) v byte text
    by true ih =
        sym (ih (min v beyond * 10 + (byte - zero_byte)))
        ∙ ap (digits_on text) (capped v (byte - zero_byte))
        ∙ ih (v * 10 + (byte - zero_byte))
    by false ih = ap (λ (n : ℕ). number n (byte ∷ text)) (omega arith)

pub digits_again : (text : List ℕ) (i v w : ℕ) → i < length text → is_digit (get_or text i 0) ≡ true
    → w ≡ min (v * 10 + (get_or text i 0 - zero_byte)) beyond → digits_on (drop (i + 1) text) w ≡ digits_on (drop i text) v
unfolding digits_on on_byte
digits_again text i v w h digit e =
    ap (digits_on (drop (i + 1) text)) e
    ∙ digits_capped (drop (i + 1) text) (v * 10 + (get_or text i 0 - zero_byte))
    ∙ sym (ap (λ (b : Bool). on_byte b (digits_on (drop (i + 1) text)) v (get_or text i 0) (drop (i + 1) text)) digit)
    ∙ sym (ap (λ (l : List ℕ). digits_on l v) (drop_next text i h))

pub digits_stop : (text : List ℕ) (i v : ℕ) → i < length text → is_digit (get_or text i 0) ≡ false → v ≤ beyond
    → number v (drop i text) ≡ digits_on (drop i text) v
unfolding digits_on on_byte
digits_stop text i v h digit within =
    let c : v ≡ min v beyond = omega arith in
    ap₂ number c (drop_next text i h)
    ∙ sym (ap (λ (b : Bool). on_byte b (digits_on (drop (i + 1) text)) v (get_or text i 0) (drop (i + 1) text)) digit)
    ∙ sym (ap (λ (l : List ℕ). digits_on l v) (drop_next text i h))

pub digits_end : (text : List ℕ) (i v : ℕ) → length text ≤ i → v ≤ beyond → number v (drop i text) ≡ digits_on (drop i text) v
unfolding digits_on
digits_end text i v h within =
    let c : v ≡ min v beyond = omega arith in
    ap₂ number c (drop_of_length-le text h) ∙ sym (ap (λ (l : List ℕ). digits_on l v) (drop_of_length-le text h))

-- ---- the number at a place

pub number_none : (text : List ℕ) (at : ℕ) → length text ≤ at → no_number ≡ number_at (drop at text)
unfolding number_at
number_none text at h = sym (ap number_at (drop_of_length-le text h))

number_begun : (text : List ℕ) (at : ℕ) → at < length text
    → begun (eqb (get_or text at 0) zero_byte) (is_digit (get_or text at 0)) (get_or text at 0) (drop (at + 1) text) ≡ number_at (drop at text)
unfolding number_at
number_begun text at h = sym (ap number_at (drop_next text at h))

pub number_zero : (text : List ℕ) (at : ℕ) → at < length text → get_or text at 0 ≡ zero_byte
    → number 0 (drop (at + 1) text) ≡ number_at (drop at text)
unfolding begun
number_zero text at h e =
    sym (ap (λ (b : Bool). begun b (is_digit (get_or text at 0)) (get_or text at 0) (drop (at + 1) text)) (eq-eqb (get_or text at 0) zero_byte e))
    ∙ number_begun text at h

number_other : (text : List ℕ) (at : ℕ) (digit : Bool) → at < length text → (get_or text at 0 ≡ zero_byte → ⊥)
    → is_digit (get_or text at 0) ≡ digit → begun false digit (get_or text at 0) (drop (at + 1) text) ≡ number_at (drop at text)
number_other text at digit h ne e =
    sym (ap₂ (λ (a b : Bool). begun a b (get_or text at 0) (drop (at + 1) text)) (ne_eqb (get_or text at 0) zero_byte ne) e)
    ∙ number_begun text at h

-- w is the first digit's value, as the value of no digits with one digit more
pub number_digits : (text : List ℕ) (at w : ℕ) → at < length text → (get_or text at 0 ≡ zero_byte → ⊥)
    → is_digit (get_or text at 0) ≡ true → w ≡ min (0 * 10 + (get_or text at 0 - zero_byte)) beyond
    → digits_on (drop (at + 1) text) w ≡ number_at (drop at text)
unfolding begun
number_digits text at w h ne e first =
    let within = digit_within (get_or text at 0) e in
    let value : w ≡ get_or text at 0 - zero_byte = omega arith in
    ap (digits_on (drop (at + 1) text)) value ∙ number_other text at true h ne e

pub number_lacks : (text : List ℕ) (at : ℕ) → at < length text → (get_or text at 0 ≡ zero_byte → ⊥)
    → is_digit (get_or text at 0) ≡ false → no_number ≡ number_at (drop at text)
unfolding begun
number_lacks text at h ne e = number_other text at false h ne e
