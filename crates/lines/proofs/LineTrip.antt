-- Reading what was written gives it back: a number, a field, a line.
use Prim.Native.Nat.{ℕ, zero, suc, ◌+◌, ◌-◌, ◌*◌, ◌/◌, ◌%◌, ◌≤◌, ◌<◌, min}
use native.Mathlib.Omega.{arith}
use mathlib.Core.Bool.{Bool, true, false, cond, ◌&&◌}
use mathlib.Core.List.{List, [], ◌∷◌, ◌++◌, append_assoc}
use mathlib.Core.Path.{◌≡◌, refl, sym, ap, ap₂, ◌∙◌}
use lib.Dec.{leb, ltb}
use lib.ListN.{length, replicate, length-append}
use borrow.Author.Tests.{leb-true, le-leb, eq-eqb, ne_eqb, ltb-true, ltb-false}
use Rattle.lines.specs.Limits.{most_word, most_digits}
use Rattle.lines.specs.Numbers.{zero_byte, nine_byte, is_digit, beyond, number, on_byte, digits_on, begun, number_at, decimal}
use Rattle.lines.specs.Lines.{line_end, comma, After, after, absent, after_key, number_after, field, fields, put, onward, fields_of, line, in_range, closed, ended, line_of, field_text, fields_text, line_text, one_text}
use Rattle.lines.proofs.NumberLaws.{both_true, digit_low}
use Rattle.lines.proofs.DecimalLaws.{decimal_small, decimal_more, decimal_few}

-- ---- a number

digit_byte : (d : ℕ) → d < 10 → is_digit (zero_byte + d) ≡ true
digit_byte d h = sym (digit_low (zero_byte + d) (omega arith)) ∙ le-leb (zero_byte + d) nine_byte (omega arith)

-- the digits of n, read from the first on, come to n
digits_back : (f n : ℕ) (text : List ℕ) → n < f → 0 < n → number_at (decimal n ++ text) ≡ digits_on text n
unfolding number_at begun digits_on on_byte
digits_back zero n text h pos = absurd (omega arith)
digits_back (suc f) n text h pos = by (ltb n 10) refl (λ more small. digits_back f (n / 10) more small)
  where
    first : n < 10 → number_at ((zero_byte + n) ∷ text) ≡ digits_on text n
    first small =
        ap₂ (λ (zero? digit : Bool). begun zero? digit (zero_byte + n) text) (ne_eqb (zero_byte + n) zero_byte (λ e. omega arith)) (digit_byte n small)
        ∙ ap (digits_on text) (omega arith)

    by : (b : Bool) → ltb n 10 ≡ b
        → ((more : List ℕ) → n / 10 < f → 0 < n / 10 → number_at (decimal (n / 10) ++ more) ≡ digits_on more (n / 10))
        → number_at (decimal n ++ text) ≡ digits_on text n
    by true e ih =
        let small : n < 10 = ltb-true n 10 e in
        ap (λ (l : List ℕ). number_at (l ++ text)) (decimal_small n small) ∙ first small
    by false e ih =
        let large : 10 ≤ n = ltb-false n 10 e in
        let value : n / 10 * 10 + (zero_byte + n % 10 - zero_byte) ≡ n = omega arith in
        ap (λ (l : List ℕ). number_at (l ++ text)) (decimal_more n large)
        ∙ ap number_at (append_assoc (decimal (n / 10)) ((zero_byte + n % 10) ∷ []) text)
        ∙ ih ((zero_byte + n % 10) ∷ text) (omega arith) (omega arith)
        ∙ ap (λ (b : Bool). on_byte b (digits_on text) (n / 10) (zero_byte + n % 10) text) (digit_byte (n % 10) (omega arith))
        ∙ ap (digits_on text) value

-- a text at whose front every number ends
abbrev Stops : List ℕ → Type 0
Stops text = (n : ℕ) → n ≤ most_word → digits_on text n ≡ number n text

stops_at : (byte : ℕ) (text : List ℕ) → is_digit byte ≡ false → Stops (byte ∷ text)
unfolding digits_on on_byte
stops_at byte text e n h =
    let c : min n beyond ≡ n = omega arith in
    ap (λ (b : Bool). on_byte b (digits_on text) n byte text) e ∙ ap (λ (k : ℕ). number k (byte ∷ text)) c

-- A number that was written is read back.
pub number_back : (n : ℕ) (text : List ℕ) → n ≤ most_word → Stops text → number_at (decimal n ++ text) ≡ number n text
unfolding number_at begun
number_back zero text h stops = ap (λ (l : List ℕ). number_at (l ++ text)) (decimal_small 0 (omega arith))
number_back (suc n) text h stops = digits_back (suc (suc n)) (suc n) text (omega arith) (omega arith) ∙ stops (suc n) h

-- ---- a field, and fields with commas between them

key_back : (key text : List ℕ) → after_key key (key ++ text) ≡ after text
unfolding after_key
key_back [] text = refl
key_back (k ∷ key) text = ap (λ (b : Bool). cond b (after_key key (key ++ text)) absent) (eq-eqb k k refl) ∙ key_back key text

field_back : (key : List ℕ) (n : ℕ) (text : List ℕ) → n ≤ most_word → Stops text → field key (field_text key n ++ text) ≡ number n text
unfolding field number_after field_text
field_back key n text h stops =
    ap (λ (l : List ℕ). number_after (after_key key l)) (append_assoc key (decimal n) text)
    ∙ ap number_after (key_back key (decimal n ++ text))
    ∙ number_back n text h stops

abbrev pub commas : List ℕ → List (List ℕ)
commas values = replicate (length values) comma

-- what follows a number in a line: LF, or a comma
stops_line : (values text : List ℕ) → Stops (fields_text (commas values) values ++ (line_end ++ text))
unfolding fields_text field_text is_digit
stops_line [] text = stops_at 10 text refl
stops_line (value ∷ values) text = stops_at 44 _ refl

pub range_parts : (most value : ℕ) (values : List ℕ) → in_range most (value ∷ values) ≡ true → (value ≤ most) × (in_range most values ≡ true)
unfolding in_range
range_parts most value values e =
    let parts = both_true (leb value most) (in_range most values) e in
    (leb-true value most parts.0, parts.1)

fields_back : (key : List ℕ) (value : ℕ) (values text : List ℕ) → in_range most_word (value ∷ values) ≡ true
    → fields_of (key ∷ commas values) (fields_text (key ∷ commas values) (value ∷ values) ++ (line_end ++ text)) ≡ fields (value ∷ values) (line_end ++ text)
unfolding fields_of onward put fields_text
fields_back key value [] text e =
    ap (λ (l : List ℕ). onward (fields_of []) (field key l)) (append_assoc (field_text key value) [] (line_end ++ text))
    ∙ ap (onward (fields_of [])) (field_back key value (line_end ++ text) (range_parts most_word value [] e).0 (stops_line [] text))
fields_back key value (v ∷ values) text e =
    ap (λ (l : List ℕ). onward (fields_of (commas (v ∷ values))) (field key l))
    (append_assoc (field_text key value) (fields_text (commas (v ∷ values)) (v ∷ values)) (line_end ++ text))
    ∙ ap (onward (fields_of (commas (v ∷ values))))
    (field_back key value (fields_text (commas (v ∷ values)) (v ∷ values) ++ (line_end ++ text)) (range_parts most_word value (v ∷ values) e).0 (stops_line (v ∷ values) text))
    ∙ ap (put value) (fields_back comma v values text (range_parts most_word value (v ∷ values) e).1)

-- ---- a line

pub line_back : (key : List ℕ) (most value : ℕ) (values text : List ℕ) → in_range most_word (value ∷ values) ≡ true → in_range most (value ∷ values) ≡ true
    → line_of (key ∷ commas values) most (line_text (key ∷ commas values) (value ∷ values) ++ text) ≡ line (value ∷ values) text
unfolding line_of ended closed line_text
line_back key most value values text e within =
    ap (λ (l : List ℕ). ended most (fields_of (key ∷ commas values) l)) (append_assoc (fields_text (key ∷ commas values) (value ∷ values)) line_end text)
    ∙ ap (ended most) (fields_back key value values text e)
    ∙ ap₂ (λ (a : After) (b : Bool). closed a b (value ∷ values)) (key_back line_end text) within

range_one : (most value : ℕ) → value ≤ most → in_range most (value ∷ []) ≡ true
unfolding in_range
range_one most value h = ap (λ (b : Bool). b && true) (le-leb value most h)

pub one_line : (key : List ℕ) (most value : ℕ) (text : List ℕ) → most ≤ most_word → value ≤ most
    → line_of (key ∷ []) most (one_text key value ++ text) ≡ line (value ∷ []) text
unfolding one_text
one_line key most value text h within =
    line_back key most value [] text (range_one most_word value (omega arith)) (range_one most value within)

pub range_four : (k p q r : ℕ) (words : List ℕ) → in_range most_word (k ∷ p ∷ q ∷ r ∷ words) ≡ true
    → (in_range most_word (k ∷ p ∷ q ∷ r ∷ []) ≡ true) × (in_range most_word words ≡ true)
unfolding in_range
range_four k p q r words e =
    let a = range_parts most_word k (p ∷ q ∷ r ∷ words) e in
    let b = range_parts most_word p (q ∷ r ∷ words) a.1 in
    let c = range_parts most_word q (r ∷ words) b.1 in
    let d = range_parts most_word r words c.1 in
    (simp (le-leb k most_word a.0, le-leb p most_word b.0, le-leb q most_word c.0, le-leb r most_word d.0), d.1)

-- ---- the most bytes of a line

field_few : (key : List ℕ) (value : ℕ) → value ≤ most_word → length (field_text key value) ≤ length key + most_digits
unfolding field_text
field_few key value h = omega (arith, length-append key (decimal value), decimal_few value (omega arith))

values_few : (values : List ℕ) → in_range most_word values ≡ true → length (fields_text (commas values) values) ≤ (most_digits + 1) * length values
unfolding fields_text
values_few [] e = omega arith
values_few (value ∷ values) e =
    let parts = range_parts most_word value values e in
    omega (
      arith,
      length-append (field_text comma value) (fields_text (commas values) values),
      field_few comma value parts.0,
      values_few values parts.1,
    )

pub line_few : (key : List ℕ) (value : ℕ) (values : List ℕ) → in_range most_word (value ∷ values) ≡ true
    → length (line_text (key ∷ commas values) (value ∷ values)) ≤ length key + most_digits + (most_digits + 1) * length values + 1
unfolding line_text fields_text
line_few key value values e =
    let parts = range_parts most_word value values e in
    omega (
      arith,
      length-append (field_text key value ++ fields_text (commas values) values) line_end,
      length-append (field_text key value) (fields_text (commas values) values),
      field_few key value parts.0,
      values_few values parts.1,
    )

pub one_few : (key : List ℕ) (value : ℕ) → value ≤ most_word → length (one_text key value) ≤ length key + most_digits + 1
unfolding one_text
one_few key value h = omega (arith, line_few key value [] (range_one most_word value h))
