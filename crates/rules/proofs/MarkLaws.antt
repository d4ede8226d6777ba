-- The laws of mark sets: what stands in a set after a put, in no set, in a union; two sets with the same members are one;
-- and what the machine's bit operations make of them.
use Prim.Native.Nat.{ℕ, zero, suc, ◌+◌, ◌-◌, ◌*◌, ◌/◌, ◌%◌, ◌^◌, ◌≤◌, ◌<◌, min, max}
use native.Mathlib.Nat.{pow-suc, mod-eq_of_lt}
use native.Mathlib.Omega.{arith}
use mathlib.Core.Bool.{Bool, true, false, cond, not, ◌||◌, or-true, or-false, or_assoc, true≢false}
use mathlib.Core.Path.{◌≡◌, refl, sym, ap, ap₂, ◌∙◌, subst}
use mathlib.Core.Logic.{◌≢◌, ◌⊎◌, inl, inr}
use lib.Bits.{bit_and, bit_or, and_step, or_step, and_zero_r, or_zero_r, or_comm, or_self, or_lt, or_add_and, and_le_r, and_mask}
use lib.Dec.{T, eqb, ltb}
use lib.Pow.{pow-lt, pow_pos}
use borrow.Author.Tests.{eqb-true, eqb-false, ltb-true, ltb-false, ne_eqb, not-false}
use lib.Count.{ones, ones_in, ones_step}
use Rattle.rules.specs.Limits.{width}
use Rattle.rules.specs.Marks.{none, has, put, only, union, ◌⊆◌, provisional, marked_below, marked}

-- a digit is 0 or 1
digit : (n : ℕ) → (n % 2 ≡ 0) ⊎ (n % 2 ≡ 1)
digit n = pick (n % 2) refl
  where
    pick : (d : ℕ) → n % 2 ≡ d → (n % 2 ≡ 0) ⊎ (n % 2 ≡ 1)
    pick zero e = inl e
    pick (suc zero) e = inr e
    pick (suc (suc d)) e = absurd (omega arith)

-- the last digit, and the rest, of a number that is written as such
last_digit : (n d : ℕ) → d < 2 → (n * 2 + d) % 2 ≡ d
last_digit n d h = omega arith

rest_digits : (n d : ℕ) → d < 2 → (n * 2 + d) / 2 ≡ n
rest_digits n d h = omega arith

bit_small : (b : Bool) → cond b 1 0 < 2
bit_small true = omega arith
bit_small false = omega arith

bit_is : (b : Bool) → eqb (cond b 1 0) 1 ≡ b
bit_is true = refl
bit_is false = refl

odd_small : (n : ℕ) → n % 2 < 2
odd_small n = omega arith

-- ---- membership

pub has_put_same : (i : ℕ) (bit : Bool) (m : ℕ) → has (put i bit m) i ≡ bit
unfolding has put
has_put_same zero bit m = ap (λ (d : ℕ). eqb d 1) (last_digit (m / 2) (cond bit 1 0) (bit_small bit)) ∙ bit_is bit
has_put_same (suc i) bit m =
    ap (λ (n : ℕ). has n i) (rest_digits (put i bit (m / 2)) (m % 2) (odd_small m)) ∙ has_put_same i bit (m / 2)

pub has_put_other : (i j : ℕ) (bit : Bool) (m : ℕ) → j ≢ i → has (put i bit m) j ≡ has m j
unfolding has put
has_put_other zero zero bit m other = absurd (other refl)
has_put_other zero (suc j) bit m other = ap (λ (n : ℕ). has n j) (rest_digits (m / 2) (cond bit 1 0) (bit_small bit))
has_put_other (suc i) zero bit m other = ap (λ (d : ℕ). eqb d 1) (last_digit (put i bit (m / 2)) (m % 2) (odd_small m))
has_put_other (suc i) (suc j) bit m other =
    ap (λ (n : ℕ). has n j) (rest_digits (put i bit (m / 2)) (m % 2) (odd_small m))
    ∙ has_put_other i j bit (m / 2) (λ e. other (ap suc e))

pub has_none : (i : ℕ) → has none i ≡ false
unfolding has none
has_none zero = refl
has_none (suc i) = has_none i

either_digit : (a b : ℕ) → eqb (max (a % 2) (b % 2)) 1 ≡ (eqb (a % 2) 1 || eqb (b % 2) 1)
either_digit a b = cases (digit a) (digit b)
  where
    at : (c d : ℕ) → a % 2 ≡ c → b % 2 ≡ d → eqb (max c d) 1 ≡ (eqb c 1 || eqb d 1)
        → eqb (max (a % 2) (b % 2)) 1 ≡ (eqb (a % 2) 1 || eqb (b % 2) 1)
    at c d p q e = rw (p, q) e

    cases : (a % 2 ≡ 0) ⊎ (a % 2 ≡ 1) → (b % 2 ≡ 0) ⊎ (b % 2 ≡ 1)
        → eqb (max (a % 2) (b % 2)) 1 ≡ (eqb (a % 2) 1 || eqb (b % 2) 1)
    cases (inl p) (inl q) = at 0 0 p q refl
    cases (inl p) (inr q) = at 0 1 p q refl
    cases (inr p) (inl q) = at 1 0 p q refl
    cases (inr p) (inr q) = at 1 1 p q refl

pub has_union : (a b i : ℕ) → has (union a b) i ≡ (has a i || has b i)
unfolding has union
has_union a b zero =
    ap (λ (n : ℕ). eqb (n % 2) 1) (or_step a b)
    ∙ ap (λ (d : ℕ). eqb d 1) (last_digit (bit_or (a / 2) (b / 2)) (max (a % 2) (b % 2)) (omega arith))
    ∙ either_digit a b
has_union a b (suc i) =
    ap (λ (n : ℕ). has (n / 2) i) (or_step a b)
    ∙ ap (λ (n : ℕ). has n i) (rest_digits (bit_or (a / 2) (b / 2)) (max (a % 2) (b % 2)) (omega arith))
    ∙ has_union (a / 2) (b / 2) i

-- ---- extensionality

same_digit : (a b : ℕ) → eqb (a % 2) 1 ≡ eqb (b % 2) 1 → a % 2 ≡ b % 2
same_digit a b e = cases (digit a) (digit b)
  where
    differ : {A : Type 0} (c d : ℕ) → a % 2 ≡ c → b % 2 ≡ d → (eqb c 1 ≡ eqb d 1 → ⊥) → A
    differ c d p q f = absurd (f (rw (p, q) at e))

    cases : (a % 2 ≡ 0) ⊎ (a % 2 ≡ 1) → (b % 2 ≡ 0) ⊎ (b % 2 ≡ 1) → a % 2 ≡ b % 2
    cases (inl p) (inl q) = p ∙ sym q
    cases (inl p) (inr q) = differ 0 1 p q (λ f. eqb-false 1 1 (sym f) refl)
    cases (inr p) (inl q) = differ 1 0 p q (λ f. eqb-false 1 1 f refl)
    cases (inr p) (inr q) = p ∙ sym q

ext_within : (n a b : ℕ) → a ≤ n → b ≤ n → ((i : ℕ) → has a i ≡ has b i) → a ≡ b
unfolding has
ext_within zero a b ha hb same = omega arith
ext_within (suc n) a b ha hb same =
    let d : a % 2 ≡ b % 2 = same_digit a b (same 0) in
    let r : a / 2 ≡ b / 2 = ext_within n (a / 2) (b / 2) (omega arith) (omega arith) (λ i. same (suc i)) in
    omega arith

pub marks_ext : (a b : ℕ) → ((i : ℕ) → has a i ≡ has b i) → a ≡ b
marks_ext a b same = ext_within (max a b) a b (omega arith) (omega arith) same

-- ---- the set of one variable

pub has_only_same : (i : ℕ) → has (only i) i ≡ true
unfolding only
has_only_same i = has_put_same i true none

pub has_only_other : (i j : ℕ) → j ≢ i → has (only i) j ≡ false
unfolding only
has_only_other i j other = has_put_other i j true none other ∙ has_none j

-- ---- a level is provisional exactly when it has a member

pub provisional_none : provisional none ≡ false
unfolding provisional none
provisional_none = refl

pub provisional_zero : (m : ℕ) → m ≡ 0 → provisional m ≡ false
unfolding provisional
provisional_zero m e = ap (λ (n : ℕ). not (eqb n 0)) e

pub provisional_some : (m : ℕ) → m ≢ 0 → provisional m ≡ true
unfolding provisional
provisional_some m other = ap not (ne_eqb m 0 other)

pub none_zero : none ≡ 0
unfolding none
none_zero = refl

pub settled_none : (m : ℕ) → provisional m ≡ false → m ≡ none
unfolding provisional none
settled_none m h = eqb-true m 0 (not-false (eqb m 0) h)

pub settled_has : (m i : ℕ) → provisional m ≡ false → has m i ≡ false
settled_has m i h = ap (λ (n : ℕ). has n i) (settled_none m h) ∙ has_none i

pub has_provisional : (m i : ℕ) → has m i ≡ true → provisional m ≡ true
unfolding provisional none
has_provisional m i h = ap not (ne_eqb m 0 (λ e. true≢false (sym h ∙ ap (λ (n : ℕ). has n i) e ∙ has_none i)))

pub settled_of_none : (m : ℕ) → ((i : ℕ) → has m i ≡ false) → provisional m ≡ false
settled_of_none m empty = ap provisional (marks_ext m none (λ i. empty i ∙ sym (has_none i))) ∙ provisional_none

-- ---- unions

-- what is not in a union is in neither set
pub not_in_union : (a b i : ℕ) → has (union a b) i ≡ false → (has a i ≡ false) × (has b i ≡ false)
not_in_union a b i e = neither (has a i) (has b i) (sym (has_union a b i) ∙ e)
  where
    neither : (x y : Bool) → (x || y) ≡ false → (x ≡ false) × (y ≡ false)
    neither true y e = absurd (true≢false e)
    neither false y e = (refl, e)

pub settled_union : (a b : ℕ) → provisional (union a b) ≡ false → (provisional a ≡ false) × (provisional b ≡ false)
settled_union a b h = (
  settled_of_none a (λ i. (not_in_union a b i (settled_has (union a b) i h)).0),
  settled_of_none b (λ i. (not_in_union a b i (settled_has (union a b) i h)).1),
)

pub union_none_left : (m : ℕ) → union none m ≡ m
unfolding union none
union_none_left m = refl

pub union_none_right : (m : ℕ) → union m none ≡ m
unfolding union none
union_none_right m = or_zero_r m

pub union_comm : (a b : ℕ) → union a b ≡ union b a
unfolding union
union_comm a b = or_comm a b

pub union_self : (a : ℕ) → union a a ≡ a
unfolding union
union_self a = or_self a

pub union_assoc : (a b c : ℕ) → union (union a b) c ≡ union a (union b c)
union_assoc a b c =
    marks_ext (union (union a b) c) (union a (union b c))
    (λ i.
    has_union (union a b) c i ∙ ap (λ (x : Bool). x || has c i) (has_union a b i) ∙ or_assoc (has a i) (has b i) (has c i)
    ∙ ap (λ (x : Bool). has a i || x) (sym (has_union b c i)) ∙ sym (has_union a (union b c) i))

-- to mark a variable is to add the set of it
pub put_union : (v m : ℕ) → put v true m ≡ union m (only v)
put_union v m = marks_ext (put v true m) (union m (only v)) (λ i. by i (eqb i v) refl)
  where
    by : (i : ℕ) (b : Bool) → eqb i v ≡ b → has (put v true m) i ≡ has (union m (only v)) i
    by i true e =
        subst (λ (j : ℕ). has (put v true m) j ≡ has (union m (only v)) j) (sym (eqb-true i v e))
        (has_put_same v true m ∙ sym (has_union m (only v) v ∙ ap (λ (x : Bool). has m v || x) (has_only_same v) ∙ or-true (has m v)))
    by i false e =
        has_put_other v i true m (eqb-false i v e)
        ∙ sym
        (has_union m (only v) i ∙ ap (λ (x : Bool). has m i || x) (has_only_other v i (eqb-false i v e)) ∙ or-false (has m i))

-- ---- every set of the rules is below 2 ^ w where the variables are below w

pub none_lt : (w : ℕ) → none < 2 ^ w
unfolding none
none_lt w = pow_pos w

pub union_lt : (w a b : ℕ) → a < 2 ^ w → b < 2 ^ w → union a b < 2 ^ w
unfolding union
union_lt w a b ha hb = or_lt w a b ha hb

pub union_lt_left : (n a b : ℕ) → union a b < n → a < n
unfolding union
union_lt_left n a b h =
    let e : bit_or a b + bit_and a b ≡ a + b = or_add_and a b in
    let l : bit_and a b ≤ b = and_le_r a b in
    omega arith

pub union_lt_right : (n a b : ℕ) → union a b < n → b < n
union_lt_right n a b h = union_lt_left n b a (subst (λ (x : ℕ). x < n) (union_comm a b) h)

pub put_lt : (w i : ℕ) (bit : Bool) (m : ℕ) → i < w → m < 2 ^ w → put i bit m < 2 ^ w
unfolding put
put_lt zero i bit m hi hm = absurd (omega arith)
put_lt (suc w) zero bit m hi hm =
    let d : cond bit 1 0 < 2 = bit_small bit in
    let e : 2 ^ suc w ≡ 2 ^ w * 2 = pow-suc 2 w in
    omega arith
put_lt (suc w) (suc i) bit m hi hm =
    let e : 2 ^ suc w ≡ 2 ^ w * 2 = pow-suc 2 w in
    let h : put i bit (m / 2) < 2 ^ w = put_lt w i bit (m / 2) (omega arith) (omega arith) in
    omega arith

pub only_lt : (w i : ℕ) → i < w → only i < 2 ^ w
unfolding only
only_lt w i hi = put_lt w i true none hi (none_lt w)

pub has_above : (w m i : ℕ) → m < 2 ^ w → w ≤ i → has m i ≡ false
unfolding has none
has_above zero m i small h = let z : m ≡ 0 = omega arith in ap (λ (n : ℕ). has n i) z ∙ has_none i
has_above (suc w) m zero small h = absurd (omega arith)
has_above (suc w) m (suc i) small h =
    let e : 2 ^ suc w ≡ 2 ^ w * 2 = pow-suc 2 w in
    has_above w (m / 2) i (omega arith) (omega arith)

pub only_in_range : (w v : ℕ) → only v < 2 ^ w → v < w
only_in_range w v small = by (ltb v w) refl
  where
    by : (b : Bool) → ltb v w ≡ b → v < w
    by true h = ltb-true v w h
    by false h = absurd (true≢false (sym (has_only_same v) ∙ has_above w (only v) v small (ltb-false v w h)))

-- ---- containment

pub subset_refl : (a : ℕ) → a ⊆ a
subset_refl a i h = h

pub subset_trans : (a b c : ℕ) → a ⊆ b → b ⊆ c → a ⊆ c
subset_trans a b c f g i h = g i (f i h)

pub subset_antisym : (a b : ℕ) → a ⊆ b → b ⊆ a → a ≡ b
subset_antisym a b f g = marks_ext a b (λ i. both (has a i) (has b i) (f i) (g i))
  where
    both : (x y : Bool) → (T x → T y) → (T y → T x) → x ≡ y
    both true true f g = refl
    both true false f g = absurd (f tt)
    both false true f g = absurd (g tt)
    both false false f g = refl

pub none_subset : (a : ℕ) → none ⊆ a
none_subset a i h = absurd (subst T (has_none i) h)

pub only_subset : (i a : ℕ) → has a i ≡ true → only i ⊆ a
only_subset i a h j t = by (eqb j i) refl
  where
    by : (b : Bool) → eqb j i ≡ b → T (has a j)
    by true e = subst (λ (n : ℕ). T (has a n)) (sym (eqb-true j i e)) (subst T (sym h) tt)
    by false e = absurd (subst T (has_only_other i j (eqb-false j i e)) t)

pub subset_union_left : (a b : ℕ) → a ⊆ union a b
subset_union_left a b i h = subst T (sym (has_union a b i)) (left (has a i) (has b i) h)
  where
    left : (x y : Bool) → T x → T (x || y)
    left true y t = tt
    left false y t = absurd t

pub subset_union_right : (a b : ℕ) → b ⊆ union a b
subset_union_right a b i h = subst T (sym (has_union a b i)) (right (has a i) (has b i) h)
  where
    right : (x y : Bool) → T y → T (x || y)
    right true y t = tt
    right false y t = t

pub union_least : (a b c : ℕ) → a ⊆ c → b ⊆ c → union a b ⊆ c
union_least a b c f g i h = either (has a i) (has b i) (f i) (g i) (subst T (has_union a b i) h)
  where
    either : (x y : Bool) → (T x → T (has c i)) → (T y → T (has c i)) → T (x || y) → T (has c i)
    either true y f g t = f tt
    either false y f g t = g t

pub union_mono : (a b c d : ℕ) → a ⊆ c → b ⊆ d → union a b ⊆ union c d
union_mono a b c d f g =
    union_least a b (union c d) (λ i h. subset_union_left c d i (f i h)) (λ i h. subset_union_right c d i (g i h))

pub put_mono : (v : ℕ) (x y : Bool) (a b : ℕ) → (x ≡ true → y ≡ true) → a ⊆ b → put v x a ⊆ put v y b
put_mono v x y a b rises sub i h = by (eqb i v) refl
  where
    rise : (x y : Bool) → (x ≡ true → y ≡ true) → T x → T y
    rise true y f t = subst T (sym (f refl)) tt
    rise false y f t = absurd t

    by : (c : Bool) → eqb i v ≡ c → T (has (put v y b) i)
    by true e =
        subst (λ (j : ℕ). T (has (put v y b) j)) (sym (eqb-true i v e))
        (subst T (sym (has_put_same v y b))
        (rise x y rises (subst T (has_put_same v x a) (subst (λ (j : ℕ). T (has (put v x a) j)) (eqb-true i v e) h))))
    by false e =
        subst T (sym (has_put_other v i y b (eqb-false i v e))) (sub i (subst T (has_put_other v i x a (eqb-false i v e)) h))

-- a put adds nothing but its variable
pub put_adds : (v : ℕ) (x : Bool) (m : ℕ) → put v x m ⊆ union m (only v)
put_adds v x m i h =
    subst (λ (n : ℕ). T (has n i)) (put_union v m) (put_mono v x true m m (λ e. refl) (subset_refl m) i h)

pub provisional_mono : (a b : ℕ) → a ⊆ b → provisional a ≡ true → provisional b ≡ true
provisional_mono a b sub h = by (provisional b) refl
  where
    false_of : (x y : Bool) → (T x → T y) → y ≡ false → x ≡ false
    false_of true true f e = e
    false_of true false f e = absurd (f tt)
    false_of false y f e = refl

    by : (c : Bool) → provisional b ≡ c → c ≡ true
    by true e = refl
    by false e =
        sym (settled_of_none a (λ i. false_of (has a i) (has b i) (sub i) (settled_has b i e))) ∙ h

pub provisional_union : (a b : ℕ) → provisional (union a b) ≡ (provisional a || provisional b)
provisional_union a b = by (provisional a) (provisional b) refl refl
  where
    by : (x y : Bool) → provisional a ≡ x → provisional b ≡ y → provisional (union a b) ≡ (x || y)
    by true y ea eb = provisional_mono a (union a b) (subset_union_left a b) ea
    by false true ea eb = provisional_mono b (union a b) (subset_union_right a b) eb
    by false false ea eb =
        ap provisional (ap₂ union (settled_none a ea) (settled_none b eb) ∙ union_self none) ∙ provisional_none

-- ---- the bridge to the machine's bit operations

tested_digit : (m : ℕ) → eqb (m % 2) 1 ≡ not (eqb (m % 2) 0)
tested_digit m = cases (digit m)
  where
    at : (d : ℕ) → m % 2 ≡ d → eqb d 1 ≡ not (eqb d 0) → eqb (m % 2) 1 ≡ not (eqb (m % 2) 0)
    at d p e = rw p e

    cases : (m % 2 ≡ 0) ⊎ (m % 2 ≡ 1) → eqb (m % 2) 1 ≡ not (eqb (m % 2) 0)
    cases (inl p) = at 0 p refl
    cases (inr p) = at 1 p refl

doubled_zero : (n : ℕ) → eqb (n * 2) 0 ≡ eqb n 0
doubled_zero zero = refl
doubled_zero (suc n) = ne_eqb (suc n * 2) 0 (λ e. omega arith) ∙ sym (ne_eqb (suc n) 0 (λ e. omega arith))

half : (n : ℕ) → n * 2 / 2 ≡ n
half n = omega arith

even : (n : ℕ) → n * 2 % 2 ≡ 0
even n = omega arith

-- one digit more of a conjunction and of a disjunction with a power of 2
and_power : (m i : ℕ) → bit_and m (2 ^ suc i) ≡ bit_and (m / 2) (2 ^ i) * 2
and_power m i =
    ap (bit_and m) (pow-suc 2 i) ∙ and_step m (2 ^ i * 2)
    ∙ ap₂ (λ (x y : ℕ). bit_and (m / 2) x * 2 + min (m % 2) y) (half (2 ^ i)) (even (2 ^ i))
    ∙ (let e : min (m % 2) 0 ≡ 0 = omega arith in rw e (omega arith))

or_power : (m i : ℕ) → bit_or m (2 ^ suc i) ≡ bit_or (m / 2) (2 ^ i) * 2 + m % 2
or_power m i =
    ap (bit_or m) (pow-suc 2 i) ∙ or_step m (2 ^ i * 2)
    ∙ ap₂ (λ (x y : ℕ). bit_or (m / 2) x * 2 + max (m % 2) y) (half (2 ^ i)) (even (2 ^ i))
    ∙ ap (λ (y : ℕ). bit_or (m / 2) (2 ^ i) * 2 + y) (omega arith)

and_one : (m : ℕ) → bit_and m 1 ≡ m % 2
and_one m = and_step m 1 ∙ ap (λ (x : ℕ). x * 2 + min (m % 2) 1) (and_zero_r (m / 2)) ∙ omega arith

pub has_bit : (m i : ℕ) → has m i ≡ not (eqb (bit_and m (2 ^ i)) 0)
unfolding has
has_bit m zero = tested_digit m ∙ ap (λ (n : ℕ). not (eqb n 0)) (sym (and_one m))
has_bit m (suc i) =
    has_bit (m / 2) i ∙ ap not (sym (doubled_zero (bit_and (m / 2) (2 ^ i)))) ∙ ap (λ (n : ℕ). not (eqb n 0)) (sym (and_power m i))

-- a set and a power of 2 have in common the bit, where it is set
pub and_bit : (m i : ℕ) → bit_and m (2 ^ i) ≡ cond (has m i) (2 ^ i) 0
unfolding has
and_bit m zero = and_one m ∙ last (digit m)
  where
    last : (m % 2 ≡ 0) ⊎ (m % 2 ≡ 1) → m % 2 ≡ cond (eqb (m % 2) 1) 1 0
    last (inl p) = p ∙ ap (λ (n : ℕ). cond (eqb n 1) 1 0) (sym p)
    last (inr p) = p ∙ ap (λ (n : ℕ). cond (eqb n 1) 1 0) (sym p)
and_bit m (suc i) = and_power m i ∙ ap (λ (n : ℕ). n * 2) (and_bit (m / 2) i) ∙ doubled (has (m / 2) i)
  where
    doubled : (b : Bool) → cond b (2 ^ i) 0 * 2 ≡ cond b (2 ^ suc i) 0
    doubled true = sym (pow-suc 2 i)
    doubled false = refl

pub put_true : (m i : ℕ) → put i true m ≡ bit_or m (2 ^ i)
unfolding put
put_true m zero = sym (or_step m 1 ∙ ap (λ (x : ℕ). x * 2 + max (m % 2) 1) (or_zero_r (m / 2)) ∙ omega arith)
put_true m (suc i) = ap (λ (n : ℕ). n * 2 + m % 2) (put_true (m / 2) i) ∙ sym (or_power m i)

pub put_false : (w m i : ℕ) → i < w → m < 2 ^ w → put i false m ≡ bit_and m ((2 ^ w - 1) - 2 ^ i)
unfolding put
put_false zero m i hi hm = absurd (omega arith)
put_false (suc w) m zero hi hm =
    let e : 2 ^ suc w ≡ 2 ^ w * 2 = pow-suc 2 w in
    let p : 0 < 2 ^ w = pow_pos w in
    let c : (2 ^ suc w - 1) - 1 ≡ (2 ^ w - 1) * 2 = omega arith in
    let h : m / 2 < 2 ^ w = omega arith in
    sym
    (ap (bit_and m) c ∙ and_step m ((2 ^ w - 1) * 2)
    ∙ ap₂ (λ (x y : ℕ). bit_and (m / 2) x * 2 + min (m % 2) y) (omega arith) (omega arith)
    ∙ ap (λ (x : ℕ). x * 2 + min (m % 2) 0) (and_mask (m / 2) w ∙ mod-eq_of_lt h)
    ∙ omega arith)
put_false (suc w) m (suc i) hi hm =
    let e : 2 ^ suc w ≡ 2 ^ w * 2 = pow-suc 2 w in
    let f : 2 ^ suc i ≡ 2 ^ i * 2 = pow-suc 2 i in
    let l : 2 ^ i < 2 ^ w = pow-lt (omega arith) in
    let c : (2 ^ suc w - 1) - 2 ^ suc i ≡ ((2 ^ w - 1) - 2 ^ i) * 2 + 1 = omega arith in
    let half : (((2 ^ w - 1) - 2 ^ i) * 2 + 1) / 2 ≡ (2 ^ w - 1) - 2 ^ i = omega arith in
    let odd : (((2 ^ w - 1) - 2 ^ i) * 2 + 1) % 2 ≡ 1 = omega arith in
    ap (λ (n : ℕ). n * 2 + m % 2) (put_false w (m / 2) i (omega arith) (omega arith))
    ∙ sym
    (ap (bit_and m) c ∙ and_step m (((2 ^ w - 1) - 2 ^ i) * 2 + 1)
    ∙ ap₂ (λ (x y : ℕ). bit_and (m / 2) x * 2 + min (m % 2) y) half odd
    ∙ ap (λ (y : ℕ). bit_and (m / 2) ((2 ^ w - 1) - 2 ^ i) * 2 + y) (omega arith))

pub only_power : (i : ℕ) → only i ≡ 2 ^ i
unfolding only none
only_power i = put_true 0 i

pub union_or : (a b : ℕ) → union a b ≡ bit_or a b
unfolding union
union_or a b = refl

pub shift_one : (w i : ℕ) → i < w → (1 * 2 ^ i) % 2 ^ w ≡ 2 ^ i
shift_one w i h = let l : 2 ^ i < 2 ^ w = pow-lt h in ap (λ (n : ℕ). n % 2 ^ w) (omega arith) ∙ mod-eq_of_lt l

-- ---- the number of marked variables is the number of ones

digit_value : (m : ℕ) → cond (eqb (m % 2) 1) 1 0 ≡ m % 2
digit_value m = cases (digit m)
  where
    at : (d : ℕ) → m % 2 ≡ d → cond (eqb d 1) 1 0 ≡ d → cond (eqb (m % 2) 1) 1 0 ≡ m % 2
    at d p e = rw p e

    cases : (m % 2 ≡ 0) ⊎ (m % 2 ≡ 1) → cond (eqb (m % 2) 1) 1 0 ≡ m % 2
    cases (inl p) = at 0 p refl
    cases (inr p) = at 1 p refl

-- counted from the lowest variable in place of the highest
marked_low : (n m : ℕ) → marked_below (suc n) m ≡ m % 2 + marked_below n (m / 2)
unfolding marked_below has
marked_low zero m = ap (λ (d : ℕ). d + 0) (digit_value m)
marked_low (suc n) m =
    let ih : cond (has m n) 1 0 + marked_below n m ≡ m % 2 + marked_below n (m / 2) = marked_low n m in
    let d : ℕ = cond (has (m / 2) n) 1 0 in
    ap (λ (x : ℕ). d + x) ih ∙ omega arith

marked_digits : (n m : ℕ) → m < 2 ^ n → marked_below n m ≡ ones m
unfolding marked_below ones ones_in
marked_digits zero m h = let z : 0 ≡ m = omega arith in subst (λ (k : ℕ). 0 ≡ ones k) z refl
marked_digits (suc n) m h =
    let e : 2 ^ suc n ≡ 2 ^ n * 2 = pow-suc 2 n in
    marked_low n m ∙ ap (λ (x : ℕ). m % 2 + x) (marked_digits n (m / 2) (omega arith)) ∙ sym (ones_step m)

pub marked_ones : (m : ℕ) → m < 2 ^ width → marked m ≡ ones m
unfolding marked
marked_ones m h = marked_digits width m h
