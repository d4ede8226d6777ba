-- Laws of lines that are read: a key byte by byte, a field, fields, the end and the range of a line.
use Prim.Native.Nat.{ℕ, ◌≤◌, ◌<◌}
use native.Mathlib.Omega.{arith}
use mathlib.Core.Bool.{Bool, true, false, ◌&&◌}
use mathlib.Core.List.{List, [], ◌∷◌, ◌++◌}
use mathlib.Core.Path.{◌≡◌, refl, sym, ap, ◌∙◌}
use lib.Dec.{leb}
use borrow.Author.Tests.{leb-true, le-leb, lt-leb}
use Rattle.lines.specs.Lines.{line_end, After, absent, after, after_key, number_after, field, Fields, no_fields, fields, put, onward, fields_of, line, faulty, in_range, closed, ended, line_of}
use Rattle.lines.specs.Limits.{lacks_form, out_of_range}
use Rattle.lines.specs.Numbers.{no_number, number, number_at}
use Rattle.lines.proofs.NumberLaws.{both_true}

-- ---- a field

pub field_absent : (key text : List ℕ) → absent ≡ after_key key text → no_number ≡ field key text
unfolding field number_after
field_absent key text e = ap number_after e

pub field_after : (key text rest : List ℕ) → after rest ≡ after_key key text → number_at rest ≡ field key text
unfolding field number_after
field_after key text rest e = ap number_after e

-- ---- fields one after the other

pub fields_stop : (key : List ℕ) (keys : List (List ℕ)) (text : List ℕ) → no_number ≡ field key text → no_fields ≡ fields_of (key ∷ keys) text
unfolding fields_of onward
fields_stop key keys text e = ap (onward (fields_of keys)) e

pub fields_broken : (key : List ℕ) (keys : List (List ℕ)) (text : List ℕ) {rest : List ℕ} {value : ℕ} → number value rest ≡ field key text
    → no_fields ≡ fields_of keys rest → no_fields ≡ fields_of (key ∷ keys) text
unfolding fields_of onward put
fields_broken key keys text {rest} {value} e f = ap (put value) f ∙ ap (onward (fields_of keys)) e

pub fields_none : (text : List ℕ) → fields [] text ≡ fields_of [] text
unfolding fields_of
fields_none text = refl

pub fields_more : (key : List ℕ) (keys : List (List ℕ)) (text : List ℕ) {rest : List ℕ} {value : ℕ} {values end : List ℕ}
    → number value rest ≡ field key text → fields values end ≡ fields_of keys rest → fields (value ∷ values) end ≡ fields_of (key ∷ keys) text
unfolding fields_of onward put
fields_more key keys text {rest} {value} {values} {end} e f = ap (put value) f ∙ ap (onward (fields_of keys)) e

-- ---- a line

module _ (keys : List (List ℕ)) (most : ℕ) (text : List ℕ) where
  pub line_stop : no_fields ≡ fields_of keys text → faulty lacks_form ≡ line_of keys most text
  unfolding line_of ended
  line_stop e = ap (ended most) e

  pub line_go : {f : Fields} → f ≡ fields_of keys text → ended most f ≡ line_of keys most text
  unfolding line_of
  line_go e = ap (ended most) e

pub line_none : (key : List ℕ) (most : ℕ) (text : List ℕ) → no_number ≡ field key text → faulty lacks_form ≡ line_of (key ∷ []) most text
line_none key most text e = line_stop (key ∷ []) most text (fields_stop key [] text e)

pub line_number : (key : List ℕ) (most : ℕ) (text rest : List ℕ) (value : ℕ) → number value rest ≡ field key text
    → ended most (fields (value ∷ []) rest) ≡ line_of (key ∷ []) most text
line_number key most text rest value e =
    line_go (key ∷ []) most text (fields_more key [] text e (fields_none rest))

-- ---- the end of a line

module _ (most : ℕ) (values text : List ℕ) where
  pub end_absent : absent ≡ after_key line_end text → faulty lacks_form ≡ ended most (fields values text)
  unfolding ended closed
  end_absent e = ap (λ (a : After). closed a (in_range most values) values) e

  pub end_within : (rest : List ℕ) → after rest ≡ after_key line_end text → in_range most values ≡ true
      → line values rest ≡ ended most (fields values text)
  unfolding ended closed
  end_within rest e within =
      sym (ap (λ (b : Bool). closed (after rest) b values) within) ∙ ap (λ (a : After). closed a (in_range most values) values) e

  pub end_over : (rest : List ℕ) → after rest ≡ after_key line_end text → in_range most values ≡ false
      → faulty out_of_range ≡ ended most (fields values text)
  unfolding ended closed
  end_over rest e over =
      sym (ap (λ (b : Bool). closed (after rest) b values) over) ∙ ap (λ (a : After). closed a (in_range most values) values) e

-- ---- the range of a line's numbers

pub range_none : (most : ℕ) → in_range most [] ≡ true
unfolding in_range
range_none most = refl

pub range_within : (most value : ℕ) (values : List ℕ) → value ≤ most → in_range most values ≡ true → in_range most (value ∷ values) ≡ true
unfolding in_range
range_within most value values h e = ap (λ (b : Bool). b && in_range most values) (le-leb value most h) ∙ e

and_false : (b : Bool) → (b && false) ≡ false
and_false true = refl
and_false false = refl

-- a number over the range, wherever it stands
pub range_over : (most value : ℕ) (before behind : List ℕ) → most < value → in_range most (before ++ (value ∷ behind)) ≡ false
unfolding in_range
range_over most value [] behind h = ap (λ (b : Bool). b && in_range most behind) (lt-leb value most h)
range_over most value (v ∷ before) behind h = ap (λ (b : Bool). leb v most && b) (range_over most value before behind h) ∙ and_false (leb v most)

-- ---- the range of what was read

pub closed_range : (a : After) (b : Bool) (values vs rest : List ℕ) → line vs rest ≡ closed a b values → (b ≡ true) × (vs ≡ values)
unfolding closed
closed_range absent b values vs rest e = let z : ◌≡◌ {A = ℕ} 0 1 = cc in absurd (omega arith)
closed_range (after text) false values vs rest e = let z : ◌≡◌ {A = ℕ} 0 1 = cc in absurd (omega arith)
closed_range (after text) true values vs rest e = (refl, cc)

pub ended_range : (most : ℕ) (f : Fields) (vs rest : List ℕ) → line vs rest ≡ ended most f → in_range most vs ≡ true
unfolding ended
ended_range most no_fields vs rest e = let z : ◌≡◌ {A = ℕ} 0 1 = cc in absurd (omega arith)
ended_range most (fields values text) vs rest e =
    let r = closed_range (after_key line_end text) (in_range most values) values vs rest e in
    ap (in_range most) r.1 ∙ r.0

-- a line of one number: the number is in range
pub line_within : (keys : List (List ℕ)) (most value : ℕ) (text rest : List ℕ) → line (value ∷ []) rest ≡ line_of keys most text → value ≤ most
unfolding line_of in_range
line_within keys most value text rest e =
    leb-true value most (both_true (leb value most) true (ended_range most (fields_of keys text) (value ∷ []) rest e)).0
