-- What the pass over the depths has kept after i rows, and the depth of the next row from it.
use Prim.Native.Nat.{ℕ, zero, suc, ◌+◌, ◌%◌, ◌<◌}
use native.Mathlib.Nat.{mod-eq_of_lt}
use native.Mathlib.Omega.{arith}
use mathlib.Core.Bool.{Bool, true, false}
use mathlib.Core.List.{List}
use mathlib.Core.Path.{◌≡◌, refl, sym, subst, ap, ◌∙◌}
use lib.Dec.{eqb}
use lib.ListN.{length, get_or, set, replicate, length-set, length-replicate}
use lib.Seq.{get_or-set_same, get_or-set_other}
use borrow.Author.Tests.{eqb-true, eqb-false}
use Rattle.rules.specs.declared.Depth.{Depth}
use Rattle.rules.specs.declared.Row.{Row}
use Rattle.rules.specs.Limits.{most_rows}
use Rattle.rules.specs.Rows.{row_at}
use Rattle.rules.specs.Sound.{Fitting}
use Rattle.rules.specs.OnePass.{depth_at, depth_by, Within}
use Rattle.rules.proofs.TreeLaws.{depth_law}

-- what stands where nothing was kept yet
abbrev pub flat : Depth
flat = record { height = 0; nesting = 0; loops = 0 }

pub record Kept (rows : List Row) (depths : List Depth) (i : ℕ) : Type 0 where
  pub long : length depths ≡ most_rows
  pub below : (j : ℕ) → j < i → get_or depths j flat ≡ depth_at rows j
  pub within : (j : ℕ) → Within (get_or depths j flat)

flat_within : Within flat
flat_within = record { low = omega arith; flat = omega arith; few_loops = omega arith }

pub kept_none : (rows : List Row) → Kept rows (replicate most_rows flat) 0
kept_none rows =
    record {
      long = length-replicate most_rows flat;
      below = λ j h. absurd (omega arith);
      within = λ j. at j;
    }
  where
    any : (n j : ℕ) → get_or (replicate n flat) j flat ≡ flat
    any zero j = refl
    any (suc n) zero = refl
    any (suc n) (suc j) = any n j

    at : (j : ℕ) → Within (get_or (replicate most_rows flat) j flat)
    at j = subst Within (sym (any most_rows j)) flat_within

pub kept_more :
    (rows : List Row) (depths : List Depth) (i : ℕ) (d : Depth) → Kept rows depths i → i < most_rows → d ≡ depth_at rows i → Within d
    → Kept rows (set depths i d) (i + 1)
kept_more rows depths i d kept small same within =
    record {
      long = length-set depths i d ∙ kept.long;
      below = λ j h. below j h (eqb j i) refl;
      within = λ j. inside j (eqb j i) refl;
    }
  where
    now : get_or (set depths i d) i flat ≡ d
    now = get_or-set_same depths i d flat (omega (arith, kept.long))

    below : (j : ℕ) → j < i + 1 → (t : Bool) → eqb j i ≡ t → get_or (set depths i d) j flat ≡ depth_at rows j
    below j h true e =
        let here : j ≡ i = eqb-true j i e in
        ap (λ (n : ℕ). get_or (set depths i d) n flat) here ∙ now ∙ same ∙ ap (depth_at rows) (sym here)
    below j h false e =
        let other : j ≡ i → ⊥ = eqb-false j i e in
        get_or-set_other depths i j d flat other ∙ kept.below j (omega arith)

    inside : (j : ℕ) (t : Bool) → eqb j i ≡ t → Within (get_or (set depths i d) j flat)
    inside j true e = subst Within (sym (ap (λ (n : ℕ). get_or (set depths i d) n flat) (eqb-true j i e) ∙ now)) within
    inside j false e = subst Within (sym (get_or-set_other depths i j d flat (eqb-false j i e))) (kept.within j)

-- the next row's depth, from what is kept at its words
pub kept_depth :
    (rows : List Row) (depths : List Depth) (i : ℕ) (row : Row) (p q r : ℕ) → Fitting rows → Kept rows depths i → i < length rows → i < most_rows
    → row ≡ row_at rows i → p ≡ row.p % most_rows → q ≡ row.q % most_rows → r ≡ row.r % most_rows
    → depth_by row.kind (get_or depths p flat) (get_or depths q flat) (get_or depths r flat) ≡ depth_at rows i
kept_depth rows depths i row p q r fitting kept more small same hp hq hr =
    let at : (w : ℕ) → Depth = λ w. get_or depths (w % most_rows) flat in
    let known : depth_by (row_at rows i).kind (at (row_at rows i).p) (at (row_at rows i).q) (at (row_at rows i).r) ≡ depth_at rows i =
    depth_law rows fitting at i more (λ j h. ap (λ (n : ℕ). get_or depths n flat) (mod-eq_of_lt (omega arith)) ∙ kept.below j h) in
    cc
