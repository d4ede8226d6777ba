-- The laws of each refusal: a row's test put together from the tests of its words, and a role's test by the arms of a match.
use Prim.Native.Nat.{ℕ, zero, suc, ◌+◌, ◌/◌, ◌%◌, ◌≤◌, ◌<◌, min}
use native.Mathlib.Numerals.{add-one}
use native.Mathlib.Omega.{arith}
use mathlib.Core.Bool.{Bool, true, false, cond, not, ◌||◌}
use mathlib.Core.List.{List, [], ◌∷◌, ◌++◌, append_assoc, append-nil}
use mathlib.Core.Logic.{◌⊎◌, inl, inr}
use mathlib.Core.Path.{◌≡◌, refl, sym, ap, ◌∙◌}
use lib.Dec.{eqb, leb, ltb}
use lib.ListN.{length, take}
use lib.Seq.{take_all}
use borrow.Author.Tests.{lt-leb, eq-eqb, ne_eqb, eqb-true, eqb-false}
use Rattle.rules.specs.declared.Depth.{Depth}
use Rattle.rules.specs.declared.Role.{Role}
use Rattle.rules.specs.declared.Roles.{Roles}
use Rattle.rules.specs.declared.Row.{Row}
use Rattle.rules.specs.Limits.{row_words, most_rows}
use Rattle.rules.specs.Rows.{roles_of, is_expression, is_unknown, row_at}
use Rattle.rules.specs.Judging.{wrong_count, wrong_word, wrong_words, wrong_child, wrong_children, child_of, children, places, wrong_parents, too_deep}
use Rattle.rules.specs.OnePass.{children_of, depth_at, over_limits, Within}
use Rattle.rules.proofs.JudgeLaws.{keeps_to_limits}

-- ---- refusal 1

pub count_law :
    (words : List ℕ) (part empty long : Bool) → part ≡ not (eqb (length words % row_words) 0) → empty ≡ eqb (length words / row_words) 0
    → long ≡ ltb most_rows (length words / row_words) → (part || empty || long) ≡ wrong_count words
unfolding wrong_count
count_law words part empty long hp he hl = cc

-- ---- refusal 2

pub words_law :
    (row : Row) (roles : Roles) (u p q r : Bool) → roles ≡ roles_of row.kind → u ≡ is_unknown row.kind
    → p ≡ wrong_word roles.p row.p → q ≡ wrong_word roles.q row.q → r ≡ wrong_word roles.r row.r
    → (u || p || q || r) ≡ wrong_words row
unfolding wrong_words
words_law row roles u p q r e hu hp hq hr = cc

-- ---- refusal 3

pub children_law :
    (rows : List Row) (i : ℕ) (row : Row) (roles : Roles) (p q r : Bool) → roles ≡ roles_of row.kind
    → p ≡ wrong_child rows i roles.p row.p → q ≡ wrong_child rows i roles.q row.q → r ≡ wrong_child rows i roles.r row.r
    → (p || q || r) ≡ wrong_children rows i row
unfolding wrong_children
children_law rows i row roles p q r e hp hq hr = cc

pub early : (parent w : ℕ) (wrong : Bool) → w < parent → (leb parent w || wrong) ≡ wrong
early parent w wrong h = ap (λ (b : Bool). b || wrong) (lt-leb parent w h)

-- ---- refusal 4

-- a word is a child where it is a statement or an expression, and else it is none
pub child_of_one : (role : Role) (w : ℕ) → (role ≡ Role.Statement) ⊎ (role ≡ Role.Expression) → child_of role w ≡ w ∷ []
unfolding child_of
child_of_one role w (inl e) = ap (λ (r : Role). child_of r w) e
child_of_one role w (inr e) = ap (λ (r : Role). child_of r w) e

pub child_of_none : (role : Role) (w : ℕ) → (role ≡ Role.Statement → ⊥) → (role ≡ Role.Expression → ⊥) → child_of role w ≡ []
unfolding child_of
child_of_none Role.Unnamed w p q = refl
child_of_none Role.Variable w p q = refl
child_of_none Role.Statement w p q = absurd (p refl)
child_of_none Role.Expression w p q = absurd (q refl)
child_of_none Role.Value w p q = refl
child_of_none Role.Channel w p q = refl
child_of_none Role.Operator w p q = refl

pub places_none : (i : ℕ) → places i [] ≡ 0
unfolding places
places_none i = refl

pub places_here : (i : ℕ) → places i (i ∷ []) ≡ 1
unfolding places
places_here i = ap (λ (b : Bool). cond b 1 0 + 0) (eq-eqb i i refl)

pub places_elsewhere : (i w : ℕ) → (w ≡ i → ⊥) → places i (w ∷ []) ≡ 0
unfolding places
places_elsewhere i w other = ap (λ (b : Bool). cond b 1 0 + 0) (ne_eqb w i other)

pub places_append : (i : ℕ) (a b : List ℕ) → places i (a ++ b) ≡ places i a + places i b
unfolding places
places_append i [] b = omega arith
places_append i (w ∷ a) b =
    let ih : places i (a ++ b) ≡ places i a + places i b = places_append i a b in
    let n : ℕ = cond (eqb w i) 1 0 in
    ap (λ (m : ℕ). n + m) ih ∙ omega arith

pub children_of_law :
    (row : Row) (roles : Roles) → roles ≡ roles_of row.kind
    → children_of row ≡ child_of roles.p row.p ++ child_of roles.q row.q ++ child_of roles.r row.r
unfolding children_of
children_of_law row roles e = cc

children_cons : (row : Row) (rows : List Row) → children (row ∷ rows) ≡ children_of row ++ children rows
unfolding children children_of
children_cons row rows = simp append_assoc

children_last : (a : List ℕ) → a ++ children [] ≡ children [] ++ a
unfolding children
children_last a = append-nil a

-- the children of no row, of the first rows and one more, of all rows
pub children_none : children [] ≡ []
unfolding children
children_none = refl

children_suc :
    (rows : List Row) (i : ℕ) → i < length rows → children (take (suc i) rows) ≡ children (take i rows) ++ children_of (row_at rows i)
unfolding row_at
children_suc [] i h = absurd (omega arith)
children_suc (row ∷ rows) zero h = children_cons row [] ∙ children_last (children_of row)
children_suc (row ∷ rows) (suc i) h =
    children_cons row (take (suc i) rows)
    ∙ ap (λ (l : List ℕ). children_of row ++ l) (children_suc rows i (omega arith))
    ∙ sym (append_assoc (children_of row) (children (take i rows)) (children_of (row_at rows i)))
    ∙ ap (λ (l : List ℕ). l ++ children_of (row_at rows i)) (sym (children_cons row (take i rows)))

pub children_more :
    (rows : List Row) (i : ℕ) → i < length rows → children (take (i + 1) rows) ≡ children (take i rows) ++ children_of (row_at rows i)
children_more rows i h = ap (λ (n : ℕ). children (take n rows)) (add-one i) ∙ children_suc rows i h

pub children_all : (rows : List Row) (n : ℕ) → length rows ≤ n → children (take n rows) ≡ children rows
children_all rows n h = ap children (take_all n rows h)

-- the last row is judged by its sort, any other by its places, of which a count up to two tells enough
pub last_law : (rows : List Row) (i : ℕ) → i + 1 ≡ length rows → wrong_parents rows (children rows) i ≡ is_expression (row_at rows i).kind
unfolding wrong_parents
last_law rows i h =
    ap (λ (b : Bool). cond b (is_expression (row_at rows i).kind) (not (eqb (places i (children rows)) 1))) (eq-eqb (i + 1) (length rows) h)

pub inner_law :
    (rows : List Row) (i count : ℕ) → (i + 1 ≡ length rows → ⊥) → min 2 count ≡ min 2 (places i (children rows))
    → wrong_parents rows (children rows) i ≡ not (eqb count 1)
unfolding wrong_parents
inner_law rows i count h same =
    ap (λ (b : Bool). cond b (is_expression (row_at rows i).kind) (not (eqb (places i (children rows)) 1))) (ne_eqb (i + 1) (length rows) h)
    ∙ ap not (one count (places i (children rows)) same)
  where
    one : (a b : ℕ) → min 2 a ≡ min 2 b → eqb b 1 ≡ eqb a 1
    one a b e = at (eqb a 1) refl
      where
        at : (t : Bool) → eqb a 1 ≡ t → eqb b 1 ≡ t
        at true h = let x : a ≡ 1 = eqb-true a 1 h in eq-eqb b 1 (omega arith)
        at false h = ne_eqb b 1 (λ y. eqb-false a 1 h (omega arith))

-- ---- refusal 5

pub within_limits : (d : Depth) → over_limits d ≡ false → Within d
unfolding over_limits
within_limits d e = keeps_to_limits d.height d.nesting d.loops e

pub too_deep_law : (rows : List Row) (i : ℕ) → too_deep rows i ≡ over_limits (depth_at rows i)
unfolding too_deep over_limits depth_at
too_deep_law rows i = refl
