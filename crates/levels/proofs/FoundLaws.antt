-- What a walk finds: its lowest failing row put together from those of its parts, each kind of statement, and a loop's rounds.
use Prim.Native.Nat.{ℕ, ◌-◌, min}
use native.Mathlib.Omega.{arith}
use mathlib.Core.Bool.{Bool, true, false, cond, ◌&&◌}
use mathlib.Core.List.{List, [], ◌∷◌, ◌++◌, append-nil}
use mathlib.Core.Logic.{inl, inr}
use mathlib.Core.Path.{◌≡◌, refl, sym, ap, ap₂, ◌∙◌}
use denote.Enum.Declared.{tag_of}
use types.Run.{OneOf}
use lib.Dec.{eqb}
use Rattle.std.specs.Prelude.{Option, None, Some}
use Rattle.rules.specs.declared.Kind.{Kind}
use Rattle.rules.specs.Marks.{put, union}
use Rattle.rules.specs.Trees.{Expr, Stmt, assign, if, output}
use Rattle.rules.specs.LevelRules.{under}
use Rattle.rules.specs.LevelCheck.{Walked, walk, rounds, lowest_of, checked_of}
use Rattle.rules.specs.contracts.Kind as kind-type
use Rattle.rules.proofs.RowLaws.{kind_arm}
use Rattle.rules.proofs.LevelLaws.{rounds_over, rounds_rest, rounds_on}
use Rattle.levels.specs.declared.walk.Found.{Found}
use Rattle.levels.specs.Found.{lower_of, lowest_in, found_of, failed_at, checked_at}

-- ---- the lowest failing row

lowest_from : (a b : ℕ) (rows : List ℕ) → lowest_of (min a b) rows ≡ min a (lowest_of b rows)
lowest_from a b [] = refl
lowest_from a b (row ∷ rows) =
    let grouped : min (min a b) row ≡ min a (min b row) = omega arith in
    ap (λ (x : ℕ). lowest_of x rows) grouped ∙ lowest_from a (min b row) rows

lowest_both : (a b : ℕ) (rows others : List ℕ) → lowest_of a (rows ++ (b ∷ others)) ≡ min (lowest_of a rows) (lowest_of b others)
lowest_both a b [] others = lowest_from a b others
lowest_both a b (row ∷ rows) others = lowest_both (min a row) b rows others

pub lowest_append : (rows others : List ℕ) → lowest_in (rows ++ others) ≡ lower_of (lowest_in rows) (lowest_in others)
lowest_append [] others = refl
lowest_append (a ∷ rows) [] = ap (λ (l : List ℕ). Some (lowest_of a l)) (append-nil rows)
lowest_append (a ∷ rows) (b ∷ others) = ap Some (lowest_both a b rows others)

pub checked_at_lowest : (rows : List ℕ) → checked_at (lowest_in rows) ≡ checked_of rows
checked_at_lowest [] = refl
checked_at_lowest (a ∷ rows) = refl

-- ---- each kind of statement

-- a row that is no assignment, if, while or output, and no sequence either, is at a place where rows stand for skip
pub skip_left :
    (kind : Kind) → OneOf (0 ∷ 2 ∷ 6 ∷ 7 ∷ 8 ∷ 9 ∷ []) (tag_of kind-type.the_type kind) → (kind ≡ Kind.Sequence → ⊥)
    → OneOf (0 ∷ 6 ∷ 7 ∷ 8 ∷ 9 ∷ []) (tag_of kind-type.the_type kind)
skip_left kind (inl here) other = inl here
skip_left kind (inr (inl here)) other = absurd (other (kind_arm {f = λ k. k} {ks = 2 ∷ []} (record { each = refl }) kind here))
skip_left kind (inr (inr among)) other = inr among

abbrev pub pair : ℕ → Option ℕ → Found
pair marks lowest = record { marks = marks; lowest = lowest }

module _ (context : Bool) (marks : ℕ) where
  pub found_assign :
      (v : ℕ) (e : Expr) {after : ℕ} → after ≡ put v (under e context marks) marks
      → record { marks = after; lowest = None } ≡ found_of (walk (assign v e) context marks)
  found_assign v e h = ap (λ (m : ℕ). pair m None) h

  pub found_if :
      (e : Expr) (s t : Stmt) {inside : Bool} {then other : Found} {after : ℕ} {lowest : Option ℕ} → inside ≡ under e context marks
      → then ≡ found_of (walk s inside marks) → other ≡ found_of (walk t inside marks) → after ≡ union then.marks other.marks
      → lowest ≡ lower_of then.lowest other.lowest
      → record { marks = after; lowest = lowest } ≡ found_of (walk (if e s t) context marks)
  found_if e s t {inside} {then} {other} {after} {lowest} ei et eo ea el =
      let here : then ≡ found_of (walk s (under e context marks) marks) = et ∙ ap (λ (b : Bool). found_of (walk s b marks)) ei in
      let there : other ≡ found_of (walk t (under e context marks) marks) = eo ∙ ap (λ (b : Bool). found_of (walk t b marks)) ei in
      ap₂ pair (ea ∙ ap₂ (λ (f g : Found). union f.marks g.marks) here there)
      (el ∙ ap₂ (λ (f g : Found). lower_of f.lowest g.lowest) here there
      ∙ sym (lowest_append (walk s (under e context marks) marks).failing (walk t (under e context marks) marks).failing))

  pub found_output :
      (channel : ℕ) (e : Expr) (row : ℕ) {lowest : Option ℕ} → lowest ≡ failed_at (eqb channel 0 && under e context marks) row
      → record { marks = marks; lowest = lowest } ≡ found_of (walk (output channel e row) context marks)
  found_output channel e row h = ap (pair marks) (h ∙ one (eqb channel 0 && under e context marks))
    where
      one : (b : Bool) → failed_at b row ≡ lowest_in (cond b (row ∷ []) [])
      one true = refl
      one false = refl

-- ---- the rounds of a loop

module _ (body : ℕ → Walked) (n set : ℕ) (final : Walked) (here : rounds n body set ≡ final) where
  -- a walk of the body, and the set with what came back added
  module _ (turn : Found) (grown : ℕ) (some : n ≡ 0 → ⊥) (walked : turn ≡ found_of (body set)) (adds : grown ≡ union set turn.marks) where
    adds_body : grown ≡ union set (body set).marks
    adds_body = adds ∙ ap (λ (f : Found). union set f.marks) walked

    pub rests_here : grown ≡ set → record { marks = set; lowest = turn.lowest } ≡ found_of final
    rests_here same =
        ap (λ (f : Found). pair set f.lowest) walked
        ∙ ap found_of (sym (rounds_rest body n set some (sym adds_body ∙ same)) ∙ here)

    pub goes_on : (grown ≡ set → ⊥) → rounds (n - 1) body grown ≡ final
    goes_on other =
        ap (rounds (n - 1) body) adds_body ∙ sym (rounds_on body n set some (λ e. other (adds_body ∙ e))) ∙ here

  pub over_here : n ≡ 0 → record { marks = set; lowest = None } ≡ found_of final
  over_here none = ap found_of (sym (ap (λ (k : ℕ). rounds k body set) none ∙ rounds_over body set) ∙ here)
