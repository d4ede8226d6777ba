-- A part of a table: rows that stand together in it, the first of them at row base.
use Prim.Native.Nat.{ℕ, suc, ◌+◌, ◌-◌, ◌*◌, ◌≤◌, ◌<◌, min}
use native.Mathlib.Omega.{arith}
use mathlib.Core.Bool.{Bool, true, false}
use mathlib.Core.List.{List, [], ◌∷◌, ◌++◌, append_assoc, append-nil}
use mathlib.Core.Path.{◌≡◌, refl, sym, ap, ◌∙◌, subst}
use lib.Dec.{eqb, ltb}
use lib.ListN.{length, length-append}
use borrow.Author.Tests.{eqb-true, eqb-false, ltb-true, ltb-false}
use Rattle.rules.specs.declared.Row.{Row}
use Rattle.rules.specs.Rows.{row_of, rows_of, row_at}
use Rattle.rules.specs.Judging.{children, places}
use Rattle.rules.specs.Sound.{SoundRow}
use Rattle.rules.specs.OnePass.{children_of}
use Rattle.rules.specs.Cases.{Quad, words_of}
use Rattle.rules.proofs.RefusalLaws.{places_here, places_elsewhere, places_append}

-- ---- rows as they are written

abbrev pub row_from : Quad → Row
row_from q = row_of q.0 q.1 q.2 q.3

abbrev pub made : List Quad → List Row
made quads = rows_of (words_of quads)

pub made_length : (quads : List Quad) → length (made quads) ≡ length quads
unfolding rows_of words_of
made_length [] = refl
made_length (q ∷ quads) = ap suc (made_length quads)

pub words_length : (quads : List Quad) → length (words_of quads) ≡ 4 * length quads
unfolding words_of
words_length [] = refl
words_length (q ∷ quads) = let ih : length (words_of quads) ≡ 4 * length quads = words_length quads in omega arith

made_row : (before : List Quad) (q : Quad) (after : List Quad) → row_at (made (before ++ q ∷ after)) (length before) ≡ row_from q
unfolding row_at rows_of words_of
made_row [] q after = refl
made_row (b ∷ before) q after = made_row before q after

-- how often i stands as a child among rows
abbrev pub placed : ℕ → List Quad → ℕ
placed i quads = places i (children (made quads))

placed_cons : (i : ℕ) (q : Quad) (quads : List Quad) → placed i (q ∷ quads) ≡ places i (children_of (row_from q)) + placed i quads
unfolding rows_of words_of children children_of
placed_cons i q quads = places_append i (children_of (row_from q)) (children (made quads))

placed_append : (i : ℕ) (a b : List Quad) → placed i (a ++ b) ≡ placed i a + placed i b
unfolding rows_of words_of children places
placed_append i [] b = let none : placed i [] ≡ 0 = refl in omega arith
placed_append i (q ∷ a) b =
    let ih : placed i (a ++ b) ≡ placed i a + placed i b = placed_append i a b in
    placed_cons i q (a ++ b) ∙ omega (arith, placed_cons i q a)

-- ---- a part

pub record Part (all : List Quad) (base : ℕ) (quads : List Quad) : Type 0 where
  pub before : List Quad
  pub after : List Quad
  pub whole : all ≡ before ++ (quads ++ after)
  pub start : length before ≡ base

pub part_all : (all : List Quad) → Part all 0 all
part_all all = record { before = []; after = []; whole = sym (append-nil all); start = refl }

module _ {all : List Quad} {base : ℕ} where
  pub part_first : (a b : List Quad) → Part all base (a ++ b) → Part all base a
  part_first a b part = record {
    before = part.before;
    after = b ++ part.after;
    whole = part.whole ∙ ap (λ (l : List Quad). part.before ++ l) (append_assoc a b part.after);
    start = part.start;
  }

  pub part_rest : (a b : List Quad) {n : ℕ} → length a ≡ n → Part all base (a ++ b) → Part all (base + n) b
  part_rest a b {n} size part = record {
    before = part.before ++ a;
    after = part.after;
    whole =
        part.whole
        ∙ ap (λ (l : List Quad). part.before ++ l) (append_assoc a b part.after)
        ∙ sym (append_assoc part.before a (b ++ part.after));
    start = omega (arith, length-append part.before a, part.start);
  }

  pub part_row : {q : Quad} {i : ℕ} → Part all base (q ∷ []) → base ≡ i → row_at (made all) i ≡ row_from q
  part_row {q} {i} part same =
      ap (λ (l : List Quad). row_at (made l) i) part.whole
      ∙ ap (λ (n : ℕ). row_at (made (part.before ++ q ∷ part.after)) n) (sym (part.start ∙ same))
      ∙ made_row part.before q part.after

  pub part_within : {q : Quad} {i : ℕ} → Part all base (q ∷ []) → base ≡ i → i < length (made all)
  part_within {q} part same =
      let long : length all ≡ length (part.before ++ q ∷ part.after) = ap length part.whole in
      omega (arith, made_length all, long, length-append part.before (q ∷ part.after), part.start)

-- ---- the children of a part

-- 1 from row base on, and 0 before
pub past : ℕ → ℕ → ℕ
past base i = min 1 (i + 1 - base)

past_one : (at i : ℕ) → places i (at ∷ []) + past (at + 1) i ≡ past at i
unfolding past
past_one at i = by (eqb at i) refl
  where
    by : (b : Bool) → eqb at i ≡ b → places i (at ∷ []) + past (at + 1) i ≡ past at i
    by true same =
        let e : at ≡ i = eqb-true at i same in
        let here : places i (at ∷ []) ≡ 1 = ap (λ (a : ℕ). places i (a ∷ [])) e ∙ places_here i in
        omega arith
    by false other =
        let e = eqb-false at i other in
        let none = places_elsewhere i at e in
        omega arith

-- The n rows from base on, each what its kind asks. Each stands as a child at one place among them, but those that are given, the
-- roots, at none; the rows before them that are needed stand at one place too.
pub record Grown (all : List Quad) (base n : ℕ) (quads : List Quad) (need give : List ℕ) : Type 0 where
  pub size : length quads ≡ n
  pub fits : (i : ℕ) → base ≤ i → i < base + n → SoundRow (made all) i (row_at (made all) i).kind (row_at (made all) i)
  pub counted : (i : ℕ) → placed i quads + places i give + past (base + n) i ≡ past base i + places i need

module _ {all : List Quad} where
  row_alone :
      {i : ℕ} {q : Quad} → row_at (made all) i ≡ row_from q → SoundRow (made all) i (row_from q).kind (row_from q)
      → Grown all i 1 (q ∷ []) (children_of (row_from q)) (i ∷ [])
  unfolding rows_of words_of children places
  row_alone {i} {q} read sound = record {
    size = refl;
    fits = λ j from to.
        let same : i ≡ j = omega arith in
        subst (λ (k : ℕ). SoundRow (made all) k (row_at (made all) k).kind (row_at (made all) k)) same
        (subst (λ (row : Row). SoundRow (made all) i row.kind row) (sym read) sound);
    counted = λ j. omega (arith, placed_cons j q [], past_one i j);
  }

  -- a row by itself
  pub own :
      {at i : ℕ} {q : Quad} → Part all at (q ∷ []) → at ≡ i → SoundRow (made all) i (row_from q).kind (row_from q)
      → Grown all at 1 (q ∷ []) (children_of (row_from q)) (i ∷ [])
  own {at} {i} {q} part same sound =
      subst (λ (a : ℕ). Grown all a 1 (q ∷ []) (children_of (row_from q)) (i ∷ [])) (sym same) (row_alone (part_row part same) sound)

  -- a tree before rows that need it
  pub join :
      (a b : List Quad) (need : List ℕ) {base m n size root : ℕ} {give : List ℕ} → m + n ≡ size
      → Grown all base m a [] (root ∷ []) → Grown all (base + m) n b (need ++ root ∷ []) give
      → Grown all base size (a ++ b) need give
  unfolding places
  join a b need {base} {m} {n} {size} {root} {give} e tree rest = record {
    size = omega (arith, length-append a b, tree.size, rest.size);
    fits = λ i from to. by i from to (ltb i (base + m)) refl;
    counted = λ i.
        let end : past (base + m + n) i ≡ past (base + size) i = ap (λ (k : ℕ). past k i) (omega arith) in
        omega (arith, placed_append i a b, places_append i need (root ∷ []), tree.counted i, rest.counted i, end);
  }
    where
      by : (i : ℕ) → base ≤ i → i < base + size → (b : Bool) → ltb i (base + m) ≡ b
          → SoundRow (made all) i (row_at (made all) i).kind (row_at (made all) i)
      by i from to true low = tree.fits i from (ltb-true i (base + m) low)
      by i from to false high = rest.fits i (ltb-false i (base + m) high) (omega arith)

-- in a table that is one tree, each row but its root stands as a child at one place
pub once : {all : List Quad} {n root : ℕ} → Grown all 0 n all [] (root ∷ []) → (i : ℕ) → i < n → (root ≡ i → ⊥) → placed i all ≡ 1
unfolding past places
once {root = root} grown i within other = omega (arith, grown.counted i, places_elsewhere i root other)
