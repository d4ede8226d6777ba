-- The judge: which refusal is given, and what follows from "accepted".
use Prim.Native.Nat.{ℕ, zero, suc, ◌+◌, ◌-◌, ◌*◌, ◌/◌, ◌%◌, ◌≤◌, ◌<◌}
use native.Mathlib.Omega.{arith}
use mathlib.Core.Bool.{Bool, true, false, cond, ◌||◌, true≢false}
use mathlib.Core.List.{List, [], ◌∷◌}
use mathlib.Core.Path.{◌≡◌, refl, sym, ap, ◌∙◌}
use mathlib.Core.Logic.{◌≢◌}
use lib.Dec.{eqb, leb, ltb}
use lib.ListN.{length, get_or}
use borrow.Author.Tests.{eqb-true, eqb-false, ltb-false, leb-false, not-false, eq-eqb, ne_eqb}
use Rattle.rules.specs.declared.Role.{Role}
use Rattle.rules.specs.declared.Row.{Row}
use Rattle.rules.specs.Judged.{Judged}
use Rattle.rules.specs.Limits.{row_words, most_rows, most_height, most_nesting, most_loop_nesting}
use Rattle.rules.specs.Rows.{roles_of, rows_of, row_of, absent, row_at, is_expression}
use Rattle.rules.specs.Judging.{wrong_count, wrong_word, wrong_words, wrong_child, wrong_children, children, places, wrong_parents, too_deep, lowest, or_else, judge_rows, judge}
use Rattle.rules.specs.Sound.{Fits, SoundRow, Fitting, WithinLimits, Shallow, Sound}

-- ---- the rows of a table of words

pub rows_length : (words : List ℕ) → length (rows_of words) ≡ length words / row_words
unfolding rows_of
rows_length [] = refl
rows_length (k ∷ []) = refl
rows_length (k ∷ p ∷ []) = refl
rows_length (k ∷ p ∷ q ∷ []) = refl
rows_length (k ∷ p ∷ q ∷ r ∷ words) =
    let ih : length (rows_of words) ≡ length words / row_words = rows_length words in
    omega arith

-- the words of row i + 1 stand four places after those of row i
later : (k p q r : ℕ) (words : List ℕ) (i j : ℕ) → get_or (k ∷ p ∷ q ∷ r ∷ words) (suc i * 4 + j) 0 ≡ get_or words (i * 4 + j) 0
later k p q r words i j =
    let e : suc i * 4 + j ≡ suc (suc (suc (suc (i * 4 + j)))) = omega arith in
    ap (λ (n : ℕ). get_or (k ∷ p ∷ q ∷ r ∷ words) n 0) e

row_cong :
    {a b c d a' b' c' d' : ℕ} → a ≡ a' → b ≡ b' → c ≡ c' → d ≡ d' → row_of a b c d ≡ row_of a' b' c' d'
row_cong p q r s = λ i. row_of (p i) (q i) (r i) (s i)

pub row_law :
    (words : List ℕ) (i : ℕ) → i * 4 + 3 < length words →
    row_at (rows_of words) i
    ≡ row_of (get_or words (i * 4 + 0) 0) (get_or words (i * 4 + 1) 0) (get_or words (i * 4 + 2) 0) (get_or words (i * 4 + 3) 0)
unfolding row_at rows_of
row_law [] i h = absurd (omega arith)
row_law (k ∷ []) i h = absurd (omega arith)
row_law (k ∷ p ∷ []) i h = absurd (omega arith)
row_law (k ∷ p ∷ q ∷ []) i h = absurd (omega arith)
row_law (k ∷ p ∷ q ∷ r ∷ words) zero h = refl
row_law (k ∷ p ∷ q ∷ r ∷ words) (suc i) h =
    row_law words i (omega arith)
    ∙ sym
    (row_cong (later k p q r words i 0) (later k p q r words i 1) (later k p q r words i 2) (later k p q r words i 3))

-- past the end there is no row
pub row_absent : (rows : List Row) (i : ℕ) → length rows ≤ i → row_at rows i ≡ absent
unfolding row_at
row_absent [] i h = refl
row_absent (row ∷ rows) zero h = absurd (omega arith)
row_absent (row ∷ rows) (suc i) h = row_absent rows i (omega arith)

-- ---- the lowest row to which a refusal applies

pub lowest_here :
    (number : ℕ) (applies : ℕ → Bool) (i n : ℕ) → applies i ≡ true → lowest number applies i (suc n) ≡ Judged.Refused number i
unfolding lowest
lowest_here number applies i n h =
    ap (λ (b : Bool). cond b (Judged.Refused number i) (lowest number applies (i + 1) n)) h

pub lowest_next :
    (number : ℕ) (applies : ℕ → Bool) (i n : ℕ) → applies i ≡ false
    → lowest number applies i (suc n) ≡ lowest number applies (i + 1) n
unfolding lowest
lowest_next number applies i n h =
    ap (λ (b : Bool). cond b (Judged.Refused number i) (lowest number applies (i + 1) n)) h

-- a search through n rows: where it starts, at a row to which the refusal does not apply, at one to which it does, at its end
module _ (number : ℕ) (applies : ℕ → Bool) (i n : ℕ) {given : Judged} where
  pub lowest_step :
      i < n → applies i ≡ false → lowest number applies i (n - i) ≡ given → lowest number applies (i + 1) (n - (i + 1)) ≡ given
  lowest_step more h e =
      let left : n - i ≡ suc (n - (i + 1)) = omega arith in
      sym (ap (lowest number applies i) left ∙ lowest_next number applies i (n - (i + 1)) h) ∙ e

  pub lowest_found : i < n → applies i ≡ true → lowest number applies i (n - i) ≡ given → Judged.Refused number i ≡ given
  lowest_found more h e =
      let left : n - i ≡ suc (n - (i + 1)) = omega arith in
      sym (ap (lowest number applies i) left ∙ lowest_here number applies i (n - (i + 1)) h) ∙ e

  pub lowest_end : n ≤ i → lowest number applies i (n - i) ≡ given → Judged.Accepted ≡ given
  unfolding lowest
  lowest_end done e =
      let left : n - i ≡ 0 = omega arith in
      sym (ap (lowest number applies i) left) ∙ e

accepted≢refused : {A : Type 0} {number row : ℕ} → Judged.Refused number row ≡ Judged.Accepted → A
accepted≢refused e = let z : ◌≡◌ {A = ℕ} 0 1 = cc in absurd (omega arith)

pub lowest_accepted :
    (number : ℕ) (applies : ℕ → Bool) (i n : ℕ) → lowest number applies i n ≡ Judged.Accepted
    → (k : ℕ) → i ≤ k → k < i + n → applies k ≡ false
lowest_accepted number applies i zero e k from to = absurd (omega arith)
lowest_accepted number applies i (suc n) e k from to =
    by (applies i) refl (λ e' from'. lowest_accepted number applies (i + 1) n e' k from' (omega arith))
  where
    by : (b : Bool) → applies i ≡ b
        → (lowest number applies (i + 1) n ≡ Judged.Accepted → i + 1 ≤ k → applies k ≡ false)
        → applies k ≡ false
    by true h later_on = accepted≢refused (sym (lowest_here number applies i n h) ∙ e)
    by false h later_on = at (eqb k i) refl
      where
        at : (b : Bool) → eqb k i ≡ b → applies k ≡ false
        at true same = ap applies (eqb-true k i same) ∙ h
        at false other =
            let differs : k ≢ i = eqb-false k i other in
            later_on (sym (lowest_next number applies i n h) ∙ e) (omega arith)

-- ---- one refusal, or else the next

pub or_else_accepted : (a b : Judged) → or_else a b ≡ Judged.Accepted → (a ≡ Judged.Accepted) × (b ≡ Judged.Accepted)
unfolding or_else
or_else_accepted Judged.Accepted b e = (refl, e)
or_else_accepted (Judged.Refused number row) b e = accepted≢refused e

-- ---- the judgement, put together from the refusals

pub judge_count : (words : List ℕ) → wrong_count words ≡ true → Judged.Refused 1 0 ≡ judge words
unfolding judge or_else
judge_count words h =
    sym (ap (λ (b : Bool). or_else (cond b (Judged.Refused 1 0) Judged.Accepted) (judge_rows (rows_of words))) h)

-- the first of the refusals 2 to 5 that is given; each is looked at only where those before it are not given
pub judge_first :
    (words : List ℕ) (two three four five : Judged) → wrong_count words ≡ false
    → two ≡ lowest 2 (λ i. wrong_words (row_at (rows_of words) i)) 0 (length (rows_of words))
    → three ≡ lowest 3 (λ i. wrong_children (rows_of words) i (row_at (rows_of words) i)) 0 (length (rows_of words))
    → four ≡ lowest 4 (wrong_parents (rows_of words) (children (rows_of words))) 0 (length (rows_of words))
    → five ≡ lowest 5 (too_deep (rows_of words)) 0 (length (rows_of words))
    → or_else two (or_else three (or_else four five)) ≡ judge words
unfolding judge judge_rows or_else
judge_first words two three four five h e₂ e₃ e₄ e₅ =
    (λ i. or_else (e₂ i) (or_else (e₃ i) (or_else (e₄ i) (e₅ i))))
    ∙ sym (ap (λ (b : Bool). or_else (cond b (Judged.Refused 1 0) Judged.Accepted) (judge_rows (rows_of words))) h)

pub or_else_stops : {number row : ℕ} (first next : Judged) → first ≡ Judged.Refused number row → first ≡ or_else first next
unfolding or_else
or_else_stops first next e = e ∙ sym (ap (λ (j : Judged). or_else j next) e)

pub or_else_passes : (first next : Judged) → first ≡ Judged.Accepted → next ≡ or_else first next
unfolding or_else
or_else_passes first next e = sym (ap (λ (j : Judged). or_else j next) e)

-- ---- what "accepted" means

pub neither : (a b : Bool) → (a || b) ≡ false → (a ≡ false) × (b ≡ false)
neither true b e = absurd (true≢false e)
neither false b e = (refl, e)

-- a word to which neither refusal 2 nor refusal 3 applies is what its role asks
fits : (rows : List Row) (i : ℕ) (role : Role) (w : ℕ) → wrong_word role w ≡ false → wrong_child rows i role w ≡ false → Fits rows i role w
unfolding wrong_word wrong_child
fits rows i Role.Unnamed w a b = eqb-true w 0 (not-false (eqb w 0) a)
fits rows i Role.Variable w a b = leb-false _ w a
fits rows i Role.Statement w a b =
    let c = neither (leb i w) _ b in
    (leb-false i w c.0, not-false _ c.1)
fits rows i Role.Expression w a b =
    let c = neither (leb i w) _ b in
    (leb-false i w c.0, not-false _ c.1)
fits rows i Role.Value w a b = tt
fits rows i Role.Channel w a b = ltb-false _ w a
fits rows i Role.Operator w a b = ltb-false _ w a

sound_row : (rows : List Row) (i : ℕ) (row : Row) → wrong_words row ≡ false → wrong_children rows i row ≡ false → SoundRow rows i row.kind row
unfolding wrong_words wrong_children
sound_row rows i row a b =
    let a₁ = neither _ _ a in
    let a₂ = neither _ _ a₁.0 in
    let a₃ = neither _ _ a₂.0 in
    let b₁ = neither _ _ b in
    let b₂ = neither _ _ b₁.0 in
    record {
      known = a₃.0;
      p = fits rows i (roles_of row.kind).p row.p a₃.1 b₂.0;
      q = fits rows i (roles_of row.kind).q row.q a₂.1 b₂.1;
      r = fits rows i (roles_of row.kind).r row.r a₁.1 b₁.1;
    }

-- the rows of a table to which neither refusal 2 nor refusal 3 applies
pub fitting_rows :
    (rows : List Row) → lowest 2 (λ i. wrong_words (row_at rows i)) 0 (length rows) ≡ Judged.Accepted
    → lowest 3 (λ i. wrong_children rows i (row_at rows i)) 0 (length rows) ≡ Judged.Accepted → Fitting rows
fitting_rows rows e₂ e₃ i h =
    sound_row rows i (row_at rows i) (lowest_accepted 2 _ 0 (length rows) e₂ i (omega arith) (omega arith))
    (lowest_accepted 3 _ 0 (length rows) e₃ i (omega arith) (omega arith))

pub keeps_to_limits : (h n l : ℕ) → (ltb most_height h || ltb most_nesting n || ltb most_loop_nesting l) ≡ false → WithinLimits h n l
keeps_to_limits h n l e =
    let e₁ = neither _ _ e in
    let e₂ = neither _ _ e₁.0 in
    record { low = ltb-false _ _ e₂.0; flat = ltb-false _ _ e₂.1; few_loops = ltb-false _ _ e₁.1 }

shallow : (rows : List Row) (i : ℕ) → too_deep rows i ≡ false → Shallow rows i
unfolding too_deep
shallow rows i a = keeps_to_limits _ _ _ a

choice : {A : Type 0} (b c : Bool) (x y : A) → b ≡ c → cond b x y ≡ cond c x y
choice b c x y e = ap (λ (d : Bool). cond d x y) e

one_parent :
    (rows : List Row) (i : ℕ) → i + 1 < length rows → wrong_parents rows (children rows) i ≡ false → places i (children rows) ≡ 1
unfolding wrong_parents
one_parent rows i h e =
    eqb-true _ 1 (not-false _ (sym (choice _ false _ _ (ne_eqb (i + 1) (length rows) (λ same. omega arith))) ∙ e))

last_statement :
    (rows : List Row) (i : ℕ) → i + 1 ≡ length rows → wrong_parents rows (children rows) i ≡ false
    → is_expression (row_at rows i).kind ≡ false
unfolding wrong_parents
last_statement rows i h e = sym (choice _ true _ _ (eq-eqb (i + 1) (length rows) h)) ∙ e

pub sound_rows :
    (rows : List Row) → 0 < length rows → length rows ≤ most_rows → judge_rows rows ≡ Judged.Accepted → Sound rows
unfolding judge_rows
sound_rows rows some few e =
    let e₂ = or_else_accepted _ _ e in
    let e₃ = or_else_accepted _ _ e₂.1 in
    let e₄ = or_else_accepted _ _ e₃.1 in
    record {
      some = some;
      few = few;
      row = fitting_rows rows e₂.0 e₃.0;
      parent = λ i h. one_parent rows i h (lowest_accepted 4 _ 0 (length rows) e₄.0 i (omega arith) (omega arith));
      last = λ i h. last_statement rows i h (lowest_accepted 4 _ 0 (length rows) e₄.0 i (omega arith) (omega arith));
      depth = λ i h. shallow rows i (lowest_accepted 5 _ 0 (length rows) e₄.1 i (omega arith) (omega arith));
    }

-- the words of an accepted table make whole rows, as many as refusal 1 allows
pub right_count :
    (words : List ℕ) → wrong_count words ≡ false
    → (length words ≡ length (rows_of words) * row_words) × (0 < length (rows_of words)) × (length (rows_of words) ≤ most_rows)
unfolding wrong_count
right_count words e =
    let e₁ = neither _ _ e in
    let e₂ = neither _ _ e₁.0 in
    let n : length (rows_of words) ≡ length words / row_words = rows_length words in
    let whole : length words % row_words ≡ 0 = eqb-true _ 0 (not-false _ e₂.0) in
    let some : length words / row_words ≢ 0 = eqb-false _ 0 e₂.1 in
    let few : length words / row_words ≤ most_rows = ltb-false most_rows _ e₁.1 in
    (omega arith, omega arith, omega arith)

counted : (b : Bool) (e : Judged) → or_else (cond b (Judged.Refused 1 0) Judged.Accepted) e ≡ Judged.Accepted → (b ≡ false) × (e ≡ Judged.Accepted)
unfolding or_else
counted true e h = accepted≢refused h
counted false e h = (refl, h)

pub accepted_count : (words : List ℕ) → judge words ≡ Judged.Accepted → length words ≡ length (rows_of words) * row_words
unfolding judge
accepted_count words e = (right_count words (counted (wrong_count words) _ e).0).0

pub accepted_sound : (words : List ℕ) → judge words ≡ Judged.Accepted → Sound (rows_of words)
unfolding judge
accepted_sound words e =
    let c = counted (wrong_count words) (judge_rows (rows_of words)) e in
    let n = right_count words c.0 in
    sound_rows (rows_of words) n.1 n.2 c.1
