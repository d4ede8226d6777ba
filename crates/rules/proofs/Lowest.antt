-- The lowest refusal that applies anywhere is given, with its lowest row.
use Prim.Native.Nat.{ℕ, zero, suc, ◌+◌, ◌≤◌, ◌<◌}
use native.Mathlib.Omega.{arith}
use mathlib.Core.Bool.{Bool, true, false, true≢false}
use mathlib.Core.List.{List}
use mathlib.Core.Path.{◌≡◌, refl, sym, ◌∙◌, subst, subst₂}
use lib.Dec.{eqb, ltb}
use lib.ListN.{length}
use borrow.Author.Tests.{eqb-true, eqb-false, ltb-true, ltb-false, lt-ltb}
use Rattle.rules.specs.Judged.{Judged}
use Rattle.rules.specs.Limits.{most_trace_words}
use Rattle.rules.specs.Rows.{rows_of, row_at}
use Rattle.rules.specs.Judging.{wrong_count, wrong_words, wrong_children, children, wrong_parents, too_deep, lowest, or_else, judge_rows, judge, judge_trace}
use Rattle.rules.specs.Lowest.{Applies, count, word, child, parent, depth, trace, Lowest, GivesLowest, LowestIsGiven}
use Rattle.rules.proofs.JudgeLaws.{lowest_here, lowest_next, or_else_stops, or_else_passes}

-- ---- a judgement by what it comes to

-- nothing applies, or the lowest that applies is given
data Found (Applied : ℕ → ℕ → Type 0) (given : Judged) : Type 0 where
  nothing : given ≡ Judged.Accepted → ((number row : ℕ) → Applied number row → ⊥) → Found Applied given
  something : (number row : ℕ) → given ≡ Judged.Refused number row → Lowest Applied number row → Found Applied given

accepted≢refused : {A : Type 0} {given : Judged} {number row : ℕ} → given ≡ Judged.Accepted → given ≡ Judged.Refused number row → A
accepted≢refused e e' = let z : ◌≡◌ {A = ℕ} 0 1 = cc in absurd (omega arith)

gives : {Applied : ℕ → ℕ → Type 0} {given : Judged} → Found Applied given → GivesLowest Applied given
gives (nothing e none) = record { accepted = (λ e'. none, λ none'. e); refused = λ number row e'. accepted≢refused e e' }
gives {Applied} (something number row e low) = record {
  accepted = (λ e'. accepted≢refused e' e, λ none. absurd (none number row low.applies));
  refused = λ number' row' e'. subst₂ (Lowest Applied) (cc) (cc) low;
}

-- ---- one refusal after the other

-- what a search through n rows from i on comes to
data Searched (number : ℕ) (test : ℕ → Bool) (i n : ℕ) : Type 0 where
  missed :
      lowest number test i n ≡ Judged.Accepted → ((row : ℕ) → i ≤ row → row < i + n → test row ≡ false) → Searched number test i n
  met :
      (row : ℕ) → lowest number test i n ≡ Judged.Refused number row → row < i + n → test row ≡ true
      → ((lower : ℕ) → i ≤ lower → lower < row → test lower ≡ false) → Searched number test i n

searched : (number : ℕ) (test : ℕ → Bool) (i n : ℕ) → Searched number test i n
unfolding lowest
searched number test i zero = missed refl (λ row from to. absurd (omega arith))
searched number test i (suc n) = by (test i) refl (searched number test (i + 1) n)
  where
    -- what holds at i and at every row after it holds from i on
    from_here : (P : ℕ → Type 0) → P i → ((row : ℕ) → i + 1 ≤ row → P row) → (row : ℕ) → i ≤ row → P row
    from_here P here after row from = at (eqb row i) refl
      where
        at : (b : Bool) → eqb row i ≡ b → P row
        at true same = subst P (sym (eqb-true row i same)) here
        at false other = let differs = eqb-false row i other in after row (omega (arith, differs))

    by : (b : Bool) → test i ≡ b → Searched number test (i + 1) n → Searched number test i (suc n)
    by true h onward = met i (lowest_here number test i n h) (omega arith) h (λ lower from to. absurd (omega arith))
    by false h (missed e none) =
        missed (lowest_next number test i n h ∙ e)
        (from_here (λ row. row < i + suc n → test row ≡ false) (λ to. h) (λ row from to. none row from (omega arith)))
    by false h (met row e to t none) =
        met row (lowest_next number test i n h ∙ e) (omega arith) t
        (from_here (λ lower. lower < row → test lower ≡ false) (λ to. h) none)

-- A refusal that is looked for where no lower number applies: it is given, or else what comes after it, where no number up to
-- it applies.
module _ {Applied : ℕ → ℕ → Type 0} (number : ℕ) (test : ℕ → Bool) (n : ℕ) (rest : Judged) where
  either :
      ((at : ℕ) → Applied number at → (at < n) × (test at ≡ true))
      → ((at : ℕ) → at < n → test at ≡ true → Applied number at)
      → (((other at : ℕ) → Applied other at → number + 1 ≤ other) → Found Applied rest)
      → ((other at : ℕ) → Applied other at → number ≤ other)
      → Found Applied (or_else (lowest number test 0 n) rest)
  either only all after from = by (searched number test 0 n)
    where
      higher : ((row : ℕ) → 0 ≤ row → row < 0 + n → test row ≡ false) → (other at : ℕ) → Applied other at → number + 1 ≤ other
      higher none other at a = here (eqb other number) refl
        where
          here : (b : Bool) → eqb other number ≡ b → number + 1 ≤ other
          here true same =
              let t = only at (subst (λ (k : ℕ). Applied k at) (eqb-true other number same) a) in
              absurd (true≢false (sym t.1 ∙ none at (omega arith) (omega arith)))
          here false differs = omega (arith, from other at a, eqb-false other number differs)

      first : (row : ℕ) → ((lower : ℕ) → 0 ≤ lower → lower < row → test lower ≡ false) → (at : ℕ) → Applied number at → row ≤ at
      first row none at a = here (ltb at row) refl
        where
          here : (b : Bool) → ltb at row ≡ b → row ≤ at
          here true lower = absurd (true≢false (sym (only at a).1 ∙ none at (omega arith) (ltb-true at row lower)))
          here false later = ltb-false at row later

      by : Searched number test 0 n → Found Applied (or_else (lowest number test 0 n) rest)
      by (missed e none) = subst (Found Applied) (or_else_passes (lowest number test 0 n) rest e) (after (higher none))
      by (met row e to t none) =
          something number row (sym (or_else_stops (lowest number test 0 n) rest e) ∙ e)
          (record { applies = all row (omega arith) t; number_lowest = from; row_lowest = first row none })

-- ---- the judgement of a run

or_else_assoc : (a b c : Judged) → or_else (or_else a b) c ≡ or_else a (or_else b c)
unfolding or_else
or_else_assoc Judged.Accepted b c = refl
or_else_assoc (Judged.Refused number row) b c = refl

or_else_last : (a : Judged) → or_else a Judged.Accepted ≡ a
unfolding or_else
or_else_last Judged.Accepted = refl
or_else_last (Judged.Refused number row) = refl

-- the six in one line, as they are looked for, are the judge's five and the trace's
in_line :
    (a b c d e f : Judged)
    → or_else a (or_else b (or_else c (or_else d (or_else e (or_else f Judged.Accepted)))))
    ≡ or_else (or_else a (or_else b (or_else c (or_else d e)))) f
in_line a b c d e f = simp (or_else_assoc, or_else_last)

module _ (words : List ℕ) (trace_words : ℕ) where
  -- what the table's line of each number says

  on_count : (at : ℕ) → Applies words trace_words 1 at → (at < 1) × (wrong_count words ≡ true)
  on_count _ (count e) = (omega arith, e)

  on_word : (at : ℕ) → Applies words trace_words 2 at → (at < length (rows_of words)) × (wrong_words (row_at (rows_of words) at) ≡ true)
  on_word _ (word at h e) = (h, e)

  on_child :
      (at : ℕ) → Applies words trace_words 3 at
      → (at < length (rows_of words)) × (wrong_children (rows_of words) at (row_at (rows_of words) at) ≡ true)
  on_child _ (child at h e) = (h, e)

  on_parent :
      (at : ℕ) → Applies words trace_words 4 at
      → (at < length (rows_of words)) × (wrong_parents (rows_of words) (children (rows_of words)) at ≡ true)
  on_parent _ (parent at h e) = (h, e)

  on_depth : (at : ℕ) → Applies words trace_words 5 at → (at < length (rows_of words)) × (too_deep (rows_of words) at ≡ true)
  on_depth _ (depth at h e) = (h, e)

  on_trace : (at : ℕ) → Applies words trace_words 6 at → (at < 1) × (ltb most_trace_words trace_words ≡ true)
  on_trace _ (trace h) = (omega arith, lt-ltb most_trace_words trace_words h)

  -- a refusal that is given at 0
  at_zero : (number at : ℕ) → at < 1 → Applies words trace_words number 0 → Applies words trace_words number at
  at_zero number at h a = let z : 0 ≡ at = omega arith in subst (Applies words trace_words number) z a

  -- the numbers are 1 to 6
  numbered : (number at : ℕ) → Applies words trace_words number at → (1 ≤ number) × (number ≤ 6)
  numbered _ _ (count e) = (omega arith, omega arith)
  numbered _ _ (word at h e) = (omega arith, omega arith)
  numbered _ _ (child at h e) = (omega arith, omega arith)
  numbered _ _ (parent at h e) = (omega arith, omega arith)
  numbered _ _ (depth at h e) = (omega arith, omega arith)
  numbered _ _ (trace h) = (omega arith, omega arith)

  -- each is looked for where none before it applies
  looked : Found (Applies words trace_words) (or_else (judge words) (judge_trace trace_words))
  unfolding judge judge_rows judge_trace lowest
  looked =
      subst (Found (Applies words trace_words)) (in_line _ _ _ _ _ _)
      (either 1 (λ i. wrong_count words) 1 _ on_count (λ at h e. at_zero 1 at h (count e))
      (either 2 (λ i. wrong_words (row_at (rows_of words) i)) (length (rows_of words)) _ on_word word
      (either 3 (λ i. wrong_children (rows_of words) i (row_at (rows_of words) i)) (length (rows_of words)) _ on_child child
      (either 4 (wrong_parents (rows_of words) (children (rows_of words))) (length (rows_of words)) _ on_parent parent
      (either 5 (too_deep (rows_of words)) (length (rows_of words)) _ on_depth depth
      (either 6 (λ i. ltb most_trace_words trace_words) 1 _ on_trace
      (λ at h e. at_zero 6 at h (trace (ltb-true most_trace_words trace_words e)))
      (λ higher. nothing refl (λ number at a. absurd (omega (arith, higher number at a, (numbered number at a).1)))))))))
      (λ number at a. (numbered number at a).0))

pub lowest_is_given : LowestIsGiven
unfolding judge_trace
lowest_is_given = (
  λ words trace_words. gives (looked words trace_words),
  λ words. gives (subst (Found (Applies words 0)) (or_else_last (judge words)) (looked words 0)),
)
