-- Demand 3, its first part: two runs of an accepted recipe from memories equal in every settled variable.
use Prim.Native.Nat.{ℕ, ◌≤◌}
use native.Mathlib.Omega.{arith}
use mathlib.Core.Bool.{Bool, true, false}
use mathlib.Core.List.{List, [], ◌∷◌}
use mathlib.Core.Logic.{inl, inr}
use mathlib.Core.Path.{◌≡◌, refl, sym, ap₂, ◌∙◌, subst}
use lib.Dec.{ltb}
use lib.ListN.{length, get_or, get_or-eq_default}
use borrow.Author.Tests.{ltb-true, ltb-false}
use Rattle.rules.specs.Limits.{width}
use Rattle.rules.specs.Marks.{has}
use Rattle.rules.specs.Rows.{rows_of}
use Rattle.rules.specs.Trees.{recipe}
use Rattle.rules.specs.Running.{statement, blank}
use Rattle.rules.specs.Answers.{refused, verdict, Whole, Inputs, final, answer, terms_of}
use Rattle.rules.proofs.AnswerLaws.{start_of, shown_of, Call, ran, away, call}
use Rattle.safety.specs.Stations.{Begins}
use Rattle.safety.specs.Demands.{TwoMemories, seen, OneBeginsTheOther, BothDoneAreTheSame}
use Rattle.safety.proofs.TwoRuns.{Alike, alike}

refused_not_done : {A : Type 0} (number row : ℕ) → refused number row ≡ verdict 0 0 → A
refused_not_done number row e = let z : ◌≡◌ {A = ℕ} 0 1 = cc in absurd (omega arith)

module _ (i j : Inputs) (two : TwoMemories i j) where
  -- past the last variable both memories read 0
  everywhere : (v : ℕ) → has i.marks v ≡ false → get_or i.memory v 0 ≡ get_or j.memory v 0
  everywhere v h = by (ltb v width) refl
    where
      first : length i.memory ≡ width
      first = two.whole_first

      second : length j.memory ≡ width
      second = two.whole_second

      by : (b : Bool) → ltb v width ≡ b → get_or i.memory v 0 ≡ get_or j.memory v 0
      by true in_range = two.agree v (ltb-true v width in_range) h
      by false past =
          let out : width ≤ v = ltb-false v width past in
          get_or-eq_default i.memory 0 (omega (arith, first)) ∙ sym (get_or-eq_default j.memory 0 (omega (arith, second)))

  -- the second run, of the first one's recipe and marks
  same_start :
      final (terms_of (length j.trace)) j.budget (start_of i.words j.memory i.marks) ≡ shown_of j
  same_start =
      ap₂ (λ (words : List ℕ) (marks : ℕ). final (terms_of (length j.trace)) j.budget (start_of words j.memory marks))
      two.same_words two.same_marks

  both_ran : Alike (shown_of i) (shown_of j)
  both_ran =
      subst (Alike (shown_of i)) same_start
      (alike (terms_of (length i.trace)) (terms_of (length j.trace)) i.budget j.budget (statement (recipe (rows_of i.words)) ∷ [])
      i.memory i.marks blank j.memory blank
      (record { long = two.whole_first ∙ sym two.whole_second; same = everywhere; seen = refl }))

  -- the two calls come to the same
  calls_alike : Alike (answer i) (answer j)
  calls_alike = by (call i) (call j)
    where
      nothing : (x : Whole) → Begins [] (seen x)
      nothing x = (seen x, refl)

      by : Call i → Call j → Alike (answer i) (answer j)
      by (ran e w) (ran e' w') = subst (λ (x : Whole). Alike x (answer j)) (sym w) (subst (Alike (shown_of i)) (sym w') both_ran)
      by (ran e w) (away number row w') =
          subst (Alike (answer i)) (sym w')
          (record { begins = inr (nothing (answer i)); done = λ d d'. refused_not_done number row d' })
      by (away number row w) c =
          subst (λ (x : Whole). Alike x (answer j)) (sym w)
          (record { begins = inl (nothing (answer j)); done = λ d d'. refused_not_done number row d })

pub one_begins_the_other : OneBeginsTheOther
one_begins_the_other i j two = (calls_alike i j two).begins

pub both_done_are_the_same : BothDoneAreTheSame
both_done_are_the_same i j two d d' = (calls_alike i j two).done d d'
