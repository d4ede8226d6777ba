-- What a search over the rows comes to, in terms of the rules.
use Rattle.std.proofs.Common.{ℕ, zero, suc, ◌+◌, ◌<◌, ◌≤◌, Bool, true, false, ◌≡◌, refl, sym, ap, ◌∙◌, arith, Result, Ok, Err, OnOk, IfErr}
use Rattle.rules.specs.declared.Fault.{Fault}
use Rattle.rules.specs.declared.Refusal.{Refusal}
use Rattle.rules.specs.Judged.{Judged}
use Rattle.rules.specs.Judging.{lowest}
use Rattle.rules.specs.Answers.{number_of, judged_of}
use Rattle.rules.proofs.JudgeLaws.{lowest_here, lowest_next}

module _ (number : ℕ) (applies : ℕ → Bool) where
  -- it applies to none of n rows from i on
  none : (n i : ℕ) → ((row : ℕ) → i ≤ row → row < i + n → false ≡ applies row) → Judged.Accepted ≡ lowest number applies i n
  unfolding lowest
  none zero i free = refl
  none (suc n) i free =
      none n (i + 1) (λ row from below. free row (omega arith) (omega arith))
      ∙ sym (lowest_next number applies i n (sym (free i (omega arith) (omega arith))))

  -- the first of n rows from i on to which it applies is d rows further
  first :
      (d n i : ℕ) → d < n → true ≡ applies (i + d) → ((row : ℕ) → i ≤ row → row < i + d → false ≡ applies row)
      → Judged.Refused number (i + d) ≡ lowest number applies i n
  first zero zero i more found free = absurd (omega arith)
  first zero (suc n) i more found free =
      let here : i + 0 ≡ i = omega arith in
      ap (Judged.Refused number) here ∙ sym (lowest_here number applies i n (ap applies (sym here) ∙ sym found))
  first (suc d) zero i more found free = absurd (omega arith)
  first (suc d) (suc n) i more found free =
      let next : i + suc d ≡ i + 1 + d = omega arith in
      ap (Judged.Refused number) next
      ∙ first d n (i + 1) (omega arith) (found ∙ ap applies next) (λ row from below. free row (omega arith) (omega arith))
      ∙ sym (lowest_next number applies i n (sym (free i (omega arith) (omega arith))))

-- what a search over n rows answers is the lowest refusal
pub searched :
    (fault : Fault) (applies : ℕ → Bool) (n : ℕ) (answer : Result (Unit {0}) Refusal)
    → OnOk answer ((row : ℕ) → row < n → false ≡ applies row)
    → IfErr answer (λ e. (e.fault ≡ fault) × (e.row < n) × (true ≡ applies e.row) × ((row : ℕ) → row < e.row → false ≡ applies row))
    → judged_of answer ≡ lowest (number_of fault) applies 0 n
searched fault applies n (Ok done) passed refused =
    none (number_of fault) applies n 0 (λ row from below. passed row (omega arith))
searched fault applies n (Err e) passed refused =
    let here : 0 + e.row ≡ e.row = omega arith in
    ap (λ (f : Fault). Judged.Refused (number_of f) e.row) refused.0
    ∙ ap (Judged.Refused (number_of fault)) (sym here)
    ∙ first (number_of fault) applies e.row n 0 refused.1 (refused.2 ∙ ap applies (sym here)) (λ row from below. refused.3 row (omega arith))
