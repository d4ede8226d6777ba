-- From what a walk over the whole recipe finds to the level check's answer.
use Prim.Native.Nat.{ℕ, ◌-◌, ◌/◌, ◌≤◌, ◌<◌}
use native.Mathlib.Omega.{arith}
use mathlib.Core.Bool.{false}
use mathlib.Core.List.{List}
use mathlib.Core.Path.{◌≡◌, sym, ap, ap₂, ◌∙◌}
use lib.ListN.{length}
use Rattle.rules.specs.declared.Checked.{Checked}
use Rattle.rules.specs.Judged.{Judged}
use Rattle.rules.specs.Limits.{row_words, most_rows}
use Rattle.rules.specs.Rows.{rows_of}
use Rattle.rules.specs.Trees.{stmt_at, recipe}
use Rattle.rules.specs.Judging.{judge}
use Rattle.rules.specs.LevelCheck.{walk, checked_of}
use Rattle.rules.specs.Answers.{Advised, said_of_check, advice}
use Rattle.rules.proofs.AnswerLaws.{advice_accepted}
use Rattle.rules.proofs.JudgeLaws.{accepted_sound, rows_length}
use Rattle.rules.proofs.TreeLaws.{recipe_law}
use Rattle.levels.specs.declared.walk.Found.{Found}
use Rattle.levels.specs.Found.{found_of, checked_at}
use Rattle.levels.proofs.FoundLaws.{checked_at_lowest}

module _ (words : List ℕ) (accepted : judge words ≡ Judged.Accepted) where
  -- an accepted table has a last row, and its number is small
  pub some_rows : 1 ≤ length words / row_words
  some_rows = let some = (accepted_sound words accepted).some in omega (arith, rows_length words)

  pub few_rows : length words / row_words ≤ most_rows
  few_rows = let few = (accepted_sound words accepted).few in omega (arith, rows_length words)

  pub last_within : length words / row_words - 1 < length (rows_of words)
  last_within = omega (arith, rows_length words, some_rows)

  last_recipe : stmt_at (rows_of words) (length words / row_words - 1) ≡ recipe (rows_of words)
  last_recipe = ap (λ (n : ℕ). stmt_at (rows_of words) (n - 1)) (sym (rows_length words)) ∙ sym (recipe_law (rows_of words))

  advised : Checked → ℕ → Advised
  advised checked marks = record { said = said_of_check checked; marks = marks }

  pub advice_found :
      (marks : ℕ) {found : Found} {checked : Checked}
      → found ≡ found_of (walk (stmt_at (rows_of words) (length words / row_words - 1)) false marks) → checked ≡ checked_at found.lowest
      → record { said = said_of_check checked; marks = found.marks } ≡ advice words marks
  unfolding advised
  advice_found marks {found} {checked} ef ec =
      let whole : found ≡ found_of (walk (recipe (rows_of words)) false marks) = ef ∙ ap (λ s. found_of (walk s false marks)) last_recipe in
      let said : checked ≡ checked_of (walk (recipe (rows_of words)) false marks).failing =
      ec ∙ ap (λ (f : Found). checked_at f.lowest) whole ∙ checked_at_lowest (walk (recipe (rows_of words)) false marks).failing in
      ap₂ advised said (ap (λ (f : Found). f.marks) whole) ∙ sym (advice_accepted words marks accepted)
