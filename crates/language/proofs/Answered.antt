-- What is answered to a text that is a recipe, case by case, and what follows for every text.
use Prim.Native.Nat.{ℕ, ◌*◌}
use native.Mathlib.Omega.{arith}
use mathlib.Core.Bool.{Bool, true, false}
use mathlib.Core.List.{List, [], ◌∷◌, ◌++◌}
use mathlib.Core.Logic.{◌⊎◌, inl, inr}
use mathlib.Core.Path.{◌≡◌, refl, sym, ap, subst, ◌∙◌}
use lib.Dec.{leb}
use lib.ListN.{length, take, drop}
use lib.Seq.{take-append_seam, drop-append_seam}
use borrow.Author.Tests.{leb-true}
use Rattle.rules.specs.Judged.{Judged}
use Rattle.rules.specs.Limits.{row_words, most_rows}
use Rattle.rules.specs.Marks.{none}
use Rattle.rules.specs.Rows.{rows_of}
use Rattle.rules.specs.Trees as tree
use Rattle.rules.specs.Judging.{judge}
use Rattle.language.specs.declared.Part.{Part}
use Rattle.language.specs.Limits.{faulty_word, declared_again, too_many_rows, table_too_short}
use Rattle.language.specs.Words.{Word}
use Rattle.language.specs.Recipes.{Recipe}
use Rattle.language.specs.Tables.{block_size, table_of, marks_of}
use Rattle.language.specs.Readings.{words_of, Is, end_of, part_at, repeated, refused, Reading, untouched, laid, judged, sized, declared, reading_of, long, faulty, read}
use Rattle.language.specs.Claims.{ExactlyRecipes, FaultIsFirst, RefusedChangesNothing, Stands, AcceptedStands}
use Rattle.language.proofs.Faults.{first}
use Rattle.language.proofs.Declared.{marks_declared}
use Rattle.language.proofs.TableLaws.{table_is_judged, rows_are_the_tree}
use Rattle.language.proofs.RowCounts.{table_words_lem}

-- The answer to a recipe: refused by 11, 12, 5 or 13, or accepted.
data Answered (meant : Bool) (text : List ℕ) (r : Recipe) (table : List ℕ) : Reading → Type 0 where
  turned : (number at : ℕ) (part : Part) → (number ≡ 0 → ⊥) → (number ≡ faulty_word → ⊥) → Answered meant text r table (untouched (refused number at part) table)
  accepted :
      repeated none r.declarations (words_of text) ≡ [] → judge (table_of r) ≡ Judged.Accepted
      → Answered meant text r table (record {
        said = record { refusal = 0; at = 0; rows = block_size r.block; marks = marks_of meant r.declarations; part = end_of text };
        table = table_of r ++ drop (length (table_of r)) table;
      })

answered : (meant : Bool) (text : List ℕ) (r : Recipe) (table : List ℕ) → Is text r → Answered meant text r table (reading_of meant text r table)
unfolding reading_of declared sized judged laid
answered meant text r table is = on_words (repeated none r.declarations (words_of text)) refl
  where
    marks : ℕ
    marks = marks_of meant r.declarations

    Once : Type 0
    Once = repeated none r.declarations (words_of text) ≡ []

    on_room : (fits : Bool) → Once → judge (table_of r) ≡ Judged.Accepted → Answered meant text r table (laid fits text r marks table)
    on_room true once e = accepted once e
    on_room false once e = turned table_too_short 0 (end_of text) (λ h. omega arith) (λ h. omega arith)

    on_size : (few : Bool) → Once → leb (block_size r.block) most_rows ≡ few → Answered meant text r table (sized few text r marks table)
    on_size false once e = turned too_many_rows 0 (end_of text) (λ h. omega arith) (λ h. omega arith)
    on_size true once e = on (table_is_judged text r is (leb-true (block_size r.block) most_rows e))
      where
        on : (judge (table_of r) ≡ Judged.Accepted) ⊎ ((row : ℕ) × (judge (table_of r) ≡ Judged.Refused 5 row))
            → Answered meant text r table (judged (judge (table_of r)) text r marks table)
        on (inl q) =
            subst (λ (j : Judged). Answered meant text r table (judged j text r marks table)) (sym q)
            (on_room (leb (length (table_of r)) (length table)) once q)
        on (inr (row, q)) =
            subst (λ (j : Judged). Answered meant text r table (judged j text r marks table)) (sym q)
            (turned 5 row (end_of text) (λ h. omega arith) (λ h. omega arith))

    on_words : (words : List Word) → repeated none r.declarations (words_of text) ≡ words → Answered meant text r table (declared words text r marks table)
    on_words (w ∷ rest) e = turned declared_again 0 (part_at text (w ∷ rest)) (λ h. omega arith) (λ h. omega arith)
    on_words [] e = on_size (leb (block_size r.block) most_rows) e refl

-- ---- every text

pub exactly_recipes : ExactlyRecipes
exactly_recipes meant text table a (long h) k = absurd (omega arith)
exactly_recipes meant text table a (faulty h rest f) k = (λ r is e. f.unfinished r is, λ other. absurd (other refl))
exactly_recipes meant text table a (read h r is) k = (λ other q. none (answered meant text r table is), λ other. (r, is))
  where
    none : {b : Reading} → Answered meant text r table b → b.said.refusal ≡ faulty_word → ⊥
    none (turned number at part some other) e = other e
    none (accepted once e) q = omega arith

pub refused_changes_nothing : RefusedChangesNothing
refused_changes_nothing meant text table a (long h) other = (refl, refl, refl)
refused_changes_nothing meant text table a (faulty h rest f) other = (refl, refl, refl)
refused_changes_nothing meant text table a (read h r is) other = nothing (answered meant text r table is) other
  where
    nothing : {b : Reading} → Answered meant text r table b → (b.said.refusal ≡ 0 → ⊥)
        → (b.said.rows ≡ 0) × (b.said.marks ≡ none) × (b.table ≡ table)
    nothing (turned number at part some other) q = (refl, refl, refl)
    nothing (accepted once e) q = absurd (q refl)

pub accepted_stands : AcceptedStands
accepted_stands meant text table a (long h) e = absurd (omega arith)
accepted_stands meant text table a (faulty h rest f) e = absurd (omega arith)
accepted_stands meant text table a (read h r is) e = stands (answered meant text r table is) e
  where
    size : block_size r.block * row_words ≡ length (table_of r)
    size = sym (table_words_lem r)

    front : take (block_size r.block * row_words) (table_of r ++ drop (length (table_of r)) table) ≡ table_of r
    front =
        ap (λ (n : ℕ). take n (table_of r ++ drop (length (table_of r)) table)) size
        ∙ take-append_seam (table_of r) (drop (length (table_of r)) table)

    stands : {b : Reading} → Answered meant text r table b → b.said.refusal ≡ 0 → Stands meant text table b
    stands (turned number at part some other) q = absurd (some q)
    stands (accepted once e) q = record {
      recipe = r;
      is = is;
      marks = marks_declared meant text r is once;
      accepted = ap judge front ∙ e;
      tree = ap (λ (l : List ℕ). tree.recipe (rows_of l)) front ∙ rows_are_the_tree text r is;
      kept =
          ap (λ (n : ℕ). drop n (table_of r ++ drop (length (table_of r)) table)) size
          ∙ drop-append_seam (table_of r) (drop (length (table_of r)) table)
          ∙ ap (λ (n : ℕ). drop n table) (sym size);
    }

pub fault_is_first : FaultIsFirst
fault_is_first meant text table a (long h) e = absurd (omega arith)
fault_is_first meant text table a (faulty h rest f) e = (rest, refl, first f)
fault_is_first meant text table a (read h r is) e = absurd ((exactly_recipes meant text table _ (read h r is) h).0 r is e)
