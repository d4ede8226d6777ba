-- The table of a recipe is accepted or refused by 5 alone, and it stands for the tree that was written.
use Prim.Native.Nat.{ℕ, ◌+◌, ◌-◌, ◌/◌, ◌%◌, ◌≤◌, ◌<◌, min}
use native.Mathlib.Omega.{arith}
use mathlib.Core.Bool.{Bool, true, false, not, true≢false}
use mathlib.Core.List.{List}
use mathlib.Core.Logic.{◌≢◌, ◌⊎◌, inl, inr}
use mathlib.Core.Path.{◌≡◌, refl, sym, ap, ◌∙◌}
use lib.Dec.{eqb}
use lib.ListN.{length}
use borrow.Author.Tests.{eq-eqb, ne_eqb, eqb-true, eqb-false, le-ltb}
use Rattle.rules.specs.Judged.{Judged}
use Rattle.rules.specs.Limits.{row_words, most_rows}
use Rattle.rules.specs.Rows.{is_expression, row_at}
use Rattle.rules.specs.Trees as tree
use Rattle.rules.specs.Trees.{stmt_at}
use Rattle.rules.specs.Judging.{wrong_count, wrong_parents, children, judge}
use Rattle.rules.specs.Lowest.{Applies, count, word, child, parent, depth, trace}
use Rattle.rules.specs.Sound.{Fitting}
use Rattle.rules.specs.Cases.{Quad, words_of}
use Rattle.rules.proofs.RefusalLaws.{count_law, last_law, inner_law}
use Rattle.rules.proofs.TreeLaws.{recipe_law}
use Rattle.rules.proofs.Lowest.{lowest_is_given}
use Rattle.language.specs.Recipes.{Block, block_tokens}
use Rattle.language.specs.Tables.{block_below, block_size, block_rows, table_of, block_tree}
use Rattle.language.specs.Claims.{TableIsJudged, RowsAreTheTree}
use Rattle.language.proofs.KnownWords.{AllKnown, text_known}
use Rattle.rules.proofs.RightRows.{right_words, right_children}
use Rattle.rules.proofs.PartLaws.{made, made_length, part_all, once}
use Rattle.language.proofs.RowCounts.{block_words}
use Rattle.language.proofs.RecipeRows.{BlockStands, block_stands}

module _ (b : Block) (known : AllKnown (block_tokens b)) where
  abbrev quads : List Quad
  quads = block_rows 0 b

  stands : BlockStands quads 0 b
  stands = block_stands b 0 known (part_all quads)

  length_rows : length (made quads) ≡ block_size b
  length_rows = made_length quads ∙ stands.grown.size

  fitting : Fitting (made quads)
  fitting i h = stands.grown.fits i (omega arith) (omega (arith, length_rows))

  right_tree : tree.recipe (made quads) ≡ block_tree 0 b
  right_tree =
      let last : length (made quads) - 1 ≡ 0 + block_below b = omega (arith, length_rows) in
      recipe_law (made quads) ∙ ap (stmt_at (made quads)) last ∙ stands.tree fitting

  right_count : block_size b ≤ most_rows → wrong_count (words_of quads) ≡ false
  right_count few =
      let size = block_words b 0 in
      let whole : length (words_of quads) % row_words ≡ 0 = omega arith in
      let rows : length (words_of quads) / row_words ≡ block_size b = omega arith in
      let some : length (words_of quads) / row_words ≢ 0 = omega arith in
      sym
      (count_law (words_of quads) false false false (sym (ap not (eq-eqb _ 0 whole))) (sym (ne_eqb _ 0 some))
      (sym (le-ltb most_rows (length (words_of quads) / row_words) (omega arith))))

  right_parents : (i : ℕ) → i < length (made quads) → wrong_parents (made quads) (children (made quads)) i ≡ false
  right_parents i h = by (eqb (i + 1) (length (made quads))) refl
    where
      by : (b : Bool) → eqb (i + 1) (length (made quads)) ≡ b → wrong_parents (made quads) (children (made quads)) i ≡ false
      by true is_last =
          let last : i + 1 ≡ length (made quads) = eqb-true _ _ is_last in
          let root : i ≡ 0 + block_below b = omega (arith, length_rows) in
          last_law (made quads) i last ∙ ap (λ (n : ℕ). is_expression (row_at (made quads) n).kind) root ∙ stands.sort.1
      by false other =
          let inner = eqb-false (i + 1) (length (made quads)) other in
          inner_law (made quads) i 1 inner
          (ap (min 2) (sym (once stands.grown i (omega (arith, length_rows)) (λ root. inner (omega (arith, length_rows))))))

  only_depth : block_size b ≤ most_rows → (number row : ℕ) → Applies (words_of quads) 0 number row → number ≡ 5
  only_depth few _ _ (count e) = absurd (true≢false (sym e ∙ right_count few))
  only_depth few _ _ (word row h e) = absurd (true≢false (sym e ∙ right_words (made quads) row _ (fitting row h)))
  only_depth few _ _ (child row h e) = absurd (true≢false (sym e ∙ right_children (made quads) row _ (fitting row h)))
  only_depth few _ _ (parent row h e) = absurd (true≢false (sym e ∙ right_parents row h))
  only_depth few _ _ (depth row h e) = refl
  only_depth few _ _ (trace h) = absurd (omega arith)

pub table_is_judged : TableIsJudged
unfolding table_of
table_is_judged text r is few = by (judge (table_of r)) refl
  where
    by : (given : Judged) → judge (table_of r) ≡ given
        → (judge (table_of r) ≡ Judged.Accepted) ⊎ ((row : ℕ) × (judge (table_of r) ≡ Judged.Refused 5 row))
    by Judged.Accepted e = inl e
    by (Judged.Refused number row) e =
        let five = only_depth r.block (text_known text r is) few number row ((lowest_is_given.1 (table_of r)).refused number row e).applies in
        inr (row, e ∙ ap (λ (n : ℕ). Judged.Refused n row) five)

pub rows_are_the_tree : RowsAreTheTree
unfolding table_of
rows_are_the_tree text r is = right_tree r.block (text_known text r is)
