-- Demand 3, its last sentence: a recipe that the level check passes is never stopped. While it runs, the monitor's marks are
-- contained in those of a solution of the rules, and a pile that is not empty means a provisional context there.
use Prim.Native.Nat.{ℕ, zero, suc, ◌<◌, ◌^◌}
use native.Mathlib.Omega.{arith}
use mathlib.Core.Bool.{Bool, true, false, cond, ◌||◌, ◌&&◌, or-true, true≢false}
use mathlib.Core.List.{List, [], ◌∷◌, ◌++◌}
use mathlib.Core.Logic.{◌≢◌}
use mathlib.Core.Path.{◌≡◌, refl, sym, ap, ◌∙◌, subst}
use lib.Dec.{eqb, ltb}
use lib.ListN.{length}
use Rattle.rules.specs.Judged.{Judged}
use Rattle.rules.specs.declared.Checked.{Checked}
use Rattle.rules.specs.Limits.{width}
use Rattle.rules.specs.Rows.{rows_of}
use Rattle.rules.specs.Trees.{Expr, Stmt, skip, assign, sequence, if, while, output, recipe}
use Rattle.rules.specs.Judging.{judge}
use Rattle.rules.specs.Marks.{none, only, put, union, ◌⊆◌, provisional}
use Rattle.rules.specs.Values.{holds, level, may_assign}
use Rattle.rules.specs.Running.{Item, statement, close, Log, state, blank, Terms, context, push, counted, denies}
use Rattle.rules.specs.LevelRules.{under, Choice, result, Solves, failing}
use Rattle.rules.specs.LevelCheck.{walk, checked_of}
use Rattle.rules.specs.Answers.{verdict, pass, Whole, final, answer, terms_of, Advised, advice}
use Rattle.rules.proofs.MarkLaws.{subset_refl, subset_union_left, subset_union_right, union_least, none_subset, put_mono, put_union}
use Rattle.rules.proofs.RangeLaws.{recipe_range}
use Rattle.rules.proofs.RunLaws.{run_done, run_spent, run_sequence, run_skip, run_assign, run_close_empty, run_close, run_then, run_else, run_turn, run_leave, run_roomless, run_record}
use Rattle.rules.proofs.AnswerLaws.{Call, ran, away, call, advice_accepted, checked_unique}
use Rattle.safety.specs.Demands.{PassedIsNeverStopped}
use Rattle.safety.proofs.Least.{solved, solved_failing, solved_solves, under_mono, lowest_is_named}

-- ---- in a provisional context a solution marks all that a statement may assign, and unmarks nothing

provisional_marks :
    (s : Stmt) (choice : Choice s) (c : Bool) (l : ℕ) → c ≡ true → Solves s choice c l → union l (may_assign s) ⊆ result s choice c l
provisional_marks skip choice c l h solves = union_least l none l (subset_refl l) (none_subset l)
provisional_marks (assign v e) choice c l h solves =
    subst (λ (x : Bool). union l (only v) ⊆ put v x l) (sym (ap (λ (x : Bool). provisional (level l e) || x) h ∙ or-true (provisional (level l e))))
    (subst (λ (x : ℕ). union l (only v) ⊆ x) (sym (put_union v l)) (subset_refl (union l (only v))))
provisional_marks (sequence s t) choice c l h solves =
    let first = provisional_marks s choice.0 c l h solves.0 in
    let second = provisional_marks t choice.1 c (result s choice.0 c l) h solves.1 in
    let on : result s choice.0 c l ⊆ result t choice.1 c (result s choice.0 c l) =
    λ i g. second i (subset_union_left (result s choice.0 c l) (may_assign t) i g)
    in
    union_least l (union (may_assign s) (may_assign t)) (result t choice.1 c (result s choice.0 c l))
    (λ i g. on i (first i (subset_union_left l (may_assign s) i g)))
    (union_least (may_assign s) (may_assign t) (result t choice.1 c (result s choice.0 c l))
    (λ i g. on i (first i (subset_union_right l (may_assign s) i g)))
    (λ i g. second i (subset_union_right (result s choice.0 c l) (may_assign t) i g)))
provisional_marks (if e s t) choice c l h solves =
    let inner : under e c l ≡ true = ap (λ (x : Bool). provisional (level l e) || x) h ∙ or-true (provisional (level l e)) in
    let left : ℕ = result s choice.0 (under e c l) l in
    let right : ℕ = result t choice.1 (under e c l) l in
    let first = provisional_marks s choice.0 (under e c l) l inner solves.0 in
    let second = provisional_marks t choice.1 (under e c l) l inner solves.1 in
    union_least l (union (may_assign s) (may_assign t)) (union left right)
    (λ i g. subset_union_left left right i (first i (subset_union_left l (may_assign s) i g)))
    (union_least (may_assign s) (may_assign t) (union left right)
    (λ i g. subset_union_left left right i (first i (subset_union_right l (may_assign s) i g)))
    (λ i g. subset_union_right left right i (second i (subset_union_right l (may_assign t) i g))))
provisional_marks (while e s) choice c l h solves =
    let inner : under e c choice.0 ≡ true =
    ap (λ (x : Bool). provisional (level choice.0 e) || x) h ∙ or-true (provisional (level choice.0 e))
    in
    let body = provisional_marks s choice.1 (under e c choice.0) choice.0 inner solves.2 in
    union_least l (may_assign s) choice.0 solves.0 (λ i g. solves.1 i (body i (subset_union_right choice.0 (may_assign s) i g)))
provisional_marks (output channel e row) choice c l h solves = union_least l none l (subset_refl l) (none_subset l)

-- ---- the pending items are covered by solutions, from a mark set l, under a pile

abbrev Covered : List Item → List ℕ → ℕ → Type 0
Covered [] p l = Unit {0}
Covered (statement s ∷ k) p l =
    (c : Bool) × (choice : Choice s) × (after : ℕ) × (context p ≡ true → c ≡ true) × Solves s choice c l × (failing s choice c l ≡ [])
    × (result s choice c l ⊆ after) × Covered k p after
Covered (close ∷ k) [] l = Covered k [] l
Covered (close ∷ k) (top ∷ p) l = (top ⊆ l) × Covered k p l

-- a close is covered if what was pushed for it is contained
close_covered :
    (x : Bool) (p : List ℕ) (pushed : ℕ) (k : List Item) (l : ℕ) → ((x || context p) ≡ true → pushed ⊆ l) → Covered k p l
    → Covered (close ∷ k) (push (x || context p) pushed p) l
close_covered true p pushed k l sub cov = (sub refl, cov)
close_covered false [] pushed k l sub cov = cov
close_covered false (top ∷ p) pushed k l sub cov = (sub refl, cov)

-- a context that became provisional by a push was pushed on
context_pushed : (x : Bool) (p : List ℕ) (pushed : ℕ) → context (push (x || context p) pushed p) ≡ true → (x || context p) ≡ true
context_pushed true p pushed h = refl
context_pushed false [] pushed h = h
context_pushed false (top ∷ p) pushed h = refl

nothing_failing : (a b : List ℕ) → a ++ b ≡ [] → (a ≡ []) × (b ≡ [])
nothing_failing [] b e = (refl, e)
nothing_failing (x ∷ a) b e = let z : ◌≡◌ {A = ℕ} 0 1 = cc in absurd (omega arith)

-- ---- the run

-- a run of these items from marks that a covering solution contains is not stopped
abbrev Unstopped : Terms → ℕ → List Item → Type 0
Unstopped terms b k =
    (m : List ℕ) (l : ℕ) (p : List ℕ) (g : Log) (cover : ℕ) → l ⊆ cover → Covered k p cover → (row : ℕ)
    → (final terms b (state k m l p g)).said ≡ verdict 1 row → ⊥

moved : (w₁ w : Whole) (row : ℕ) → w₁ ≡ w → (w.said ≡ verdict 1 row → ⊥) → w₁.said ≡ verdict 1 row → ⊥
moved w₁ w row e f d = f (sym (ap (λ (x : Whole). x.said) e) ∙ d)

other_verdict : (number place row : ℕ) → number ≢ 1 → verdict number place ≡ verdict 1 row → ⊥
other_verdict number place row other e = let z : number ≡ 1 = cc in other z

module _ (terms : Terms) where
  unstopped_done : (b : ℕ) → Unstopped terms b []
  unstopped_done b m l p g cover sub cov row =
      moved _ _ row (run_done terms [] m l p g b) (other_verdict 0 0 row (omega arith))

  unstopped_spent : (item : Item) (k : List Item) → Unstopped terms 0 (item ∷ k)
  unstopped_spent item k m l p g cover sub cov row =
      moved _ _ row (run_spent terms k m l p g item) (other_verdict 2 0 row (omega arith))

  module _ (b : ℕ) (onward : (k : List Item) → Unstopped terms b k) (k : List Item) where
    -- the context that the solution has inside an if or while is provisional if the monitor's is
    inside :
        (e : Expr) (c : Bool) (l cover : ℕ) (p : List ℕ) → (context p ≡ true → c ≡ true) → l ⊆ cover
        → (provisional (level l e) || context p) ≡ true → under e c cover ≡ true
    inside e c l cover p ctx sub guards = under_mono e (context p) c l cover ctx sub guards

    unstopped_branch :
        (e : Expr) (s t : Stmt) (m : List ℕ) (l : ℕ) (p : List ℕ) (g : Log) (cover : ℕ) → l ⊆ cover
        → Covered (statement (if e s t) ∷ k) p cover → (row : ℕ) (x : Bool) → holds m e ≡ x
        → (final terms (suc b) (state (statement (if e s t) ∷ k) m l p g)).said ≡ verdict 1 row → ⊥
    unstopped_branch e s t m l p g cover sub (c, choice, after, ctx, solves, passes, low, cov) row = by
      where
        left : ℕ
        left = result s choice.0 (under e c cover) cover

        right : ℕ
        right = result t choice.1 (under e c cover) cover

        both : (failing s choice.0 (under e c cover) cover ≡ []) × (failing t choice.1 (under e c cover) cover ≡ [])
        both = nothing_failing _ _ passes

        left_low : left ⊆ after
        left_low i a = low i (subset_union_left left right i a)

        right_low : right ⊆ after
        right_low i a = low i (subset_union_right left right i a)

        by : (x : Bool) → holds m e ≡ x → (final terms (suc b) (state (statement (if e s t) ∷ k) m l p g)).said ≡ verdict 1 row → ⊥
        by true h =
            moved _ _ row (run_then terms k m l p g b e s t h)
            (onward (statement s ∷ close ∷ k) m l _ (counted g) cover sub (
              under e c cover,
              choice.0,
              after,
              λ guards. inside e c l cover p ctx sub (context_pushed (provisional (level l e)) p (may_assign t) guards),
              solves.0,
              both.0,
              left_low,
              close_covered (provisional (level l e)) p (may_assign t) k after
                  (λ guards i a. right_low i (provisional_marks t choice.1 (under e c cover) cover (inside e c l cover p ctx sub guards) solves.1 i (subset_union_right cover (may_assign t) i a)))
                  cov,
            )
            row)
        by false h =
            moved _ _ row (run_else terms k m l p g b e s t h)
            (onward (statement t ∷ close ∷ k) m l _ (counted g) cover sub (
              under e c cover,
              choice.1,
              after,
              λ guards. inside e c l cover p ctx sub (context_pushed (provisional (level l e)) p (may_assign s) guards),
              solves.1,
              both.1,
              right_low,
              close_covered (provisional (level l e)) p (may_assign s) k after
                  (λ guards i a. left_low i (provisional_marks s choice.0 (under e c cover) cover (inside e c l cover p ctx sub guards) solves.0 i (subset_union_right cover (may_assign s) i a)))
                  cov,
            )
            row)

    unstopped_loop :
        (e : Expr) (s : Stmt) (m : List ℕ) (l : ℕ) (p : List ℕ) (g : Log) (cover : ℕ) → l ⊆ cover
        → Covered (statement (while e s) ∷ k) p cover → (row : ℕ) (x : Bool) → holds m e ≡ x
        → (final terms (suc b) (state (statement (while e s) ∷ k) m l p g)).said ≡ verdict 1 row → ⊥
    unstopped_loop e s m l p g cover sub (c, choice, after, ctx, solves, passes, low, cov) row = by
      where
        loop : ℕ
        loop = choice.0

        within : l ⊆ loop
        within i a = solves.0 i (sub i a)

        by : (x : Bool) → holds m e ≡ x → (final terms (suc b) (state (statement (while e s) ∷ k) m l p g)).said ≡ verdict 1 row → ⊥
        by true h =
            moved _ _ row (run_turn terms k m l p g b e s h)
            (onward (statement s ∷ close ∷ statement (while e s) ∷ k) m l _ (counted g) loop within (
              under e c loop,
              choice.1,
              loop,
              λ guards. inside e c l loop p ctx within (context_pushed (provisional (level l e)) p none guards),
              solves.2,
              passes,
              solves.1,
              close_covered (provisional (level l e)) p none (statement (while e s) ∷ k) loop (λ guards. none_subset loop)
                  (c, choice, after, ctx, (subset_refl loop, solves.1, solves.2), passes, low, cov),
            )
            row)
        by false h =
            moved _ _ row (run_leave terms k m l p g b e s h)
            (onward (close ∷ k) m l _ (counted g) after (λ i a. low i (within i a))
            (close_covered (provisional (level l e)) p (may_assign s) k after
            (λ guards i a.
            low i
            (solves.1 i
            (provisional_marks s choice.1 (under e c loop) loop (inside e c l loop p ctx within guards) solves.2 i (subset_union_right loop (may_assign s) i a))))
            cov)
            row)

    unstopped_output :
        (channel : ℕ) (e : Expr) (place : ℕ) (m : List ℕ) (l : ℕ) (p : List ℕ) (g : Log) (cover : ℕ) → l ⊆ cover
        → Covered (statement (output channel e place) ∷ k) p cover → (row : ℕ)
        → (final terms (suc b) (state (statement (output channel e place) ∷ k) m l p g)).said ≡ verdict 1 row → ⊥
    unstopped_output channel e place m l p g cover sub (c, choice, after, ctx, solves, passes, low, cov) row =
        by (denies channel e l p) (ltb (length g.records) terms.room) refl refl
      where
        contradiction : (x y z : Bool) → (x && y) ≡ true → (y ≡ true → z ≡ true) → cond (x && z) (place ∷ []) [] ≡ [] → ⊥
        contradiction true true true h f e = let q : ◌≡◌ {A = ℕ} 0 1 = cc in omega arith
        contradiction true true false h f e = true≢false (sym (f refl))
        contradiction true false z h f e = true≢false (sym h)
        contradiction false y z h f e = true≢false (sym h)

        by :
            (deny room : Bool) → (denies channel e l p) ≡ deny → ltb (length g.records) terms.room ≡ room
            → (final terms (suc b) (state (statement (output channel e place) ∷ k) m l p g)).said ≡ verdict 1 row → ⊥
        by true room h fits =
            λ d.
            contradiction (eqb channel 0) (provisional (level l e) || context p) (under e c cover) h (inside e c l cover p ctx sub) passes
        by false false h fits =
            moved _ _ row (run_roomless terms k m l p g b channel e place h fits) (other_verdict 3 place row (omega arith))
        by false true h fits =
            moved _ _ row (run_record terms k m l p g b channel e place h fits) (onward k m l p _ after (λ i a. low i (sub i a)) cov row)

    unstopped_close : Unstopped terms (suc b) (close ∷ k)
    unstopped_close m l [] g cover sub cov row =
        moved _ _ row (run_close_empty terms k m l [] g b) (onward k m l [] (counted g) cover sub cov row)
    unstopped_close m l (top ∷ p) g cover sub cov row =
        moved _ _ row (run_close terms k m l p g b top) (onward k m _ p (counted g) cover (union_least top l cover cov.0 sub) cov.1 row)

  unstopped_statement : (s : Stmt) (b : ℕ) → ((k : List Item) → Unstopped terms b k) → (k : List Item) → Unstopped terms (suc b) (statement s ∷ k)
  unstopped_statement skip b onward k m l p g cover sub (c, choice, after, ctx, solves, passes, low, cov) row =
      moved _ _ row (run_skip terms k m l p g b) (onward k m l p (counted g) after (λ i a. low i (sub i a)) cov row)
  unstopped_statement (assign v e) b onward k m l p g cover sub (c, choice, after, ctx, solves, passes, low, cov) row =
      moved _ _ row (run_assign terms k m l p g b v e)
      (onward k _ _ p (counted g) after
      (λ i a. low i (put_mono v (provisional (level l e) || context p) (under e c cover) l cover (under_mono e (context p) c l cover ctx sub) sub i a))
      cov row)
  unstopped_statement (sequence s t) b onward k m l p g cover sub (c, choice, after, ctx, solves, passes, low, cov) row =
      let both = nothing_failing (failing s choice.0 c cover) (failing t choice.1 c (result s choice.0 c cover)) passes in
      moved _ _ row (run_sequence terms k m l p g (suc b) s t)
      (unstopped_statement s b onward (statement t ∷ k) m l p g cover sub (
        c,
        choice.0,
        result s choice.0 c cover,
        ctx,
        solves.0,
        both.0,
        subset_refl (result s choice.0 c cover),
        (c, choice.1, after, ctx, solves.1, both.1, low, cov),
      )
      row)
  unstopped_statement (if e s t) b onward k m l p g cover sub cov row =
      unstopped_branch b onward k e s t m l p g cover sub cov row (holds m e) refl
  unstopped_statement (while e s) b onward k m l p g cover sub cov row =
      unstopped_loop b onward k e s m l p g cover sub cov row (holds m e) refl
  unstopped_statement (output channel e place) b onward k m l p g cover sub cov row =
      unstopped_output b onward k channel e place m l p g cover sub cov row

  unstopped : (b : ℕ) (k : List Item) → Unstopped terms b k
  unstopped zero [] = unstopped_done 0
  unstopped zero (item ∷ k) = unstopped_spent item k
  unstopped (suc b) [] = unstopped_done (suc b)
  unstopped (suc b) (statement s ∷ k) = unstopped_statement s b (unstopped b) k
  unstopped (suc b) (close ∷ k) = unstopped_close b (unstopped b) k

-- ---- the demand

passed_covers : (words : List ℕ) (marks : ℕ) → judge words ≡ Judged.Accepted → (advice words marks).said ≡ pass → Covered (statement (recipe (rows_of words)) ∷ []) [] marks
passed_covers words marks e passed =
    let s : Stmt = recipe (rows_of words) in
    let small : may_assign s < 2 ^ width = recipe_range words e in
    let clean : (walk s false marks).failing ≡ [] =
    (lowest_is_named (walk s false marks).failing).passes.0
    (checked_unique (checked_of (walk s false marks).failing) Checked.Pass
    (sym (ap (λ (x : Advised). x.said) (advice_accepted words marks e)) ∙ passed))
    in (
      false,
      solved s false marks,
      result s (solved s false marks) false marks,
      λ h. h,
      solved_solves s small false marks,
      solved_failing s small false marks ∙ clean,
      subset_refl (result s (solved s false marks) false marks),
      tt,
    )

pub passed_is_never_stopped : PassedIsNeverStopped
passed_is_never_stopped i row passed = by (call i)
  where
    by : Call i → (answer i).said ≡ verdict 1 row → ⊥
    by (ran e w) =
        moved _ _ row w
        (unstopped (terms_of (length i.trace)) i.budget (statement (recipe (rows_of i.words)) ∷ []) i.memory i.marks [] blank
        i.marks (subset_refl i.marks) (passed_covers i.words i.marks e passed) row)
    by (away number at w) = moved _ _ row w (λ f. let z : ◌≡◌ {A = ℕ} 0 1 = cc in omega arith)
