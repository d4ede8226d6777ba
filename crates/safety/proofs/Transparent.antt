-- Demand 2: a run that ends done has the records, memory and steps of the unwatched language.
use Prim.Native.Nat.{ℕ, zero, suc}
use native.Mathlib.Omega.{arith}
use mathlib.Core.Bool.{Bool, true, false}
use mathlib.Core.List.{List, [], ◌∷◌}
use mathlib.Core.Path.{◌≡◌, refl, sym, ap, ◌∙◌, subst}
use lib.Dec.{ltb}
use lib.ListN.{length}
use Rattle.rules.specs.Rows.{rows_of}
use Rattle.rules.specs.Trees.{Expr, Stmt, skip, assign, sequence, if, while, output, recipe}
use Rattle.rules.specs.Values.{holds}
use Rattle.rules.specs.Running.{Item, statement, close, Log, state, blank, Terms, counted, denies}
use Rattle.rules.specs.Unwatched.{Plain, PlainOutcome, plain_run}
use Rattle.rules.specs.Answers.{refused, verdict, Whole, final, answer, terms_of}
use Rattle.rules.proofs.RunLaws.{run_done, run_spent, run_sequence, run_skip, run_assign, run_close_empty, run_close, run_then, run_else, run_turn, run_leave, run_denied_lem, run_roomless, run_record}
use Rattle.rules.proofs.PlainLaws.{plain, plain_start_lem, plain_done, plain_sequence, plain_skip, plain_assign, plain_if, plain_while, plain_output, plain_close}
use Rattle.rules.proofs.AnswerLaws.{Call, ran, away, call}
use Rattle.safety.specs.Demands.{SameRun, unwatched, DoneIsUnwatched}
use Rattle.safety.proofs.Region.{not_done}

-- the unwatched state beside one with these items, memory and log
abbrev beside : List Item → List ℕ → Log → Plain
beside k m g = plain k m g.records g.steps

-- the run with this budget and these items pending, if it is done, is the unwatched one
abbrev Agrees : Terms → ℕ → List Item → Type 0
Agrees terms b k =
    (m : List ℕ) (l : ℕ) (p : List ℕ) (g : Log) → (final terms b (state k m l p g)).said ≡ verdict 0 0
    → SameRun (final terms b (state k m l p g)) (plain_run b (beside k m g))

-- both runs in another form
moved :
    (w₁ w : Whole) (o₁ o : PlainOutcome) → w₁ ≡ w → o₁ ≡ o → (w.said ≡ verdict 0 0 → SameRun w o) → w₁.said ≡ verdict 0 0 → SameRun w₁ o₁
moved w₁ w o₁ o e f same d =
    subst (λ (x : Whole). SameRun x o₁) (sym e) (subst (SameRun w) (sym f) (same (sym (ap (λ (x : Whole). x.said) e) ∙ d)))

module _ (terms : Terms) where
  agrees_done : (b : ℕ) → Agrees terms b []
  agrees_done b m l p g =
      moved _ _ _ _ (run_done terms [] m l p g b) (plain_done m _ _ b)
      (λ d. record { done = refl; memory = refl; records = refl; steps = refl })

  agrees_spent : (item : Item) (k : List Item) → Agrees terms 0 (item ∷ k)
  agrees_spent item k m l p g d =
      absurd (not_done 2 0 (omega arith) (sym (ap (λ (x : Whole). x.said) (run_spent terms k m l p g item)) ∙ d))

  module _ (b : ℕ) (onward : (k : List Item) → Agrees terms b k) (k : List Item) where
    agrees_if : (e : Expr) (s t : Stmt) (x : Bool) (m : List ℕ) → holds m e ≡ x → (l : ℕ) (p : List ℕ) (g : Log)
        → (final terms (suc b) (state (statement (if e s t) ∷ k) m l p g)).said ≡ verdict 0 0
        → SameRun (final terms (suc b) (state (statement (if e s t) ∷ k) m l p g)) (plain_run (suc b) (beside (statement (if e s t) ∷ k) m g))
    agrees_if e s t true m h l p g =
        moved _ _ _ _ (run_then terms k m l p g b e s t h) (plain_if m _ _ b k e s t true h) (onward (statement s ∷ close ∷ k) m l _ (counted g))
    agrees_if e s t false m h l p g =
        moved _ _ _ _ (run_else terms k m l p g b e s t h) (plain_if m _ _ b k e s t false h) (onward (statement t ∷ close ∷ k) m l _ (counted g))

    agrees_while : (e : Expr) (s : Stmt) (x : Bool) (m : List ℕ) → holds m e ≡ x → (l : ℕ) (p : List ℕ) (g : Log)
        → (final terms (suc b) (state (statement (while e s) ∷ k) m l p g)).said ≡ verdict 0 0
        → SameRun (final terms (suc b) (state (statement (while e s) ∷ k) m l p g)) (plain_run (suc b) (beside (statement (while e s) ∷ k) m g))
    agrees_while e s true m h l p g =
        moved _ _ _ _ (run_turn terms k m l p g b e s h) (plain_while m _ _ b k e s true h)
        (onward (statement s ∷ close ∷ statement (while e s) ∷ k) m l _ (counted g))
    agrees_while e s false m h l p g =
        moved _ _ _ _ (run_leave terms k m l p g b e s h) (plain_while m _ _ b k e s false h) (onward (close ∷ k) m l _ (counted g))

    agrees_output : (channel : ℕ) (e : Expr) (row : ℕ) → Agrees terms (suc b) (statement (output channel e row) ∷ k)
    agrees_output channel e row m l p g d = by (denies channel e l p) (ltb (length g.records) terms.room) refl refl
      where
        by :
            (deny room : Bool) → (denies channel e l p) ≡ deny → ltb (length g.records) terms.room ≡ room
            → SameRun (final terms (suc b) (state (statement (output channel e row) ∷ k) m l p g))
            (plain_run (suc b) (beside (statement (output channel e row) ∷ k) m g))
        by true room h fits =
            absurd (not_done 1 row (omega arith) (sym (ap (λ (x : Whole). x.said) (run_denied_lem terms k m l p g b channel e row h)) ∙ d))
        by false false h fits =
            absurd (not_done 3 row (omega arith) (sym (ap (λ (x : Whole). x.said) (run_roomless terms k m l p g b channel e row h fits)) ∙ d))
        by false true h fits =
            moved _ _ _ _ (run_record terms k m l p g b channel e row h fits) (plain_output m _ _ b k channel e row) (onward k m l p _) d

    agrees_close : Agrees terms (suc b) (close ∷ k)
    agrees_close m l [] g = moved _ _ _ _ (run_close_empty terms k m l [] g b) (plain_close m _ _ b k) (onward k m l [] (counted g))
    agrees_close m l (top ∷ p) g = moved _ _ _ _ (run_close terms k m l p g b top) (plain_close m _ _ b k) (onward k m _ p (counted g))

  agrees_statement : (s : Stmt) (b : ℕ) → ((k : List Item) → Agrees terms b k) → (k : List Item) → Agrees terms (suc b) (statement s ∷ k)
  agrees_statement skip b onward k m l p g =
      moved _ _ _ _ (run_skip terms k m l p g b) (plain_skip m _ _ b k) (onward k m l p (counted g))
  agrees_statement (assign v e) b onward k m l p g =
      moved _ _ _ _ (run_assign terms k m l p g b v e) (plain_assign m _ _ b k v e) (onward k _ _ p (counted g))
  agrees_statement (sequence s t) b onward k m l p g =
      moved _ _ _ _ (run_sequence terms k m l p g (suc b) s t) (plain_sequence m _ _ b k s t)
      (agrees_statement s b onward (statement t ∷ k) m l p g)
  agrees_statement (if e s t) b onward k m l p g = agrees_if b onward k e s t (holds m e) m refl l p g
  agrees_statement (while e s) b onward k m l p g = agrees_while b onward k e s (holds m e) m refl l p g
  agrees_statement (output channel e row) b onward k m l p g = agrees_output b onward k channel e row m l p g

  agrees : (b : ℕ) (k : List Item) → Agrees terms b k
  agrees zero [] = agrees_done 0
  agrees zero (item ∷ k) = agrees_spent item k
  agrees (suc b) [] = agrees_done (suc b)
  agrees (suc b) (statement s ∷ k) = agrees_statement s b (agrees b) k
  agrees (suc b) (close ∷ k) = agrees_close b (agrees b) k

pub done_is_unwatched : DoneIsUnwatched
done_is_unwatched i d = by (call i)
  where
    by : Call i → SameRun (answer i) (unwatched i)
    by (ran e w) =
        moved _ _ _ _ w (ap (plain_run i.budget) (plain_start_lem i.words i.memory))
        (agrees (terms_of (length i.trace)) i.budget (statement (recipe (rows_of i.words)) ∷ []) i.memory i.marks [] blank) d
    by (away number row w) = absurd (let f : refused number row ≡ verdict 0 0 = sym (ap (λ (x : Whole). x.said) w) ∙ d in let z : ◌≡◌ {A = ℕ} 0 1 = cc in omega arith)
