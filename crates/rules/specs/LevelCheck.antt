-- Section 8 of the rules: the walk that finds the least solution, and its answer.
use Rattle.std.specs.Prelude.{ℕ, zero, suc, ◌+◌, min, Bool, true, false, cond, ◌&&◌, List, [], ◌∷◌, ◌++◌, eqb}
use Rattle.rules.specs.declared.Checked.{Checked}
use Rattle.rules.specs.Limits.{width}
use Rattle.rules.specs.Marks.{put, union}
use Rattle.rules.specs.Trees.{Stmt, skip, assign, sequence, if, while, output}
use Rattle.rules.specs.LevelRules.{under}

-- What a walk over a statement gives: the marks after it, and its failing rows in reading order.
pub record Walked : Type 0 where
  pub marks : ℕ
  pub failing : List ℕ

abbrev pub walked : ℕ → List ℕ → Walked
walked marks failing = record { marks = marks; failing = failing }

-- a sequence: next walks on from the marks that the first statement left
abbrev pub joined : Walked → Walked → Walked
joined first second = walked second.marks (first.failing ++ second.failing)

abbrev pub afterwards : Walked → (ℕ → Walked) → Walked
afterwards first next = joined first (next first.marks)

-- 8.4: .. what they leave is united.
abbrev pub united : Walked → Walked → Walked
united then else = walked (union then.marks else.marks) (then.failing ++ else.failing)

-- whether the walk of the body added nothing; then it started from the final set, and its failing rows are the loop's
unfoldable pub rested : Bool → (ℕ → Walked) → ℕ → ℕ → List ℕ → Walked
rested true onward marks grown failing = walked marks failing
rested false onward marks grown failing = onward grown

unfoldable pub added : (ℕ → Walked) → ℕ → Walked → Walked
added onward marks turn =
    rested (eqb (union marks turn.marks) marks) onward marks (union marks turn.marks) turn.failing

-- The body is walked from the incoming set, what comes back is added, and it is walked again until nothing is added.
-- 8.5: What a while leaves is the least mark set that contains the marks before it and what its body leaves when it starts
-- with that set itself, ..
unfoldable pub rounds : ℕ → (ℕ → Walked) → ℕ → Walked
rounds zero body marks = walked marks []
rounds (suc n) body marks = added (rounds n body) marks (body marks)

-- Each walk of a loop's body but the last adds a variable, so one walk more than there are variables is enough.
abbrev pub walk : Stmt → Bool → ℕ → Walked
walk skip context marks = walked marks []
walk (assign v e) context marks = walked (put v (under e context marks) marks) []
walk (sequence s t) context marks = afterwards (walk s context marks) (walk t context)
walk (if e s t) context marks = united (walk s (under e context marks) marks) (walk t (under e context marks) marks)
walk (while e s) context marks = rounds (width + 1) (λ loop. walk s (under e context loop) loop) marks
walk (output channel e row) context marks = walked marks (cond (eqb channel 0 && under e context marks) (row ∷ []) [])

abbrev pub lowest_of : ℕ → List ℕ → ℕ
lowest_of row [] = row
lowest_of row (other ∷ rows) = lowest_of (min row other) rows

-- 8.7: The check passes where no output fails, and else fails at the lowest row that does; ..
abbrev pub checked_of : List ℕ → Checked
checked_of [] = Checked.Pass
checked_of (row ∷ rows) = Checked.Fail (lowest_of row rows)
