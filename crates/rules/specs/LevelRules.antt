-- Section 8 of the rules: the flow-sensitive rules of Hunt and Sands as they are declared, apart from any way to solve
-- them.
use Rattle.std.specs.Prelude.{ℕ, Bool, cond, ◌||◌, ◌&&◌, List, [], ◌∷◌, ◌++◌, eqb}
use Rattle.rules.specs.Marks.{put, union, ◌⊆◌, provisional}
use Rattle.rules.specs.Trees.{Expr, Stmt, skip, assign, sequence, if, while, output}
use Rattle.rules.specs.Values.{level}

-- 8.2: An expression is guarded here where it is provisional under the marks, or the context is provisional.
abbrev pub under : Expr → Bool → ℕ → Bool
under e context marks = provisional (level marks e) || context

-- A choice of mark sets, one for each loop of the statement.
abbrev pub Choice : Stmt → Type 0
Choice skip = Unit {0}
Choice (assign v e) = Unit {0}
Choice (sequence s t) = Choice s × Choice t
Choice (if e s t) = Choice s × Choice t
Choice (while e s) = ℕ × Choice s
Choice (output c e row) = Unit {0}

-- What the statement makes of the incoming marks, in a context, where each loop's result is the set chosen for it.
-- 8.3: Skip leaves the marks as they are; assign marks its variable where the expression is guarded and else unmarks it;
-- the second statement of a sequence starts with the marks that the first leaves.
-- 8.4: Both branches of an if start with the same marks, in a provisional context where the test is guarded; what they
-- leave is united.
abbrev pub result : (s : Stmt) → Choice s → Bool → ℕ → ℕ
result skip choice context marks = marks
result (assign v e) choice context marks = put v (under e context marks) marks
result (sequence s t) choice context marks = result t choice.1 context (result s choice.0 context marks)
result (if e s t) choice context marks =
    union (result s choice.0 (under e context marks) marks) (result t choice.1 (under e context marks) marks)
result (while e s) choice context marks = choice.0
result (output c e row) choice context marks = marks

-- The choice is a solution: each loop's set contains what the sentence says.
-- 8.5: What a while leaves is the least mark set that contains the marks before it and what its body leaves when it starts
-- with that set itself, in a provisional context where the test is guarded under that set.
abbrev pub Solves : (s : Stmt) → Choice s → Bool → ℕ → Type 0
Solves skip choice context marks = Unit {0}
Solves (assign v e) choice context marks = Unit {0}
Solves (sequence s t) choice context marks =
    Solves s choice.0 context marks × Solves t choice.1 context (result s choice.0 context marks)
Solves (if e s t) choice context marks =
    Solves s choice.0 (under e context marks) marks × Solves t choice.1 (under e context marks) marks
Solves (while e s) choice context marks =
    (marks ⊆ choice.0) × (result s choice.1 (under e context choice.0) choice.0 ⊆ choice.0)
    × Solves s choice.1 (under e context choice.0) choice.0
Solves (output c e row) choice context marks = Unit {0}

-- One choice is contained in another: each loop's set in the other's.
abbrev pub Within : (s : Stmt) → Choice s → Choice s → Type 0
Within skip a b = Unit {0}
Within (assign v e) a b = Unit {0}
Within (sequence s t) a b = Within s a.0 b.0 × Within t a.1 b.1
Within (if e s t) a b = Within s a.0 b.0 × Within t a.1 b.1
Within (while e s) a b = (a.0 ⊆ b.0) × Within s a.1 b.1
Within (output c e row) a b = Unit {0}

-- the failing rows, in reading order
-- 8.6: An output leaves the marks as they are, and it fails where its channel is 0 and its expression guarded; within loops
-- this is asked under the sets that the loops leave.
abbrev pub failing : (s : Stmt) → Choice s → Bool → ℕ → List ℕ
failing skip choice context marks = []
failing (assign v e) choice context marks = []
failing (sequence s t) choice context marks =
    failing s choice.0 context marks ++ failing t choice.1 context (result s choice.0 context marks)
failing (if e s t) choice context marks =
    failing s choice.0 (under e context marks) marks ++ failing t choice.1 (under e context marks) marks
failing (while e s) choice context marks = failing s choice.1 (under e context choice.0) choice.0
failing (output channel e row) choice context marks = cond (eqb channel 0 && under e context marks) (row ∷ []) []
