-- Runs that A to I do not cover, with everything that is expected of each: L to P, the whole case, a denied output with no
-- budget left, what a run is stopped because of, and runs that are refused.
use Rattle.std.specs.Prelude.{ℕ, ◌≡◌, List, [], ◌∷◌, replicate}
use Rattle.rules.specs.declared.Ended.{Ended}
use Rattle.rules.specs.Rows.{rows_of}
use Rattle.rules.specs.Trees.{recipe}
use Rattle.rules.specs.Running.{State, start, run, outcome}
use Rattle.rules.specs.Answers.{verdict, refused, pass, fail, reached, terms_of}
use Rattle.rules.specs.Cases.{words_of, Quad, memory_of, Case, Met, usual, usual_marks, usual_budget, usual_trace, recordless}

-- L. v1:=0; if v0 then (if v2 then v1:=1 else skip) else skip; output settled v1
abbrev table_l : List Quad
table_l =
    (8, 0, 0, 0) ∷ (1, 1, 0, 0)
    ∷ (9, 0, 0, 0) ∷ (9, 2, 0, 0) ∷ (8, 1, 0, 0) ∷ (1, 1, 4, 0) ∷ (0, 0, 0, 0) ∷ (3, 3, 5, 6) ∷ (0, 0, 0, 0) ∷ (3, 2, 7, 8)
    ∷ (9, 1, 0, 0) ∷ (5, 0, 10, 0)
    ∷ (2, 9, 11, 0) ∷ (2, 1, 12, 0)
    ∷ []

-- M. if v0 then (if v2 then v1:=1 else skip; output settled 5) else v3:=1
abbrev table_m : List Quad
table_m =
    (9, 0, 0, 0)
    ∷ (9, 2, 0, 0) ∷ (8, 1, 0, 0) ∷ (1, 1, 2, 0) ∷ (0, 0, 0, 0) ∷ (3, 1, 3, 4)
    ∷ (8, 5, 0, 0) ∷ (5, 0, 6, 0) ∷ (2, 5, 7, 0)
    ∷ (8, 1, 0, 0) ∷ (1, 3, 9, 0)
    ∷ (3, 0, 8, 10)
    ∷ []

-- N. while v0 do (output settled 5; v0:=v0-1)
abbrev table_n : List Quad
table_n =
    (9, 0, 0, 0)
    ∷ (8, 5, 0, 0) ∷ (5, 0, 1, 0)
    ∷ (9, 0, 0, 0) ∷ (8, 1, 0, 0) ∷ (10, 1, 3, 4) ∷ (1, 0, 5, 0)
    ∷ (2, 2, 6, 0) ∷ (4, 0, 7, 0)
    ∷ []

-- O. if v0 then skip else (v2:=1; while v3 do if v4 then skip else v1:=1)
abbrev table_o : List Quad
table_o =
    (9, 0, 0, 0) ∷ (0, 0, 0, 0)
    ∷ (8, 1, 0, 0) ∷ (1, 2, 2, 0)
    ∷ (9, 3, 0, 0) ∷ (9, 4, 0, 0) ∷ (0, 0, 0, 0) ∷ (8, 1, 0, 0) ∷ (1, 1, 7, 0) ∷ (3, 5, 6, 8) ∷ (4, 4, 9, 0)
    ∷ (2, 3, 10, 0) ∷ (3, 0, 1, 11)
    ∷ []

-- P. while v2 do (output settled v1; v1:=v0)
abbrev table_p : List Quad
table_p = (9, 2, 0, 0) ∷ (9, 1, 0, 0) ∷ (5, 0, 1, 0) ∷ (9, 0, 0, 0) ∷ (1, 1, 3, 0) ∷ (2, 2, 4, 0) ∷ (4, 0, 5, 0) ∷ []

-- the whole case: output settled v0; output provisional v1
abbrev table_whole : List Quad
table_whole = (9, 0, 0, 0) ∷ (5, 0, 0, 0) ∷ (9, 1, 0, 0) ∷ (5, 1, 2, 0) ∷ (2, 1, 3, 0) ∷ []

-- output settled v0
abbrev table_denied : List Quad
table_denied = (9, 0, 0, 0) ∷ (5, 0, 0, 0) ∷ []

-- output settled v0 + (v1 + v2)
abbrev table_sum : List Quad
table_sum = (9, 0, 0, 0) ∷ (9, 1, 0, 0) ∷ (9, 2, 0, 0) ∷ (10, 0, 1, 2) ∷ (10, 0, 0, 3) ∷ (5, 0, 4, 0) ∷ []

-- if v0 then output settled v1 else v2:=0
abbrev table_inside : List Quad
table_inside = (9, 0, 0, 0) ∷ (9, 1, 0, 0) ∷ (5, 0, 1, 0) ∷ (8, 0, 0, 0) ∷ (1, 2, 3, 0) ∷ (3, 0, 2, 4) ∷ []

-- output provisional v0
abbrev table_shown : List Quad
table_shown = (9, 0, 0, 0) ∷ (5, 1, 0, 0) ∷ []

-- v0:=0
abbrev table_settled : List Quad
table_settled = (8, 0, 0, 0) ∷ (1, 0, 0, 0) ∷ []

-- a skip that is a child of no row, and v0:=0
abbrev table_refused : List Quad
table_refused = (0, 0, 0, 0) ∷ (8, 0, 0, 0) ∷ (1, 0, 1, 0) ∷ []

-- v0 is 1, and the other variables are 0
abbrev one : List ℕ
one = 1 ∷ []

-- L: verdict 1 because of v1, 6 steps, marks 3
abbrev run_l : Case
run_l = recordless (usual table_l one) (verdict 1 11) 2 6 one 3 (fail 11) 3

-- M: verdict 1 because of no variable, 4 steps, marks 3
abbrev run_m : Case
run_m = recordless (usual table_m one) (verdict 1 7) 0 4 one 3 (fail 7) 11

-- N: verdict 1 because of no variable, 1 step
abbrev run_n : Case
run_n = recordless (usual table_n one) (verdict 1 2) 0 1 one 1 (fail 2) 1

-- O: verdict 0, 3 steps, marks 7
abbrev run_o : Case
run_o = recordless (usual table_o one) (verdict 0 0) 0 3 one 7 pass 7

-- P: the check fails, marks 3; its run does not enter the loop
abbrev run_p : Case
run_p = recordless (usual table_p one) (verdict 0 0) 0 2 one 1 (fail 2) 3

abbrev run_whole : Case
run_whole = record {
  given = record { table = table_whole; memory = 7 ∷ 9 ∷ []; marks = 2; budget = 10; trace = 70 ∷ 71 ∷ 72 ∷ 73 ∷ [] };
  expected = record {
    whole = record {
      said = verdict 0 0;
      because = 0;
      steps = 2;
      records = record { channel = 0; value = 7 } ∷ record { channel = 1; value = 9 } ∷ [];
      memory = memory_of (7 ∷ 9 ∷ []);
      marks = 2;
    };
    trace = 0 ∷ 7 ∷ 1 ∷ 9 ∷ [];
    advised = record { said = pass; marks = 2 };
  };
}

-- 6.2: .. in this order: the budget is used up, and the run is spent; the step is an output that is denied, ..
abbrev run_denied : Case
run_denied =
    recordless
    (record { table = table_denied; memory = one; marks = usual_marks; budget = 0; trace = usual_trace })
    (verdict 2 0) 0 0 one 1 (fail 1) 1

-- v1 is read and not marked, v3 is marked and not read
-- 12.14: `output settled v0 + (v1 + v2)` is stopped because of v0 and v2 where v0, v2 and v3 are marked; ..
abbrev run_sum : Case
run_sum =
    recordless
    (record { table = table_sum; memory = one; marks = 13; budget = usual_budget; trace = usual_trace })
    (verdict 1 5) 5 0 one 13 (fail 5) 13

-- the test read v0, and v2 is in the pile
-- 12.14: .. `if v0 then output settled v1 else v2:=0` with v0 = 1 because of v1 alone where v0 and v1 are; ..
abbrev run_inside : Case
run_inside =
    recordless
    (record { table = table_inside; memory = one; marks = 3; budget = usual_budget; trace = usual_trace })
    (verdict 1 2) 2 1 one 3 (fail 2) 7

-- 12.14: .. `output provisional v0` with no room ends because of no variable.
abbrev run_shown : Case
run_shown =
    recordless
    (record { table = table_shown; memory = one; marks = usual_marks; budget = usual_budget; trace = [] })
    (verdict 3 1) 0 0 one 1 pass 1

-- 4.8: A refused run answers the refusal's number and row in place of a verdict and a place, with 0 steps and 0 records,
-- and memory, mark set and trace are as they were given.
-- 4.9: .. a refused check answers the mark set that it was given.
abbrev run_refused : Case
run_refused = recordless (usual table_refused one) (refused 4 0) 0 0 one 1 (refused 4 0) 1

-- one trace word too many: 6 for the run, nothing for the level check
abbrev run_oversized : Case
run_oversized =
    recordless
    (record { table = table_settled; memory = one; marks = usual_marks; budget = usual_budget; trace = replicate 16385 0 })
    (refused 6 0) 0 0 one 1 pass 0

-- 4 before 6
-- 4.7: Of the refusals 1 to 6 that apply anywhere, the one with the lowest number is given, ..
abbrev run_both : Case
run_both =
    recordless
    (record { table = table_refused; memory = one; marks = usual_marks; budget = usual_budget; trace = replicate 16385 0 })
    (refused 4 0) 0 0 one 1 (refused 4 0) 1

unfoldable pub further : List Case
further = run_l ∷ run_m ∷ run_n ∷ run_o ∷ run_p ∷ run_whole ∷ run_denied ∷ run_sum ∷ run_inside ∷ run_shown ∷ run_refused ∷ run_oversized ∷ run_both ∷ []

-- The claim: every one of these runs comes out whole as expected.
abbrev pub Further : Type 0
Further = Met further

-- output settled 5; output settled 6
abbrev table_two : List Quad
table_two = (8, 5, 0, 0) ∷ (5, 0, 0, 0) ∷ (8, 6, 0, 0) ∷ (5, 0, 2, 0) ∷ (2, 1, 3, 0) ∷ []

unfoldable pub two_outputs : State
two_outputs = start (recipe (rows_of (words_of table_two))) (memory_of []) 0

-- The claim: with no room the run ends at the first output, in the state in which it was; gone on with from there, with room for
-- two records, it writes both.
abbrev pub RoomlessGoesOn : Type 0
RoomlessGoesOn =
    (run (terms_of 0) 10 two_outputs ≡ outcome (Ended.NoRoom 1) two_outputs)
    × (reached (run (terms_of 4) 10 (run (terms_of 0) 10 two_outputs).state)
    ≡ record {
      said = verdict 0 0;
      because = 0;
      steps = 2;
      records = record { channel = 0; value = 5 } ∷ record { channel = 0; value = 6 } ∷ [];
      memory = memory_of [];
      marks = 0;
    })
