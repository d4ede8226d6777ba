-- Section 12 of the rules: the runs A to I, with everything that is expected of each.
use Rattle.std.specs.Prelude.{ℕ, List, [], ◌∷◌}
use Rattle.rules.specs.Answers.{verdict, pass, fail}
use Rattle.rules.specs.Cases.{Quad, memory_of, Case, Met, usual, usual_marks, usual_budget, usual_trace, recordless}

-- v2:=1; v1:=0; if v0 then v1:=1 else skip; if v1=0 then v2:=0 else skip; output settled v2
abbrev table_a : List Quad
table_a =
    (8, 1, 0, 0) ∷ (1, 2, 0, 0)
    ∷ (8, 0, 0, 0) ∷ (1, 1, 2, 0)
    ∷ (9, 0, 0, 0) ∷ (8, 1, 0, 0) ∷ (1, 1, 5, 0) ∷ (0, 0, 0, 0) ∷ (3, 4, 6, 7)
    ∷ (9, 1, 0, 0) ∷ (8, 0, 0, 0) ∷ (10, 4, 9, 10) ∷ (8, 0, 0, 0) ∷ (1, 2, 12, 0) ∷ (0, 0, 0, 0) ∷ (3, 11, 13, 14)
    ∷ (9, 2, 0, 0) ∷ (5, 0, 16, 0)
    ∷ (2, 15, 17, 0) ∷ (2, 8, 18, 0) ∷ (2, 3, 19, 0) ∷ (2, 1, 20, 0)
    ∷ []

-- output settled v0 - v0
abbrev table_b : List Quad
table_b = (9, 0, 0, 0) ∷ (9, 0, 0, 0) ∷ (10, 1, 0, 1) ∷ (5, 0, 2, 0) ∷ []

-- v0:=0; if v0 then v1:=1 else skip; output settled v1
abbrev table_c : List Quad
table_c =
    (8, 0, 0, 0) ∷ (1, 0, 0, 0)
    ∷ (9, 0, 0, 0) ∷ (8, 1, 0, 0) ∷ (1, 1, 3, 0) ∷ (0, 0, 0, 0) ∷ (3, 2, 4, 5)
    ∷ (9, 1, 0, 0) ∷ (5, 0, 7, 0)
    ∷ (2, 6, 8, 0) ∷ (2, 1, 9, 0)
    ∷ []

-- skip
abbrev table_d : List Quad
table_d = (0, 0, 0, 0) ∷ []

-- while v0 do v0:=v0 - 1
abbrev table_e : List Quad
table_e = (9, 0, 0, 0) ∷ (9, 0, 0, 0) ∷ (8, 1, 0, 0) ∷ (10, 1, 1, 2) ∷ (1, 0, 3, 0) ∷ (4, 0, 4, 0) ∷ []

-- while v0 do v1:=1
abbrev table_f : List Quad
table_f = (9, 0, 0, 0) ∷ (8, 1, 0, 0) ∷ (1, 1, 1, 0) ∷ (4, 0, 2, 0) ∷ []

-- if v0 then output settled 5 else skip
abbrev table_g : List Quad
table_g = (9, 0, 0, 0) ∷ (8, 5, 0, 0) ∷ (5, 0, 1, 0) ∷ (0, 0, 0, 0) ∷ (3, 0, 2, 3) ∷ []

-- v1:=1; if v1=0 then output settled v0 else skip
abbrev table_h : List Quad
table_h =
    (8, 1, 0, 0) ∷ (1, 1, 0, 0)
    ∷ (9, 1, 0, 0) ∷ (8, 0, 0, 0) ∷ (10, 4, 2, 3) ∷ (9, 0, 0, 0) ∷ (5, 0, 5, 0) ∷ (0, 0, 0, 0) ∷ (3, 4, 6, 7)
    ∷ (2, 1, 8, 0)
    ∷ []

-- output settled 5
abbrev table_i : List Quad
table_i = (8, 5, 0, 0) ∷ (5, 0, 0, 0) ∷ []

-- 12.2: A: `v2:=1; v1:=0; if v0 then v1:=1 else skip; if v1=0 then v2:=0 else skip; output settled v2` is stopped after 8
-- steps because of v2, with no record and marks 7, for v0 = 0 and for v0 = 1.
abbrev run_a : ℕ → List ℕ → Case
run_a v0 memory = recordless (usual table_a (v0 ∷ [])) (verdict 1 17) 4 8 memory 7 (fail 17) 7

-- 12.3: B: `output settled v0 - v0` is stopped after 0 steps because of v0.
abbrev run_b : Case
run_b = recordless (usual table_b []) (verdict 1 3) 1 0 [] 1 (fail 3) 1

-- 12.4: C: `v0:=0; if v0 then v1:=1 else skip; output settled v1` is done after 5 steps with marks 0.
abbrev run_c : Case
run_c = record {
  given = usual table_c [];
  expected = record {
    whole = record { said = verdict 0 0; because = 0; steps = 5; records = record { channel = 0; value = 0 } ∷ []; memory = memory_of []; marks = 0 };
    trace = 0 ∷ 0 ∷ 72 ∷ 73 ∷ 74 ∷ 75 ∷ 76 ∷ 77 ∷ 78 ∷ 79 ∷ 80 ∷ 81 ∷ 82 ∷ 83 ∷ 84 ∷ 85 ∷ [];
    advised = record { said = pass; marks = 0 };
  };
}

-- 12.5: D: `skip` is spent with budget 0, and done after 1 step with budget 1.
abbrev run_d₀ : Case
run_d₀ =
    recordless
    (record { table = table_d; memory = []; marks = usual_marks; budget = 0; trace = usual_trace })
    (verdict 2 0) 0 0 [] 1 pass 1

abbrev run_d₁ : Case
run_d₁ =
    recordless
    (record { table = table_d; memory = []; marks = usual_marks; budget = 1; trace = usual_trace })
    (verdict 0 0) 0 1 [] 1 pass 1

-- 12.6: E: `while v0 do v0:=v0 - 1` with v0 = 3 is done after 11 steps, and spent with budget 10.
abbrev run_e : Case
run_e = recordless (usual table_e (3 ∷ [])) (verdict 0 0) 0 11 [] 1 pass 1

abbrev run_e₁₀ : Case
run_e₁₀ =
    recordless
    (record { table = table_e; memory = 3 ∷ []; marks = usual_marks; budget = 10; trace = usual_trace })
    (verdict 2 0) 0 10 [] 1 pass 1

-- 12.7: F: `while v0 do v1:=1` with v0 = 0 is done after 2 steps with marks 3, and v1 is what it was.
abbrev run_f : Case
run_f = recordless (usual table_f []) (verdict 0 0) 0 2 [] 3 pass 3

-- 12.8: G: `if v0 then output settled 5 else skip` is stopped after 1 step because of no variable with v0 = 1,
-- and done after 3 with v0 = 0.
abbrev run_g₁ : Case
run_g₁ = recordless (usual table_g (1 ∷ [])) (verdict 1 2) 0 1 (1 ∷ []) 1 (fail 2) 1

abbrev run_g₀ : Case
run_g₀ = recordless (usual table_g []) (verdict 0 0) 0 3 [] 1 (fail 2) 1

-- 12.9: H: `v1:=1; if v1=0 then output settled v0 else skip` is done after 4 steps, and the level check fails it.
abbrev run_h : Case
run_h = recordless (usual table_h []) (verdict 0 0) 0 4 (0 ∷ 1 ∷ []) 1 (fail 6) 1

-- 12.10: I: `output settled 5` ends without room where the trace has 1 word; B is stopped because of v0 with
-- no room too.
abbrev run_i₁ : Case
run_i₁ =
    recordless
    (record { table = table_i; memory = []; marks = usual_marks; budget = usual_budget; trace = 70 ∷ [] })
    (verdict 3 1) 0 0 [] 1 pass 1

abbrev run_i₀ : Case
run_i₀ =
    recordless
    (record { table = table_b; memory = []; marks = usual_marks; budget = usual_budget; trace = [] })
    (verdict 1 3) 1 0 [] 1 (fail 3) 1

unfoldable pub starred : List Case
starred =
    run_a 0 [] ∷ run_a 1 (1 ∷ 1 ∷ 1 ∷ []) ∷ run_b ∷ run_c ∷ run_d₀ ∷ run_d₁ ∷ run_e ∷ run_e₁₀ ∷ run_f ∷ run_g₁ ∷ run_g₀ ∷ run_h ∷ run_i₁ ∷ run_i₀ ∷ []

-- The claim: every starred run comes out whole as expected.
abbrev pub Starred : Type 0
Starred = Met starred
