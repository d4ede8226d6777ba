-- J and K of the rules, a case for each refusal that a table can meet, and a recipe of 512 rows run and checked.
use Rattle.std.specs.Prelude.{ℕ, zero, suc, ◌+◌, ◌-◌, List, [], ◌∷◌, ◌++◌, map, ◌≡◌, false, length, replicate}
use Rattle.rules.specs.declared.Operator.{Operator}
use Rattle.rules.specs.Rows.{rows_of}
use Rattle.rules.specs.Trees.{Stmt, recipe}
use Rattle.rules.specs.Values.{operate}
use Rattle.rules.specs.Running.{start, run}
use Rattle.rules.specs.LevelCheck.{walk}
use Rattle.rules.specs.Answers.{Said, accepted, refused, verdict, judgement, inputs, answer, reached, terms_of}
use Rattle.rules.specs.Cases.{Quad, words_of, memory_of}

-- an operator, its two sides, and the value that they give
abbrev pub Operation : Type 0
Operation = Operator × ℕ × ℕ × ℕ

-- 12.11: J: 4,294,967,295 + 1 is 0, 0 - 1 is 4,294,967,295, and 5 / 0 is 4,294,967,295.
abbrev case_j : List Operation
case_j = (Operator.Sum, 4294967295, 1, 0) ∷ (Operator.Difference, 0, 1, 4294967295) ∷ (Operator.Quotient, 5, 0, 4294967295) ∷ []

-- 3.2: .. product are modulo 2^32.
-- 3.3: The quotient is rounded down, and it is 4,294,967,295 where the divisor is 0, whatever the dividend.
-- 3.4: Equal and less give 1 where the left side is equal to or less than the right one, and else 0.
abbrev other_operations : List Operation
other_operations =
    (Operator.Product, 4294967295, 4294967295, 1)
    ∷ (Operator.Product, 4294967295, 2, 4294967294)
    ∷ (Operator.Product, 3, 5, 15)
    ∷ (Operator.Quotient, 7, 2, 3)
    ∷ (Operator.Quotient, 0, 0, 4294967295)
    ∷ (Operator.Quotient, 0, 5, 0)
    ∷ (Operator.Equal, 2, 2, 1)
    ∷ (Operator.Equal, 1, 2, 0)
    ∷ (Operator.Equal, 2, 1, 0)
    ∷ (Operator.Less, 1, 2, 1)
    ∷ (Operator.Less, 2, 1, 0)
    ∷ (Operator.Less, 2, 2, 0)
    ∷ []

unfoldable pub operations : List Operation
operations = case_j ++ other_operations

-- The claim: every operation gives the value that is expected.
abbrev pub CaseJ : Type 0
CaseJ = map (λ (o : Operation). operate o.0 o.1 o.2) operations ≡ map (λ (o : Operation). o.3) operations

-- a table that is grown row by row: level adds rows on top of a table whose last row it is given
unfoldable pub grown : ℕ → (ℕ → List Quad) → List Quad → List Quad
grown zero level rows = rows
grown (suc n) level rows = grown n level (rows ++ level (length rows - 1))

-- v0:=0, and then so many times a skip after it: two rows, and two more for each skip
abbrev long : ℕ → List Quad
long n = grown n (λ last. (0, 0, 0, 0) ∷ (2, last, last + 1, 0) ∷ []) ((8, 0, 0, 0) ∷ (1, 0, 0, 0) ∷ [])

-- output settled 0 + 0 + .. + 0, an expression of one level and so many more
abbrev high : ℕ → List Quad
high n = output (grown n (λ last. (8, 0, 0, 0) ∷ (10, 0, last, last + 1) ∷ []) ((8, 0, 0, 0) ∷ []))
  where
    output : List Quad → List Quad
    output rows = rows ++ ((5, 0, length rows - 1, 0) ∷ [])

-- a skip under so many ifs, and under so many loops
abbrev ifs : ℕ → List Quad
ifs n = grown n (λ last. (9, 0, 0, 0) ∷ (0, 0, 0, 0) ∷ (3, last + 1, last, last + 2) ∷ []) ((0, 0, 0, 0) ∷ [])

abbrev loops : ℕ → List Quad
loops n = grown n (λ last. (9, 0, 0, 0) ∷ (4, last + 1, last, 0) ∷ []) ((0, 0, 0, 0) ∷ [])

pub record Judgement : Type 0 where
  pub words : List ℕ
  pub said : Said

abbrev table : List Quad → Said → Judgement
table rows said = record { words = words_of rows; said = said }

-- 12.12: K: 512 rows are accepted and 513 refused by 1; height 16, nesting 8 and loop nesting 3 are accepted, and 17, 9 and
-- 4 refused by 5; ..
abbrev at_the_limits : List Judgement
at_the_limits =
    table (long 255) accepted
    ∷ record { words = replicate 2052 0; said = refused 1 0 }
    ∷ table (high 15) accepted
    ∷ table (high 16) (refused 5 32)
    ∷ table (ifs 8) accepted
    ∷ table (ifs 9) (refused 5 27)
    ∷ table (loops 3) accepted
    ∷ table (loops 4) (refused 5 8)
    ∷ []

abbrev bad_tables : List Judgement
bad_tables =
    -- no words; words that make no whole row
    record { words = []; said = refused 1 0 }
    ∷ record { words = 0 ∷ 0 ∷ 0 ∷ []; said = refused 1 0 }
    -- an unknown kind; a variable, channel or operator out of range; an unnamed word that is not 0
    ∷ table ((6, 0, 0, 0) ∷ []) (refused 2 0)
    ∷ table ((4294967295, 4294967295, 4294967295, 4294967295) ∷ []) (refused 2 0)
    ∷ table ((9, 32, 0, 0) ∷ (5, 0, 0, 0) ∷ []) (refused 2 0)
    ∷ table ((9, 31, 0, 0) ∷ (5, 2, 0, 0) ∷ []) (refused 2 1)
    ∷ table ((8, 0, 0, 0) ∷ (8, 0, 0, 0) ∷ (10, 6, 0, 1) ∷ (5, 0, 2, 0) ∷ []) (refused 2 2)
    ∷ table ((0, 0, 0, 1) ∷ []) (refused 2 0)
    -- a child that is its parent; one past the table; one of the wrong sort
    ∷ table ((0, 0, 0, 0) ∷ (2, 0, 1, 0) ∷ []) (refused 3 1)
    ∷ table ((0, 0, 0, 0) ∷ (2, 0, 4294967295, 0) ∷ []) (refused 3 1)
    ∷ table ((0, 0, 0, 0) ∷ (1, 0, 0, 0) ∷ []) (refused 3 1)
    ∷ table ((8, 0, 0, 0) ∷ (8, 0, 0, 0) ∷ (4, 0, 1, 0) ∷ []) (refused 3 2)
    -- a child of no row; a row shared between two parents, and between two places of one; the last row an expression
    ∷ table ((0, 0, 0, 0) ∷ (0, 0, 0, 0) ∷ []) (refused 4 0)
    ∷ table ((8, 0, 0, 0) ∷ (5, 0, 0, 0) ∷ (5, 1, 0, 0) ∷ (2, 1, 2, 0) ∷ []) (refused 4 0)
    ∷ table ((8, 1, 0, 0) ∷ (10, 0, 0, 0) ∷ (5, 0, 1, 0) ∷ []) (refused 4 0)
    ∷ table ((8, 1, 0, 0) ∷ []) (refused 4 0)
    -- the lowest number comes before the lowest row: 1 before 2, 2 before 3, 3 before 4, 4 before 5
    ∷ record { words = 7 ∷ 0 ∷ 0 ∷ 0 ∷ 0 ∷ []; said = refused 1 0 }
    ∷ table ((0, 0, 0, 0) ∷ (2, 0, 1, 0) ∷ (7, 0, 0, 0) ∷ []) (refused 2 2)
    ∷ table ((0, 0, 0, 0) ∷ (2, 1, 1, 0) ∷ []) (refused 3 1)
    ∷ table (high 16 ++ ((0, 0, 0, 0) ∷ [])) (refused 4 33)
    ∷ []

unfoldable pub judgements : List Judgement
judgements = at_the_limits ++ bad_tables

-- skip with a budget of 1 and so many trace words
-- 12.12: .. a trace of 16,384 words is accepted and one of 16,385 refused by 6.
unfoldable pub traced : ℕ → Said
traced trace_words =
    (answer (inputs (0 ∷ 0 ∷ 0 ∷ 0 ∷ []) (memory_of []) 0 1 (replicate trace_words 0))).said

-- The claim: every table is judged as expected, and so is the trace.
abbrev pub CaseK : Type 0
CaseK =
    (map (λ (j : Judgement). judgement j.words) judgements ≡ map (λ (j : Judgement). j.said) judgements)
    × (traced 16384 ≡ verdict 0 0)
    × (traced 16385 ≡ refused 6 0)

-- A recipe of 512 rows, with v0 = 5 marked: it is run, and walked by the level check.
unfoldable pub longest : Stmt
longest = recipe (rows_of (words_of (long 255)))

abbrev pub Longest : Type 0
Longest =
    (reached (run (terms_of 0) 300 (start longest (memory_of (5 ∷ [])) 1))
    ≡ record { said = verdict 0 0; because = 0; steps = 256; records = []; memory = memory_of []; marks = 0 })
    × (walk longest false 1 ≡ record { marks = 0; failing = [] })
