-- What a worked run is: the table, memory, marks, budget and trace given, and everything expected of them.
use Rattle.std.specs.Prelude.{ℕ, ◌-◌, List, [], ◌∷◌, ◌++◌, map, ◌≡◌, length, replicate}
use Rattle.rules.specs.Limits.{width}
use Rattle.rules.specs.Answers.{Said, Whole, Inputs, inputs, answer, trace_after, Advised, advice}

-- a row as it is written: k, p, q, r
abbrev pub Quad : Type 0
Quad = ℕ × ℕ × ℕ × ℕ

unfoldable pub words_of : List Quad → List ℕ
words_of [] = []
words_of (row ∷ rows) = row.0 ∷ row.1 ∷ row.2 ∷ row.3 ∷ words_of rows

-- the whole memory, from the values of the first variables; the others are 0
unfoldable pub memory_of : List ℕ → List ℕ
memory_of values = values ++ replicate (width - length values) 0

-- What is given to a run and to the level check.
pub record Given : Type 0 where
  pub table : List Quad
  pub memory : List ℕ
  pub marks : ℕ
  pub budget : ℕ
  pub trace : List ℕ

-- Everything that comes of it: the run's answer, the trace afterwards, and the level check's answer.
pub record Result : Type 0 where
  pub whole : Whole
  pub trace : List ℕ
  pub advised : Advised

pub record Case : Type 0 where
  pub given : Given
  pub expected : Result

abbrev pub inputs_of : Given → Inputs
inputs_of g = inputs (words_of g.table) (memory_of g.memory) g.marks g.budget g.trace

unfoldable pub answer_to : Given → Whole
answer_to g = answer (inputs_of g)

unfoldable pub result_of : Given → Result
result_of g = record {
  whole = answer_to g;
  trace = trace_after (answer_to g).records g.trace;
  advised = advice (words_of g.table) g.marks;
}

-- Every case of the table comes out whole as expected.
abbrev pub Met : List Case → Type 0
Met cases = map (λ (c : Case). result_of c.given) cases ≡ map (λ (c : Case). c.expected) cases

-- 12.1: Where nothing else is said, v0 alone is marked, all variables are 0, the budget is 100 and there is room for 8
-- records.
abbrev pub usual_marks : ℕ
usual_marks = 1

abbrev pub usual_budget : ℕ
usual_budget = 100

-- room 8: sixteen words, with contents that show whether they were kept
abbrev pub usual_trace : List ℕ
usual_trace = 70 ∷ 71 ∷ 72 ∷ 73 ∷ 74 ∷ 75 ∷ 76 ∷ 77 ∷ 78 ∷ 79 ∷ 80 ∷ 81 ∷ 82 ∷ 83 ∷ 84 ∷ 85 ∷ []

abbrev pub usual : List Quad → List ℕ → Given
usual table memory = record { table = table; memory = memory; marks = usual_marks; budget = usual_budget; trace = usual_trace }

-- An expected result without a record: the trace is then as given.
unfoldable pub recordless : Given → Said → ℕ → ℕ → List ℕ → ℕ → Said → ℕ → Case
recordless g said because steps memory marks advice final_marks = record {
  given = g;
  expected = record {
    whole = record { said = said; because = because; steps = steps; records = []; memory = memory_of memory; marks = marks };
    trace = g.trace;
    advised = record { said = advice; marks = final_marks };
  };
}
