-- `job::read_head` meets its contract. Assumes nothing.
use Prim.Native.Nat.{ℕ}
use native.Mathlib.Omega.{arith}
use mathlib.Core.List.{List, [], ◌∷◌}
use mathlib.Core.Path.{◌≡◌, refl, ◌∙◌}
use Rattle.lines.specs.Lines.{line, lines}
use Rattle.job.specs.Jobs.{form_at, number_line, number_lines}
use Rattle.numbers.proofs.ErrLaws.{handed_on}
use Rattle.job.proofs.FillLaws.{numbers_course, lines_again, lines_stop, lines_done}
use Rattle.job.proofs.read_head.Goals as goal

-- the numbers of the head's lines, and the texts after them
budget_read : (text : List ℕ) {after_budget : List ℕ} {budget : ℕ} → line (budget ∷ []) after_budget ≡ number_line 1 text
    → number_lines 3 2 (budget ∷ []) after_budget ≡ number_lines 4 1 [] text
budget_read text {after_budget} {budget} b = lines_again numbers_course 4 1 0 [] text (budget ∷ []) after_budget (budget ∷ []) (omega arith) b refl

room_read : (text : List ℕ) {after_budget after_room : List ℕ} {budget room : ℕ} → line (budget ∷ []) after_budget ≡ number_line 1 text → line (room ∷ []) after_room ≡ number_line 2 after_budget
    → number_lines 2 3 (budget ∷ room ∷ []) after_room ≡ number_lines 4 1 [] text
room_read text {after_budget} {after_room} {budget} {room} b r =
    lines_again numbers_course 4 1 1 (budget ∷ []) after_budget (room ∷ []) after_room (budget ∷ room ∷ []) (omega arith) r refl
    ∙ budget_read text b

marks_read : (text : List ℕ) {after_budget after_room after_marks : List ℕ} {budget room marks : ℕ} → line (budget ∷ []) after_budget ≡ number_line 1 text → line (room ∷ []) after_room ≡ number_line 2 after_budget
    → line (marks ∷ []) after_marks ≡ number_line 3 after_room
    → number_lines 1 4 (budget ∷ room ∷ marks ∷ []) after_marks ≡ number_lines 4 1 [] text
marks_read text {after_budget} {after_room} {after_marks} {budget} {room} {marks} b r m =
    lines_again numbers_course 4 1 2 (budget ∷ room ∷ []) after_room (marks ∷ []) after_marks (budget ∷ room ∷ marks ∷ []) (omega arith) m refl
    ∙ room_read text b r

inputs_read : (text : List ℕ) {after_budget after_room after_marks after_inputs : List ℕ} {budget room marks inputs : ℕ} → line (budget ∷ []) after_budget ≡ number_line 1 text → line (room ∷ []) after_room ≡ number_line 2 after_budget
    → line (marks ∷ []) after_marks ≡ number_line 3 after_room → line (inputs ∷ []) after_inputs ≡ number_line 4 after_marks
    → lines (budget ∷ room ∷ marks ∷ inputs ∷ []) after_inputs ≡ number_lines 4 1 [] text
inputs_read text {after_budget} {after_room} {after_marks} {after_inputs} {budget} {room} {marks} {inputs} b r m i =
    lines_done numbers_course 4 1 4 (budget ∷ room ∷ marks ∷ inputs ∷ []) after_inputs (omega arith)
    ∙ lines_again numbers_course 4 1 3 (budget ∷ room ∷ marks ∷ []) after_marks (inputs ∷ []) after_inputs (budget ∷ room ∷ marks ∷ inputs ∷ []) (omega arith) i refl
    ∙ marks_read text b r m

pub returns-in_err-budget : goal.returns-in_err-budget
unfolding number_line form_at
returns-in_err-budget c =
    let fault = c.in_err-budget.ensures in
    rw (handed_on _ c.from_residual.ensures.1, fault.1)
    (lines_stop numbers_course 4 1 0 [] c.args.text.now _ (omega arith) fault.0)

pub returns-in_err-room : goal.returns-in_err-room
unfolding number_line form_at
returns-in_err-room c =
    let fault = c.in_err-room.ensures in
    rw (handed_on _ c.from_residual-in_err-room.ensures.1, fault.1)
    (lines_stop numbers_course 4 1 1 _ _ _ (omega arith) fault.0 ∙ budget_read _ c.in_ok-budget.ensures)

pub returns-in_err-marks : goal.returns-in_err-marks
unfolding number_line form_at
returns-in_err-marks c =
    let fault = c.in_err-marks.ensures in
    rw (handed_on _ c.from_residual-in_err-marks.ensures.1, fault.1)
    (lines_stop numbers_course 4 1 2 _ _ _ (omega arith) fault.0 ∙ room_read _ c.in_ok-budget.ensures c.in_ok-room.ensures)

pub returns-in_err-inputs : goal.returns-in_err-inputs
unfolding number_line form_at
returns-in_err-inputs c =
    let fault = c.in_err-inputs.ensures in
    rw (handed_on _ c.from_residual-in_err-inputs.ensures.1, fault.1)
    (lines_stop numbers_course 4 1 3 _ _ _ (omega arith) fault.0
    ∙ marks_read _ c.in_ok-budget.ensures c.in_ok-room.ensures c.in_ok-marks.ensures)

pub returns : goal.returns
unfolding number_line form_at
returns c = inputs_read _ c.in_ok-budget.ensures c.in_ok-room.ensures c.in_ok-marks.ensures c.in_ok-inputs.ensures
