-- Two answers that say the same are the same: each is read back from what it says.
use mathlib.Core.Path.{◌≡◌, refl, sym, ap, ◌∙◌}
use Prim.Native.Nat.{ℕ}
use Rattle.std.specs.Prelude.{Result, Ok, Err}
use Rattle.rules.specs.declared.Refusal.{Refusal}
use Rattle.rules.proofs.AnswerLaws.{refusal_back, refusal_back_lem}
use Rattle.expression.specs.declared.values.Valued.{Valued}
use Rattle.expression.specs.Valued as valued
use Rattle.expression.specs.Assigned as assigned

evaluation_back : valued.ValueSaid → Result Valued Refusal
evaluation_back (valued.found value level) = Ok (record { value = value; level = level })
evaluation_back (valued.refused number row) = Err (refusal_back number row)

evaluation_back_lem : (a : Result Valued Refusal) → evaluation_back (valued.said_of_value a) ≡ a
unfolding evaluation_back
evaluation_back_lem (Ok v) = refl
evaluation_back_lem (Err refusal) = ap Err (refusal_back_lem refusal)

pub evaluation_unique : (a b : Result Valued Refusal) → valued.said_of_value a ≡ valued.said_of_value b → a ≡ b
evaluation_unique a b e = sym (evaluation_back_lem a) ∙ ap evaluation_back e ∙ evaluation_back_lem b

assigned_back : assigned.AssignedSaid → Result ℕ Refusal
assigned_back (assigned.variables set) = Ok set
assigned_back (assigned.refused number row) = Err (refusal_back number row)

assigned_back_lem : (a : Result ℕ Refusal) → assigned_back (assigned.said_of_assigned a) ≡ a
unfolding assigned_back
assigned_back_lem (Ok set) = refl
assigned_back_lem (Err refusal) = ap Err (refusal_back_lem refusal)

pub assigned_unique : (a b : Result ℕ Refusal) → assigned.said_of_assigned a ≡ assigned.said_of_assigned b → a ≡ b
assigned_unique a b e = sym (assigned_back_lem a) ∙ ap assigned_back e ∙ assigned_back_lem b
