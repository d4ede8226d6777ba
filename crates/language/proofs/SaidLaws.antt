-- What was answered is told by what it says.
use Prim.Native.Nat.{ℕ}
use native.Mathlib.Omega.{arith}
use mathlib.Core.Bool.{cond}
use mathlib.Core.List.{List}
use mathlib.Core.Path.{◌≡◌, refl, sym, ap, ap₂, ◌∙◌}
use lib.Dec.{eqb}
use Rattle.std.specs.Prelude.{Result, Ok, Err}
use Rattle.rules.specs.declared.Fault.{Fault}
use Rattle.rules.specs.Answers.{number_of}
use Rattle.rules.proofs.AnswerLaws.{refusal_back, refusal_back_lem}
use Rattle.language.specs.declared.Flaw.{Flaw}
use Rattle.language.specs.declared.Part.{Part}
use Rattle.language.specs.declared.Recipe.{Recipe}
use Rattle.language.specs.declared.Unread.{Unread}
use Rattle.language.specs.Said.{Said}
use Rattle.language.specs.Answers.{flaw_number, flaw_row, said_of}

flaw_back : ℕ → ℕ → Flaw
flaw_back number row =
    cond (eqb number 9) Flaw.TooLong
    (cond (eqb number 10) Flaw.FaultyWord
    (cond (eqb number 11) Flaw.DeclaredAgain
    (cond (eqb number 12) Flaw.TooManyRows
    (cond (eqb number 13) Flaw.TableTooShort (Flaw.Refused (refusal_back number row))))))

own_back : (fault : Fault) (row : ℕ) → flaw_back (number_of fault) row ≡ Flaw.Refused (refusal_back (number_of fault) row)
unfolding flaw_back
own_back Fault.WrongCount row = refl
own_back Fault.WrongWord row = refl
own_back Fault.WrongChild row = refl
own_back Fault.WrongParents row = refl
own_back Fault.TooDeep row = refl
own_back Fault.LongTrace row = refl

flaw_back_lem : (flaw : Flaw) → flaw_back (flaw_number flaw) (flaw_row flaw) ≡ flaw
unfolding flaw_back
flaw_back_lem Flaw.TooLong = refl
flaw_back_lem Flaw.FaultyWord = refl
flaw_back_lem Flaw.DeclaredAgain = refl
flaw_back_lem Flaw.TooManyRows = refl
flaw_back_lem Flaw.TableTooShort = refl
flaw_back_lem (Flaw.Refused refusal) = own_back refusal.fault refusal.row ∙ ap Flaw.Refused (refusal_back_lem refusal)

own_some : (fault : Fault) → number_of fault ≡ 0 → ⊥
own_some Fault.WrongCount e = omega arith
own_some Fault.WrongWord e = omega arith
own_some Fault.WrongChild e = omega arith
own_some Fault.WrongParents e = omega arith
own_some Fault.TooDeep e = omega arith
own_some Fault.LongTrace e = omega arith

-- no refusal has the number 0
flaw_some : (flaw : Flaw) → flaw_number flaw ≡ 0 → ⊥
flaw_some Flaw.TooLong e = omega arith
flaw_some Flaw.FaultyWord e = omega arith
flaw_some Flaw.DeclaredAgain e = omega arith
flaw_some Flaw.TooManyRows e = omega arith
flaw_some Flaw.TableTooShort e = omega arith
flaw_some (Flaw.Refused refusal) e = own_some refusal.fault e

pub said_once : (text : List ℕ) (a b : Result Recipe Unread) → said_of text a ≡ said_of text b → a ≡ b
said_once text (Ok a) (Ok b) e =
    ap₂ (λ (rows marks : ℕ). Ok (record { rows = rows; marks = marks })) (ap (λ (s : Said). s.rows) e) (ap (λ (s : Said). s.marks) e)
said_once text (Ok a) (Err b) e = absurd (flaw_some b.flaw (sym (ap (λ (s : Said). s.refusal) e)))
said_once text (Err a) (Ok b) e = absurd (flaw_some a.flaw (ap (λ (s : Said). s.refusal) e))
said_once text (Err a) (Err b) e =
    let flaws : a.flaw ≡ b.flaw =
    sym (flaw_back_lem a.flaw) ∙ ap₂ flaw_back (ap (λ (s : Said). s.refusal) e) (ap (λ (s : Said). s.at) e) ∙ flaw_back_lem b.flaw in
    ap₂ (λ (flaw : Flaw) (part : Part). Err (record { flaw = flaw; part = part })) flaws (ap (λ (s : Said). s.part) e)
