-- The laws of rows and kinds: what a match on a kind or a role knows in each arm, the kind of a word, and a row read word by word.
use Prim.Native.Nat.{ℕ, ◌+◌, ◌*◌, ◌/◌, ◌≤◌, ◌<◌}
use native.Mathlib.Nat.{add-zero}
use native.Mathlib.Omega.{arith}
use mathlib.Core.Bool.{true, false, false≢true, true≢false}
use mathlib.Core.List.{List, [], ◌∷◌, map}
use mathlib.Core.Path.{◌≡◌, refl, sym, ap, ◌∙◌}
use mathlib.Core.Logic.{inl, inr}
use denote.Enum.Declared.{tag_of}
use types.Run.{OneOf, miss}
use lib.ListN.{length, get_or, drop}
use Rattle.rules.specs.declared.Kind.{Kind}
use Rattle.rules.specs.declared.Role.{Role}
use Rattle.rules.specs.declared.Row.{Row}
use Rattle.rules.specs.Rows.{kind_of, is_statement, is_expression, is_unknown, row_of, rows_of, absent, row_at}
use Rattle.rules.specs.contracts.Kind as kind-type
use Rattle.rules.specs.contracts.Role as role-type
use Rattle.rules.proofs.JudgeLaws.{row_law, row_absent, rows_length}

-- ---- the arms of a match: what holds at each of an arm's places of an enum holds of a value at one of them

pub record Arm {D A : Type 0} (at : ℕ → D) (f : D → A) (a : A) (ks : List ℕ) : Type 0 where
  pub each : map (λ k. f (at k)) ks ≡ map (λ k. a) ks

at_key : {A : Type 0} (f : ℕ → A) (a : A) (ks : List ℕ) (x : ℕ) → map f ks ≡ map (λ k. a) ks → OneOf ks x → f x ≡ a
at_key f a [] x each among = absurd among
at_key f a (k ∷ []) x each among = ap f among ∙ ap (λ l. get_or l 0 a) each
at_key f a (k ∷ k' ∷ ks) x each (inl here) = ap f here ∙ ap (λ l. get_or l 0 a) each
at_key f a (k ∷ k' ∷ ks) x each (inr among) = at_key f a (k' ∷ ks) x (ap (drop 1) each) among

abbrev pub kind_at : ℕ → Kind
kind_at n =
    get_or
    (Kind.Skip ∷ Kind.Assign ∷ Kind.Sequence ∷ Kind.If ∷ Kind.While ∷ Kind.Output ∷ Kind.Constant ∷ Kind.Variable ∷ Kind.Binary ∷ [])
    n
    Kind.Unknown

kind_place : (kind : Kind) → kind_at (tag_of kind-type.the_type kind) ≡ kind
kind_place Kind.Skip = refl
kind_place Kind.Assign = refl
kind_place Kind.Sequence = refl
kind_place Kind.If = refl
kind_place Kind.While = refl
kind_place Kind.Output = refl
kind_place Kind.Constant = refl
kind_place Kind.Variable = refl
kind_place Kind.Binary = refl
kind_place Kind.Unknown = refl

pub kind_arm :
    {A : Type 0} {f : Kind → A} {a : A} {ks : List ℕ} → Arm kind_at f a ks → (kind : Kind)
    → OneOf ks (tag_of kind-type.the_type kind) → f kind ≡ a
kind_arm {A} {f} {a} {ks} arm kind among =
    sym (ap f (kind_place kind)) ∙ at_key (λ n. f (kind_at n)) a ks (tag_of kind-type.the_type kind) arm.each among

abbrev pub role_at : ℕ → Role
role_at n =
    get_or (Role.Unnamed ∷ Role.Variable ∷ Role.Statement ∷ Role.Expression ∷ Role.Value ∷ Role.Channel ∷ []) n Role.Operator

role_place : (role : Role) → role_at (tag_of role-type.the_type role) ≡ role
role_place Role.Unnamed = refl
role_place Role.Variable = refl
role_place Role.Statement = refl
role_place Role.Expression = refl
role_place Role.Value = refl
role_place Role.Channel = refl
role_place Role.Operator = refl

pub role_arm :
    {A : Type 0} {f : Role → A} {a : A} {ks : List ℕ} → Arm role_at f a ks → (role : Role)
    → OneOf ks (tag_of role-type.the_type role) → f role ≡ a
role_arm {A} {f} {a} {ks} arm role among =
    sym (ap f (role_place role)) ∙ at_key (λ n. f (role_at n)) a ks (tag_of role-type.the_type role) arm.each among

-- ---- a row read word by word

pub row_read :
    (words : List ℕ) (i : ℕ) (kind : Kind) → i * 4 + 3 < length words → kind ≡ kind_of (get_or words (i * 4) 0)
    → record { kind = kind; p = get_or words (i * 4 + 1) 0; q = get_or words (i * 4 + 2) 0; r = get_or words (i * 4 + 3) 0 }
    ≡ row_at (rows_of words) i
unfolding row_of
row_read words i kind h same =
    ap (λ (k : Kind). row k) (same ∙ ap (λ n. kind_of (get_or words n 0)) (sym (add-zero (i * 4)))) ∙ sym (row_law words i h)
  where
    row : Kind → Row
    row k = record { kind = k; p = get_or words (i * 4 + 1) 0; q = get_or words (i * 4 + 2) 0; r = get_or words (i * 4 + 3) 0 }

pub row_none : (rows : List Row) (i : ℕ) → length rows ≤ i → record { kind = Kind.Unknown; p = 0; q = 0; r = 0 } ≡ row_at rows i
unfolding absent
row_none rows i h = sym (row_absent rows i h)

-- a row that the table has is read within its words
pub row_within : (words : List ℕ) (i : ℕ) → i < length (rows_of words) → i * 4 + 3 < length words
row_within words i h =
    let n : length (rows_of words) ≡ length words / 4 = rows_length words in
    omega arith

-- of the statements, only an output is neither skip nor assign, sequence, if or while
pub output_left :
    (kind : Kind) → OneOf (2 ∷ 5 ∷ 6 ∷ 7 ∷ 8 ∷ 9 ∷ []) (tag_of kind-type.the_type kind) → is_statement kind ≡ true → (kind ≡ Kind.Sequence → ⊥)
    → kind ≡ Kind.Output
unfolding is_statement
output_left Kind.Skip among sort other = absurd (miss (2 ∷ 5 ∷ 6 ∷ 7 ∷ 8 ∷ 9 ∷ []) 0 tt among)
output_left Kind.Assign among sort other = absurd (miss (2 ∷ 5 ∷ 6 ∷ 7 ∷ 8 ∷ 9 ∷ []) 1 tt among)
output_left Kind.Sequence among sort other = absurd (other refl)
output_left Kind.If among sort other = absurd (miss (2 ∷ 5 ∷ 6 ∷ 7 ∷ 8 ∷ 9 ∷ []) 3 tt among)
output_left Kind.While among sort other = absurd (miss (2 ∷ 5 ∷ 6 ∷ 7 ∷ 8 ∷ 9 ∷ []) 4 tt among)
output_left Kind.Output among sort other = refl
output_left Kind.Constant among sort other = absurd (false≢true sort)
output_left Kind.Variable among sort other = absurd (false≢true sort)
output_left Kind.Binary among sort other = absurd (false≢true sort)
output_left Kind.Unknown among sort other = absurd (false≢true sort)

-- a known kind that is no expression is a statement
pub statement_left : (kind : Kind) → is_unknown kind ≡ false → is_expression kind ≡ false → is_statement kind ≡ true
unfolding is_unknown is_expression is_statement
statement_left Kind.Skip known other = refl
statement_left Kind.Assign known other = refl
statement_left Kind.Sequence known other = refl
statement_left Kind.If known other = refl
statement_left Kind.While known other = refl
statement_left Kind.Output known other = refl
statement_left Kind.Constant known other = absurd (true≢false other)
statement_left Kind.Variable known other = absurd (true≢false other)
statement_left Kind.Binary known other = absurd (true≢false other)
statement_left Kind.Unknown known other = absurd (true≢false known)
