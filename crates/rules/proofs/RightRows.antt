-- A sound row is refused neither for its words nor for its children.
use Prim.Native.Nat.{ℕ}
use mathlib.Core.Bool.{false, not}
use mathlib.Core.List.{List}
use mathlib.Core.Path.{◌≡◌, refl, sym, ap, ◌∙◌}
use borrow.Author.Tests.{eq-eqb, lt-leb, le-ltb}
use Rattle.rules.specs.declared.Role.{Role}
use Rattle.rules.specs.declared.Row.{Row}
use Rattle.rules.specs.Rows.{roles_of}
use Rattle.rules.specs.Judging.{wrong_word, wrong_words, wrong_child, wrong_children}
use Rattle.rules.specs.Sound.{Fits, SoundRow}
use Rattle.rules.proofs.RefusalLaws.{words_law, children_law, early}

module _ (rows : List Row) (i : ℕ) where
  right_word : (role : Role) (w : ℕ) → Fits rows i role w → wrong_word role w ≡ false
  unfolding wrong_word
  right_word Role.Unnamed w fits = ap not (eq-eqb w 0 fits)
  right_word Role.Variable w fits = lt-leb _ w fits
  right_word Role.Statement w fits = refl
  right_word Role.Expression w fits = refl
  right_word Role.Value w fits = refl
  right_word Role.Channel w fits = le-ltb _ w fits
  right_word Role.Operator w fits = le-ltb _ w fits

  right_child : (role : Role) (w : ℕ) → Fits rows i role w → wrong_child rows i role w ≡ false
  unfolding wrong_child
  right_child Role.Unnamed w fits = refl
  right_child Role.Variable w fits = refl
  right_child Role.Statement w fits = early i w _ fits.0 ∙ ap not fits.1
  right_child Role.Expression w fits = early i w _ fits.0 ∙ ap not fits.1
  right_child Role.Value w fits = refl
  right_child Role.Channel w fits = refl
  right_child Role.Operator w fits = refl

  pub right_words : (row : Row) → SoundRow rows i row.kind row → wrong_words row ≡ false
  right_words row sound =
      sym
      (words_law row (roles_of row.kind) false false false false refl (sym sound.known) (sym (right_word _ _ sound.p))
      (sym (right_word _ _ sound.q)) (sym (right_word _ _ sound.r)))

  pub right_children : (row : Row) → SoundRow rows i row.kind row → wrong_children rows i row ≡ false
  right_children row sound =
      sym
      (children_law rows i row (roles_of row.kind) false false false refl (sym (right_child _ _ sound.p))
      (sym (right_child _ _ sound.q)) (sym (right_child _ _ sound.r)))
