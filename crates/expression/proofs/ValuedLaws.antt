-- Value and level in one answer, for each form of expression.
use Prim.Native.Nat.{ℕ, ◌+◌, ◌*◌, ◌^◌, ◌<◌}
use native.Mathlib.Nat.{add-zero, mod-eq_of_lt, div-eq_of_lt, mul-add-mod_self_right, mul-add-div_right}
use lib.Pow.{pow_pos}
use mathlib.Core.List.{List}
use mathlib.Core.Path.{◌≡◌, sym, ap, ap₂, ◌∙◌}
use lib.Bits.{bit_and}
use lib.ListN.{get_or}
use Rattle.rules.specs.Limits.{word_bits}
use Rattle.rules.specs.declared.Operator.{Operator}
use Rattle.rules.specs.Marks.{only, union}
use Rattle.rules.specs.Trees.{Expr, constant, variable, binary}
use Rattle.rules.specs.Values.{operate}
use Rattle.rules.proofs.ValueLaws.{value_constant, value_variable, value_binary, level_constant, level_variable, level_binary}
use Rattle.expression.specs.declared.values.Valued.{Valued}
use Rattle.expression.specs.Valued.{valued_of, valued_in}

abbrev pair : ℕ → ℕ → Valued
pair v l = record { value = v; level = l }

-- a value of a word's size and a level stand in one word
pub valued_in_lem : (v l : ℕ) → v < 2 ^ word_bits → valued_in (l * 2 ^ word_bits + v) ≡ record { value = v; level = l }
valued_in_lem v l small =
    ap₂
    pair
    (mul-add-mod_self_right l (2 ^ word_bits) v ∙ mod-eq_of_lt small)
    (mul-add-div_right {m = 2 ^ word_bits} (pow_pos word_bits) l v ∙ ap (λ (q : ℕ). l + q) (div-eq_of_lt small) ∙ add-zero l)

module _ (memory : List ℕ) (marks : ℕ) where
  pub valued_constant : (c : ℕ) → record { value = c; level = 0 } ≡ valued_of memory marks (constant c)
  valued_constant c = sym (ap₂ pair (value_constant memory c) (level_constant marks c))

  pub valued_variable :
      (v : ℕ) {value level : ℕ} → value ≡ get_or memory v 0 → level ≡ bit_and marks (only v)
      → record { value = value; level = level } ≡ valued_of memory marks (variable v)
  valued_variable v e f = ap₂ pair (e ∙ sym (value_variable memory v)) (f ∙ sym (level_variable marks v))

  pub valued_binary :
      (o : Operator) (a b : Expr) {left right : Valued} {value level : ℕ} → left ≡ valued_of memory marks a → right ≡ valued_of memory marks b
      → value ≡ operate o left.value right.value → level ≡ union left.level right.level
      → record { value = value; level = level } ≡ valued_of memory marks (binary o a b)
  valued_binary o a b ea eb ev el =
      ap₂
      pair
      (ev ∙ ap₂ (λ (x y : Valued). operate o x.value y.value) ea eb ∙ sym (value_binary memory o a b))
      (el ∙ ap₂ (λ (x y : Valued). union x.level y.level) ea eb ∙ sym (level_binary marks o a b))
