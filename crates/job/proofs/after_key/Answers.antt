-- `job::after_key` meets its contract. Assumes nothing.
use Prim.Native.Nat.{ℕ, ◌+◌, ◌-◌, ◌<◌}
use native.Mathlib.Omega.{arith}
use mathlib.Core.Bool.{Bool, true, false, cond, ◌&&◌}
use mathlib.Core.List.{List, [], ◌∷◌}
use mathlib.Core.Path.{◌≡◌, refl, sym, ap, ap₂, ◌∙◌}
use lib.Dec.{eqb}
use lib.ListN.{length, drop, drop_of_length-le, length-drop}
use lib.Seq.{take_all}
use Rattle.std.proofs.lemmas.List.{drop-drop}
use Rattle.std.specs.List.{starts_with}
use Rattle.std.specs.Bool.{then_some}
use Rattle.lines.specs.Lines.{absent, after, after_key}
use Rattle.job.specs.Read.{key_said}
use Rattle.job.proofs.after_key.Goals as goal

-- a key that is not empty does not stand past the end
none_past : (key text : List ℕ) (at : ℕ) → 0 < length key → length text < at → absent ≡ after_key key (drop at text)
unfolding after_key
none_past [] text at some past = absurd (omega arith)
none_past (byte ∷ key) text at some past = sym (ap (after_key (byte ∷ key)) (drop_of_length-le text (omega arith)))

-- a key is found by whether the text starts with it
starts_key : (key text : List ℕ) → cond (starts_with eqb text key) (after (drop (length key) text)) absent ≡ after_key key text
unfolding after_key
starts_key [] text = refl
starts_key (byte ∷ key) [] = refl
starts_key (byte ∷ key) (b ∷ text) = by (eqb byte b) (starts_key key text)
  where
    by : (same : Bool) → cond (starts_with eqb text key) (after (drop (length key) text)) absent ≡ after_key key text
        → cond (same && starts_with eqb text key) (after (drop (length key) text)) absent ≡ cond same (after_key key text) absent
    by true e = e
    by false e = refl

then_said : (text : List ℕ) (b : Bool) (next : ℕ) → key_said text (then_some b next) ≡ cond b (after (drop next text)) absent
then_said text true next = refl
then_said text false next = refl

pub returns-in_err-get : goal.returns-in_err-get
returns-in_err-get c =
    let none = c.in_err-get.ensures.lookup.0 in
    let past : length c.args.text.now < c.args.at = omega arith in
    rw c.from_residual.ensures (none_past c.args.key.now c.args.text.now c.args.at c.requires past)

pub returns : goal.returns
returns c =
    let text = c.args.text.now in
    let key = c.args.key.now in
    let part = c.in_ok-get.ensures.lookup.0 in
    let front : c.in_ok-get.field-0.now ≡ drop c.args.at text =
    part.2 ∙ take_all (length text - c.args.at) (drop c.args.at text) (omega (arith, length-drop c.args.at text)) in
    ap (key_said text) c.then_some.ensures
    ∙ then_said text c.starts_with.result (c.args.at + length key)
    ∙ ap₂ (λ (b : Bool) (rest : List ℕ). cond b (after rest) absent)
    (c.starts_with.ensures.value ∙ ap (λ (rest : List ℕ). starts_with eqb rest key) front)
    (sym (drop-drop (length key) c.args.at text))
    ∙ starts_key key (drop c.args.at text)
