-- `reader::words::is_word` meets its contract. Assumes nothing.
use Prim.Native.Nat.{ℕ, ◌+◌, ◌-◌, ◌≤◌}
use mathlib.Core.List.{List}
use native.Mathlib.Omega.{arith}
use mathlib.Core.Bool.{Bool, true, true≢false}
use mathlib.Core.Path.{◌≡◌, sym, ◌∙◌}
use lib.ListN.{length}
use Rattle.language.specs.Tokens.{same}
use Rattle.spans.specs.Cut.{part}
use Rattle.reader.proofs.StartLaws.{word_short, word_other, word_goes_on, word_single}
use Rattle.reader.proofs.words.is_word.Goals as goal
use Rattle.reader.proofs.words.is_word.Goals.{then-is_joined, else-is_joined}

-- the key stands there
is_whole :
    (text key : List ℕ) (at : ℕ) {b : Bool} → b ≡ same key (part text at (at + length key)) → b ≡ true → length key ≤ length text - at
    → at ≤ length text → (same key (part text at (at + length key)) ≡ true) × (at + length key ≤ length text)
is_whole text key at e h room inside = (sym e ∙ h, omega arith)

pub returns-then-text-at : goal.returns-then-text-at
returns-then-text-at c = (
  (λ one shown w cut. (word_short c.args.key.now one shown cut c.if-text-at.true, λ e. absurd (true≢false (sym e)))),
  λ e. absurd (true≢false (sym e)),
)

pub returns-then-not-is_key : goal.returns-then-not-is_key
returns-then-not-is_key c =
    let other = sym c.is_key.ensures ∙ c.if-not-is_key.true in (
      (λ one shown w cut. (word_other c.args.key.now one shown cut other, λ e. absurd (true≢false (sym e)))),
      λ e. absurd (true≢false (sym e)),
    )

pub returns : goal.returns
returns c =
    let whole = is_whole c.args.text.now c.args.key.now c.args.at c.is_key.ensures c.if-not-is_key.false c.if-text-at.false c.requires in
    elim c.if-is_joined.branch [
      | then-is_joined w ↦
          rw w.result-is (
            (λ one shown s cut.
                word_goes_on c.args.key.now one shown cut w.is_joined-then-is_joined.result (sym w.is_joined-then-is_joined.ensures) whole.1 whole.0
                (sym c.is_joined.ensures ∙ w.if-is_joined.true)),
            λ _. whole.1,
          )
      | else-is_joined w ↦
          rw (w.result-is, w.if-is_joined.false) (
            (λ one shown s cut.
                let single = word_single c.args.key.now one shown cut whole.1 whole.0 (sym c.is_joined.ensures ∙ w.if-is_joined.false) in
                (single.0, λ _. single.1)),
            λ _. whole.1,
          )
    ]
