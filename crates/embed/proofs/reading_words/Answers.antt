-- `embed::reading_words` meets its contract.
use Rattle.std.proofs.Common.{ℕ, List, ◌∷◌, [], ◌%◌, ◌^◌, length, ap, ◌≡◌}
use mathlib.Core.Path.{◌∙◌}
use Rattle.rules.specs.Limits.{word_bits}
use Rattle.rules.specs.Marks.{none}
use Rattle.embed.specs.declared.Numbers.{Numbers}
use Rattle.embed.proofs.reading_words.Goals as goal

-- the words of a refusal, from its numbers and the part's
refused : {n m : Numbers} {start start' size size' : ℕ} → n ≡ m → start ≡ start' → size ≡ size'
    → n.refusal ∷ n.verdict ∷ n.row ∷ 0 ∷ start ∷ size ∷ 0 ∷ [] ≡ m.refusal ∷ m.verdict ∷ m.row ∷ 0 ∷ start' ∷ size' ∷ 0 ∷ []
refused e f g = λ i. (e i).refusal ∷ (e i).verdict ∷ (e i).row ∷ 0 ∷ f i ∷ g i ∷ 0 ∷ []

pub returns-in-Err : goal.returns-in-Err
unfolding none
returns-in-Err c =
    let size = c.word_of-in-Err-2.ensures ∙ ap (λ (l : List ℕ). length l % 2 ^ word_bits) c.handed_back.ensures in
    rw c.in-Err.is (refused c.from-said.ensures c.word_of-in-Err.ensures size)
