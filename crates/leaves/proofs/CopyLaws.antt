-- Words that are copied.
use Rattle.std.proofs.Common.{◌≡◌, ℕ, ◌≤◌, min, List, ◌++◌, length, take, drop, ap, arith}

-- so many words are copied where both slices have them
pub copied_all : (words : ℕ) (from to : List ℕ) → words ≤ length from → words ≤ length to
    → take (min words (min (length from) (length to))) from ++ drop (min words (min (length from) (length to))) to
    ≡ take words from ++ drop words to
copied_all words from to f t =
    let all : min words (min (length from) (length to)) ≡ words = omega arith in
    ap (λ (n : ℕ). take n from ++ drop n to) all
