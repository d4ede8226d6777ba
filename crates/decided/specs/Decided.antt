-- 10.10: The contract of each public function decides the whole answer and everything lent, for every input: no second
-- answer meets it, but for the exceptions that are listed.
use Rattle.std.specs.Prelude.{◌≡◌}
use contract.Lifetimes.{Lfts}
use denote.Exit.{yes}
use denote.Signature.{Signature}
use denote.Triple.Entry.{Args, Res}
use denote.Triple.End.{all}
use denote.Triple.Clauses.{Ended, Lasts, AtExit, at_exit}

-- A call of a function, after which everything that was lent to it is looked at.
abbrev pub call_of : Signature → Ended
call_of f = record { signature = f; kept = all yes f.params }

-- What a contract says of a call: a claim on the arguments, the answer, and the parameters afterwards.
abbrev pub Contract : Signature → Type 1
Contract f = (κs : Lfts f.lifetimes) → Args f κs → Res f κs → AtExit (call_of f) κs → Type 0

-- Two answers, each with what it left in everything that was lent, which meet the contract for the same inputs, are equal.
abbrev pub Decided : (f : Signature) → Contract f → Type 0
Decided f Meets =
    (κs : Lfts f.lifetimes) (args : Args f κs) (answer second : Res f κs) (left left_by_second : Lasts (call_of f) κs args)
    → Meets κs args answer (at_exit (call_of f) κs args left)
    → Meets κs args second (at_exit (call_of f) κs args left_by_second)
    → (answer ≡ second) × (left ≡ left_by_second)
