-- What the exit of a `?` hands on.
use mathlib.Core.Path.{◌≡◌, ap}
use Rattle.std.specs.Prelude.{Result, Ok, Err, IsErrAnd}

pub handed_on : {T E : Type 0} {e : E} (r : Result T E) → IsErrAnd r (λ y. y ≡ e) → r ≡ Err e
handed_on (Ok x) h = absurd h
handed_on (Err y) h = ap Err h
