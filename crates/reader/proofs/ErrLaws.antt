-- What a `?` hands on.
use Rattle.std.proofs.Common.{◌≡◌, ap, ◌∙◌, Option, None, Some, Result, Ok, Err}
use Rattle.std.specs.Option.{ok_or}
use Rattle.std.specs.Result.{IsErrAnd}
use Rattle.language.proofs.Unambiguous.{clash}

-- what is answered where something was not found
pub err_missing : {T A E : Type 0} (r : Result A E) (o : Option T) {e f : E} → IsErrAnd r (λ y. y ≡ f) → o ≡ None → Err f ≡ ok_or o e → r ≡ Err e
err_missing (Ok x) o h none is = absurd h
err_missing (Err y) (Some v) h none is = clash (cc)
err_missing (Err y) None {e} {f} h none is = let same : f ≡ e = cc in ap Err (h ∙ same)
