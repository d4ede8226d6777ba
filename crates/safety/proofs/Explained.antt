-- What a run is stopped because of: some variable where the context is settled, and marked variables alone.
use Prim.Native.Nat.{ℕ}
use mathlib.Core.Bool.{Bool, true, false, ◌||◌, ◌&&◌, or-false, true≢false}
use mathlib.Core.Path.{◌≡◌, sym, ap, ◌∙◌, subst}
use lib.Dec.{eqb}
use Rattle.rules.specs.Marks.{◌⊆◌, provisional}
use Rattle.rules.specs.Values.{level}
use Rattle.rules.specs.Running.{State, context}
use Rattle.rules.proofs.AgreeLaws.{level_within}
use Rattle.rules.proofs.StopLaws.{Spoiled, spoiled, stopped_spoiled}
use Rattle.safety.specs.Demands.{StopsAreExplained}

-- an output that is denied in a settled context has a provisional expression
in_settled : (channel : Bool) (x y : Bool) → (channel && (x || y)) ≡ true → y ≡ false → x ≡ true
in_settled true x y denied settled = sym (or-false x) ∙ ap (λ (b : Bool). x || b) (sym settled) ∙ denied
in_settled false x y denied settled = absurd (true≢false (sym denied))

some_spoiled : (σ : State) (because : ℕ) → Spoiled σ because → context σ.pile ≡ false → provisional because ≡ true
some_spoiled σ because (spoiled channel e denied same) settled =
    ap provisional same
    ∙ in_settled (eqb channel 0) (provisional (level σ.marks e)) (context σ.pile) denied settled

spoiled_marked : (σ : State) (because : ℕ) → Spoiled σ because → because ⊆ σ.marks
spoiled_marked σ because (spoiled channel e denied same) =
    subst (λ (set : ℕ). set ⊆ σ.marks) (sym same) (level_within σ.marks e)

pub stops_are_explained : StopsAreExplained
stops_are_explained terms budget σ row because stopped =
    let at = stopped_spoiled terms row because budget σ stopped in
    record { some = some_spoiled _ because at; all_marked = spoiled_marked _ because at }
