-- A word that is to be a variable: what follows from the answer on it.
use Prim.Native.Nat.{ℕ, ◌<◌}
use mathlib.Core.Bool.{Bool, true, false}
use mathlib.Core.List.{List, [], ◌∷◌}
use mathlib.Core.Path.{◌≡◌, refl, sym, ap, ap₂, subst}
use Rattle.rules.specs.Limits.{width}
use Rattle.language.specs.Tokens as word
use Rattle.language.specs.Tokens.{Token, token_of}
use Rattle.language.proofs.KnownWords.{AllKnown, tokens_known}
use Rattle.language.proofs.Unambiguous.{clash}
use Rattle.spans.specs.Cut.{from, part, Begun, Cut}
use Rattle.spans.specs.declared.Span.{Span}
use Rattle.spans.proofs.WordLaws.{cut_begun, cut_found, cut_start}
use Rattle.reader.specs.Machine.{is_variable, name, expected}
use Rattle.reader.specs.Atoms.{Atom, atom_of, AtomIs, VariableAt}
use Rattle.reader.specs.Steps.{Stuck}
use Rattle.reader.specs.Statements.{Led}
use Rattle.reader.specs.Atoms as atom
use Rattle.std.specs.Prelude.{Option, Some, None}
use Rattle.numbers.specs.declared.Parsed.{Parsed}
use Rattle.reader.proofs.FaultLaws.{is_variable_lem}
use Rattle.reader.proofs.AtomLaws.{atom_is}
use Rattle.reader.proofs.PlaceLaws.{led_token, led_some, stuck_cut}

abbrev Nameless : Atom → Type 0
Nameless a = (v : ℕ) → a ≡ atom.variable v → ⊥

nameless_token : (t : Token) → Nameless (atom_of t) → is_variable t ≡ false
unfolding atom_of
nameless_token t none = by (is_variable t) refl
  where
    by : (b : Bool) → is_variable t ≡ b → b ≡ false
    by true h = let found = is_variable_lem t h in absurd (none found.0 (ap atom_of found.1))
    by false h = refl

-- the word that starts at a place, from an earlier place on
module _ {text : List ℕ} {from_place start : ℕ} {name-at : Option (Parsed ℕ)} (begun : Begun text from_place start) (said : VariableAt text start name-at) where
  told : (other : Option (Parsed ℕ)) → name-at ≡ other → (w : Span) → Cut text start w
      → AtomIs atom.variable (atom_of (token_of (part text w.start w.end))) w.end other
  told other e w c = subst (AtomIs atom.variable (atom_of (token_of (part text w.start w.end))) w.end) e (said begun.inside begun.shown w c)

  pub led_name : {read : Parsed ℕ} → name-at ≡ Some read → Led text from_place (word.variable read.value) read.next
  led_name {read} e =
      let found = cut_found begun in
      let known = told (Some read) e found.0 found.1 in
      subst (Led text from_place (word.variable read.value)) (sym known.0)
      (led_token (cut_begun begun found.1) (atom_is _ known.1) (λ e. clash (cc)))

  -- where it stands
  pub cut_name : {read : Parsed ℕ} → name-at ≡ Some read → Cut text from_place (record { start = start; end = read.next })
  cut_name {read} e =
      let found = cut_found begun in
      let known = told (Some read) e found.0 found.1 in
      let c = cut_begun begun found.1 in
      let ends : found.0.end ≡ read.next = sym known.0 in
      let some = led_some c (led_name e) in
      let starts = cut_start begun found.1 some in
      subst (Cut text from_place) (ap₂ (λ (a b : ℕ). record { start = a; end = b }) starts ends) c

  pub lacks_name : name-at ≡ None → Stuck text from_place (name ∷ []) from_place
  lacks_name e =
      let found = cut_found begun in
      stuck_cut (cut_begun begun found.1) name refl (ap expected (nameless_token _ (told None e found.0 found.1)))

pub variable_known : {text : List ℕ} {at next v : ℕ} → Led text at (word.variable v) next → v < width
variable_known {text} {at} led = (subst AllKnown led.is (tokens_known (from text at))).0
