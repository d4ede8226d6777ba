-- The faulty word is the first, and what is handed back is that word.
use Prim.Native.Nat.{ℕ, suc, ◌+◌, ◌-◌, ◌≤◌, ◌<◌}
use native.Mathlib.Omega.{arith}
use mathlib.Core.Bool.{Bool, true, false, ◌&&◌, ◌||◌, true≢false}
use mathlib.Core.List.{List, [], ◌∷◌, ◌++◌, append_assoc, map-append, cons-ne-nil, tail-eq_of_cons-eq, head-eq_of_cons-eq}
use mathlib.Core.Path.{◌≡◌, refl, sym, ap, ap₂, subst, ◌∙◌}
use lib.Dec.{eqb}
use lib.ListN.{length, take, drop, length-append, take-append-drop}
use lib.Seq.{take-append-le, take-append-add}
use borrow.Author.Tests.{ne_eqb}
use Rattle.lines.specs.Numbers.{is_digit}
use Rattle.language.specs.Words.{Word, word, is_blank, is_letter, is_joining, joins, grown, on_byte, words_from}
use Rattle.language.specs.Tokens.{token_of, tokens}
use Rattle.language.specs.Readings.{Begun, Fault, part_at}
use Rattle.language.specs.Claims.{First, PartIsTheWord}
use Rattle.language.proofs.OneAnswer.{begun_first}

-- ---- the first

-- some recipe begins with fewer of the words that one begins with
begun_fewer : (k : ℕ) (words : List Word) → Begun (tokens words) → Begun (tokens (take k words))
begun_fewer k words b =
    let split : tokens words ≡ tokens (take k words) ++ tokens (drop k words) = ap tokens (sym (take-append-drop k words)) ∙ simp map-append in
    begun_first (tokens (take k words)) (tokens (drop k words)) (rw split at b)

pub first : {words rest : List Word} → Fault words rest → First words rest
first {words} {rest} f = record { before = f.before; split = f.split; begun = before; stuck = λ k many h. beyond rest refl k many h }
  where
    before : (k : ℕ) → k ≤ length f.before → Begun (tokens (take k words))
    before k few =
        let front : take k words ≡ take k f.before = ap (take k) f.split ∙ take-append-le k f.before rest few in
        subst (λ (l : List Word). Begun (tokens l)) (sym front) (begun_fewer k f.before f.begun)

    beyond : (last : List Word) → rest ≡ last → (k : ℕ) → length f.before < k → k ≤ length words → Begun (tokens (take k words)) → ⊥
    beyond [] e k many h b =
        let all : length words ≡ length f.before + length rest = ap length f.split ∙ length-append f.before rest in
        let none : length rest ≡ 0 = ap length e in
        omega arith
    beyond (w ∷ last) e k many h b =
        let size : k ≡ length f.before + suc (k - (length f.before + 1)) = omega arith in
        let front : take k words ≡ f.before ++ w ∷ take (k - (length f.before + 1)) last =
        ap₂ take size (f.split ∙ ap (λ (l : List Word). f.before ++ l) e) ∙ take-append-add f.before (w ∷ last) (suc (k - (length f.before + 1))) in
        let begun : tokens (take k words) ≡ (tokens f.before ++ token_of w.bytes ∷ []) ++ tokens (take (k - (length f.before + 1)) last) =
        ap tokens front ∙ simp (map-append, append_assoc) in
        f.stuck w last e (begun_first (tokens f.before ++ token_of w.bytes ∷ []) _ (rw begun at b))

-- ---- the part

-- The words of a text whose first byte has the place at: each stands where it starts.
abbrev Placed : ℕ → List ℕ → List Word → Type 0
Placed at text words = (before rest : List Word) (w : Word) → words ≡ before ++ w ∷ rest → (at ≤ w.start) × (take (length w.bytes) (drop (w.start - at) text) ≡ w.bytes)

-- words that stand where they start do so with a byte more before the text
later : (at byte : ℕ) (text : List ℕ) (words : List Word) → Placed (at + 1) text words → Placed at (byte ∷ text) words
later at byte text words p before rest w e =
    let q = p before rest w e in
    let on : w.start - at ≡ suc (w.start - (at + 1)) = omega (arith, q.0) in
    (omega (arith, q.0), ap (λ (n : ℕ). take (length w.bytes) (drop n (byte ∷ text))) on ∙ q.1)

-- the first of the words is this one
first_is : (at byte : ℕ) (bytes text : List ℕ) (words : List Word) → take (length bytes) text ≡ bytes → Placed (at + 1) text words
    → Placed at (byte ∷ text) (word at (byte ∷ bytes) ∷ words)
first_is at byte bytes text words e p [] rest w f =
    let here : word at (byte ∷ bytes) ≡ w = head-eq_of_cons-eq f in
    let none : at - at ≡ 0 = omega arith in
    subst (λ (x : Word). (at ≤ x.start) × (take (length x.bytes) (drop (x.start - at) (byte ∷ text)) ≡ x.bytes)) here
    (omega arith, ap (λ (n : ℕ). take (length (byte ∷ bytes)) (drop n (byte ∷ text))) none ∙ ap (λ (l : List ℕ). byte ∷ l) e)
first_is at byte bytes text words e p (v ∷ before) rest w f = later at byte text words p before rest w (tail-eq_of_cons-eq f)

-- ---- the first word of a text that begins with a letter or a digit

joining_not : (byte k : ℕ) → is_joining byte ≡ true → is_joining k ≡ false → eqb byte k ≡ false
joining_not byte k e f = ne_eqb byte k (λ q. let z : ◌≡◌ {A = ℕ} 0 1 = cc in omega arith)

pub joining_blank : (byte : ℕ) → is_joining byte ≡ true → is_blank byte ≡ false
unfolding is_blank is_joining is_letter is_digit
joining_blank byte e = ap₂ (λ (a b : Bool). a || b) (joining_not byte 32 e refl) (joining_not byte 10 e refl)

-- what such a word is at the front of
record Front (at : ℕ) (text : List ℕ) : Type 0 where
  bytes : List ℕ
  rest : List Word
  words : words_from at text ≡ word at bytes ∷ rest
  is : take (length bytes) text ≡ bytes

front : (at : ℕ) (text : List ℕ) → joins text ≡ true → Front at text
unfolding joins words_from on_byte grown
front at [] e = absurd (true≢false (sym e))
front at (byte ∷ text) e = by (joins text) refl (front (at + 1) text)
  where
    on : (b : Bool) → joins text ≡ b → words_from at (byte ∷ text) ≡ on_byte false b at byte (words_from (at + 1) text)
    on b j = ap₂ (λ (a c : Bool). on_byte a c at byte (words_from (at + 1) text)) (joining_blank byte e) (ap₂ (λ (a c : Bool). a && c) e j)

    by : (b : Bool) → joins text ≡ b → (joins text ≡ true → Front (at + 1) text) → Front at (byte ∷ text)
    by true j more =
        let f = more j in
        record {
          bytes = byte ∷ f.bytes;
          rest = f.rest;
          words = on true j ∙ ap (grown at byte) f.words;
          is = ap (λ (l : List ℕ). byte ∷ l) f.is;
        }
    by false j more = record { bytes = byte ∷ []; rest = words_from (at + 1) text; words = on false j; is = refl }

-- ---- every word

not_nil : (before rest : List Word) (w : Word) → ◌≡◌ {A = List Word} [] (before ++ w ∷ rest) → ⊥
not_nil [] rest w e = cons-ne-nil w rest (sym e)
not_nil (v ∷ before) rest w e = cons-ne-nil v (before ++ w ∷ rest) (sym e)

placed : (at : ℕ) (text : List ℕ) → Placed at text (words_from at text)
unfolding words_from on_byte grown
placed at [] = λ before rest w e. absurd (not_nil before rest w e)
placed at (byte ∷ text) = by (is_blank byte) (is_joining byte) (joins text) refl (placed (at + 1) text)
  where
    by : (blank joining joined : Bool) → joins text ≡ joined → Placed (at + 1) text (words_from (at + 1) text)
        → Placed at (byte ∷ text) (on_byte blank (joining && joined) at byte (words_from (at + 1) text))
    by true joining joined j p = later at byte text (words_from (at + 1) text) p
    by false true true j p =
        let f = front (at + 1) text j in
        let q = subst (Placed (at + 1) text) f.words p in
        let first = word (at + 1) f.bytes in
        subst (λ (l : List Word). Placed at (byte ∷ text) (grown at byte l)) (sym f.words)
        (first_is at byte f.bytes text f.rest f.is (λ before rest w e. q (first ∷ before) rest w (ap (λ (l : List Word). first ∷ l) e)))
    by false true false j p = first_is at byte [] text (words_from (at + 1) text) refl p
    by false false joined j p = first_is at byte [] text (words_from (at + 1) text) refl p

pub part_is_the_word : PartIsTheWord
unfolding part_at
part_is_the_word text before rest w e =
    let whole : w.start ≡ w.start - 0 = omega arith in
    ap (λ (n : ℕ). take (length w.bytes) (drop n text)) whole ∙ (placed 0 text before rest w e).1
