-- Laws of words that are cut from a text: what a blank, a letter and a digit are, the first word from a place on, a part of a
-- text, and a word that is compared with a key.
use Prim.Native.Nat.{ℕ, zero, suc, ◌+◌, ◌-◌, ◌≤◌, ◌<◌, min}
use native.Mathlib.Omega.{arith}
use mathlib.Core.Bool.{true≢false, Bool, true, false, ◌&&◌, ◌||◌}
use mathlib.Core.List.{List, [], ◌∷◌}
use mathlib.Core.Path.{◌≡◌, refl, sym, ap, ap₂, subst, ◌∙◌}
use lib.Dec.{leb, ltb, eqb}
use lib.ListN.{length, get_or, take, drop, drop_of_length-le, length-take, length-drop}
use lib.Seq.{take_all}
use borrow.Author.Tests.{eq-eqb, ne_eqb, leb-true, leb-false, ltb-true, ltb-false, eqb-true, eqb-false}
use Rattle.std.proofs.Common.{Option, None, Some}
use Rattle.std.proofs.lemmas.List.{get_or-drop}
use Rattle.std.proofs.Common.{rules}
use Rattle.std.proofs.lemmas.Bool.Decides.{same_from_decides}
use Rattle.std.proofs.lemmas.Slice.Eq.{compares_Decides}
use Rattle.std.specs.Char.{is_ascii_alphanumeric}
use Rattle.std.specs.Int.{is_in_range}
use Rattle.std.specs.List.{AllWithin, HoldsAt}
use Rattle.std.specs.Option.{MatchOption, unwrap_or}
use Rattle.lines.specs.Numbers.{is_digit}
use Rattle.lines.proofs.NumberLaws.{drop_next}
use Rattle.language.specs.Words.{is_blank, is_letter, is_joining, word, joins, grown, on_byte, words_from}
use Rattle.language.specs.Tokens.{same}
use Rattle.language.specs.declared.Part.{Part}
use Rattle.language.specs.Readings.{part_at}
use Rattle.language.proofs.Faults.{joining_blank}
use Rattle.spans.specs.declared.Span.{Span}
use Rattle.spans.specs.Cut.{from, part, Begun, Cut, JoinedTo}

-- ---- blanks, letters and digits

pub joining_is : (byte : ℕ) → is_ascii_alphanumeric byte ≡ is_joining byte
unfolding is_joining is_letter is_digit
joining_is byte = turned (is_in_range 48 57 byte) (is_in_range 65 90 byte) (is_in_range 97 122 byte)
  where
    turned : (a b c : Bool) → ((a || b) || c) ≡ ((b || c) || a)
    turned true true true = refl
    turned true true false = refl
    turned true false true = refl
    turned true false false = refl
    turned false true c = refl
    turned false false true = refl
    turned false false false = refl

-- ---- how far bytes of a sort stand

-- A test passes from a place to another, and not there.
pub record RunTo (test : ℕ → Bool) (text : List ℕ) (at end : ℕ) : Type 0 where
  pub later : at ≤ end
  pub inside : end ≤ length text
  pub run : (i : ℕ) → i < end → at ≤ i → test (get_or text i 0) ≡ true
  pub over : end < length text → test (get_or text end 0) ≡ false

-- what the first byte that fails the test says, from a place on
pub run_to : (test : ℕ → Bool) (text : List ℕ) (at : ℕ) (found : Option ℕ) → at ≤ length text
    → let rest = take (length text - at) (drop at text) in
    MatchOption found (AllWithin (λ b. test b ≡ true) rest 0 (length rest))
    (λ i. (i < length rest) × HoldsAt (λ b. test b ≡ false) rest i × AllWithin (λ b. test b ≡ true) rest 0 i)
    → RunTo test text at (at + unwrap_or found (length rest))
run_to test text at found h first = by found first
  where
    rest : List ℕ
    rest = take (length text - at) (drop at text)

    all_of_it : take (length text - at) (drop at text) ≡ drop at text
    all_of_it = take_all (length text - at) (drop at text) (simp length-drop (omega arith))

    size : length (take (length text - at) (drop at text)) ≡ length text - at
    size = ap length all_of_it ∙ length-drop at text

    byte : (i k : ℕ) → at + k ≡ i → get_or (take (length text - at) (drop at text)) k 0 ≡ get_or text i 0
    byte i k e = ap (λ (l : List ℕ). get_or l k 0) all_of_it ∙ get_or-drop at text k 0 ∙ ap (λ (j : ℕ). get_or text j 0) e

    by : (found : Option ℕ)
        → MatchOption found (AllWithin (λ b. test b ≡ true) (take (length text - at) (drop at text)) 0 (length (take (length text - at) (drop at text))))
        (λ i. (i < length (take (length text - at) (drop at text))) × HoldsAt (λ b. test b ≡ false) (take (length text - at) (drop at text)) i
        × AllWithin (λ b. test b ≡ true) (take (length text - at) (drop at text)) 0 i)
        → RunTo test text at (at + unwrap_or found (length (take (length text - at) (drop at text))))
    by None all =
        let long = size in
        record {
          later = omega arith;
          inside = omega arith;
          run = λ i k l. sym (ap test (byte i (i - at) (omega arith))) ∙ all (i - at) 0 (omega arith) (omega arith);
          over = λ k. absurd (omega arith);
        }
    by (Some n) some =
        let long = size in
        let within : n < length (take (length text - at) (drop at text)) = some.0 in
        record {
          later = omega arith;
          inside = omega arith;
          run = λ i k l. sym (ap test (byte i (i - at) (omega arith))) ∙ some.2 (i - at) 0 (omega arith) (omega arith);
          over = λ k. sym (ap test (byte (at + n) n refl)) ∙ some.1 0;
        }

-- where letters and digits stand
pub joined_run : {text : List ℕ} {at end : ℕ} → RunTo is_joining text at end → JoinedTo text at end
joined_run r = record { later = r.later; inside = r.inside; run = r.run; over = r.over }

-- ---- a part of a text

pub part_next : (text : List ℕ) (start end : ℕ) → start < end → start < length text
    → part text start end ≡ get_or text start 0 ∷ part text (start + 1) end
part_next text start end h k =
    let size : end - start ≡ suc (end - (start + 1)) = omega arith in
    ap₂ take size (drop_next text start k)

pub part_one : (text : List ℕ) (start : ℕ) → start < length text → part text start (start + 1) ≡ get_or text start 0 ∷ []
part_one text start k =
    let size : (start + 1) - start ≡ 1 = omega arith in
    ap₂ take size (drop_next text start k)

pub part_length : (text : List ℕ) (start end : ℕ) → end ≤ length text → length (part text start end) ≡ end - start
part_length text start end h = simp (length-take, length-drop) (omega arith)

-- ---- the words from a place on, by the byte there

words_on : (text : List ℕ) (at : ℕ) → at < length text
    → from text at
    ≡ on_byte (is_blank (get_or text at 0)) (is_joining (get_or text at 0) && joins (drop (at + 1) text)) at (get_or text at 0) (from text (at + 1))
unfolding words_from
words_on text at h = ap (words_from at) (drop_next text at h)

pub words_end : (text : List ℕ) (at : ℕ) → length text ≤ at → from text at ≡ []
unfolding words_from
words_end text at h = ap (words_from at) (drop_of_length-le text h)

pub words_blank : (text : List ℕ) (at : ℕ) → at < length text → is_blank (get_or text at 0) ≡ true → from text (at + 1) ≡ from text at
unfolding on_byte
words_blank text at h e =
    sym
    (words_on text at h
    ∙ ap (λ (b : Bool). on_byte b (is_joining (get_or text at 0) && joins (drop (at + 1) text)) at (get_or text at 0) (from text (at + 1))) e)

-- where blanks stand from some place on
pub begun_run : (text : List ℕ) (at first start : ℕ) → first ≡ min at (length text) → RunTo is_blank text first start → Begun text at start
begun_run text at first start e r =
    record {
      inside = r.inside;
      later = λ h. omega (arith, r.later);
      same = sym (passed (start - first) first (omega (arith, r.later)) r.run) ∙ begins (leb at (length text)) refl;
      shown = r.over;
    }
  where
    passed : (n i : ℕ) → i + n ≡ start → ((k : ℕ) → k < start → i ≤ k → is_blank (get_or text k 0) ≡ true) → from text i ≡ from text start
    passed zero i q blanks = ap (from text) (omega arith)
    passed (suc n) i q blanks =
        let inside = r.inside in
        sym (words_blank text i (omega arith) (blanks i (omega arith) (omega arith)))
        ∙ passed n (i + 1) (omega arith) (λ k h l. blanks k h (omega arith))

    begins : (b : Bool) → leb at (length text) ≡ b → from text first ≡ from text at
    begins true f =
        let h = leb-true at (length text) f in
        ap (from text) (omega arith)
    begins false f =
        let h = leb-false at (length text) f in
        words_end text first (omega arith) ∙ sym (words_end text at (omega arith))

words_one : (text : List ℕ) (at : ℕ) → at < length text → is_blank (get_or text at 0) ≡ false
    → (is_joining (get_or text at 0) && joins (drop (at + 1) text)) ≡ false
    → from text at ≡ word at (part text at (at + 1)) ∷ from text (at + 1)
unfolding on_byte
words_one text at h blank joined =
    words_on text at h
    ∙ ap₂ (λ (a b : Bool). on_byte a b at (get_or text at 0) (from text (at + 1))) blank joined
    ∙ ap (λ (bytes : List ℕ). word at bytes ∷ from text (at + 1)) (sym (part_one text at h))

pub joins_at : (text : List ℕ) (at : ℕ) → at < length text → joins (drop at text) ≡ is_joining (get_or text at 0)
unfolding joins
joins_at text at h = ap joins (drop_next text at h)

pub joins_not : (text : List ℕ) (at : ℕ) → (at < length text → is_joining (get_or text at 0) ≡ false) → joins (drop at text) ≡ false
unfolding joins
joins_not text at h = by (ltb at (length text)) refl
  where
    by : (b : Bool) → ltb at (length text) ≡ b → joins (drop at text) ≡ false
    by true e = let k = ltb-true at (length text) e in joins_at text at k ∙ h k
    by false e = ap joins (drop_of_length-le text (ltb-false at (length text) e))

-- Letters and digits that stand together are one word.
words_run : (n : ℕ) (text : List ℕ) (at end : ℕ) → at + 1 + n ≡ end → is_joining (get_or text at 0) ≡ true → JoinedTo text (at + 1) end
    → from text at ≡ word at (part text at end) ∷ from text end
unfolding on_byte grown
words_run zero text at end e joining j =
    let q : at + 1 ≡ end = omega arith in
    words_one text at (omega (arith, j.inside)) (joining_blank (get_or text at 0) joining)
    (ap₂ (λ (a b : Bool). a && b) joining (joins_not text (at + 1) (rw q j.over)))
    ∙ ap (λ (k : ℕ). word at (part text at k) ∷ from text k) q
words_run (suc n) text at end e joining j =
    let inside = j.inside in
    let next : is_joining (get_or text (at + 1) 0) ≡ true = j.run (at + 1) (omega arith) (omega arith) in
    let rest : JoinedTo text (at + 1 + 1) end =
    record { later = omega arith; inside = inside; run = λ i h k. j.run i h (omega arith); over = j.over } in
    let more = words_run n text (at + 1) end (omega arith) next rest in
    words_on text at (omega arith)
    ∙ ap₂ (λ (a b : Bool). on_byte a b at (get_or text at 0) (from text (at + 1))) (joining_blank (get_or text at 0) joining)
    (ap₂ (λ (a b : Bool). a && b) joining (joins_at text (at + 1) (omega arith) ∙ next))
    ∙ ap (grown at (get_or text at 0)) more
    ∙ ap (λ (bytes : List ℕ). word at bytes ∷ from text end) (sym (part_next text at end (omega arith) (omega arith)))

-- ---- the first word from a place on

abbrev span : ℕ → ℕ → Span
span start end = record { start = start; end = end }

-- the word that starts there is cut off
cut_word : (text : List ℕ) (start end : ℕ) → start < end → end ≤ length text
    → from text start ≡ word start (part text start end) ∷ from text end → Cut text start (span start end)
cut_word text start end h inside e =
    record { forward = omega arith; inside = inside; later = λ _. omega arith; first = λ _. e; last = λ q. absurd (omega arith) }

pub cut_run : (text : List ℕ) (start end : ℕ) → is_joining (get_or text start 0) ≡ true → JoinedTo text (start + 1) end
    → Cut text start (span start end)
cut_run text start end joining j =
    let later = j.later in
    cut_word text start end (omega arith) j.inside (words_run (end - (start + 1)) text start end (omega arith) joining j)

pub cut_one : (text : List ℕ) (start : ℕ) → start < length text → is_blank (get_or text start 0) ≡ false
    → is_joining (get_or text start 0) ≡ false → Cut text start (span start (start + 1))
cut_one text start h blank joining =
    cut_word text start (start + 1) (omega arith) (omega arith)
    (words_one text start h blank (ap (λ (b : Bool). b && joins (drop (start + 1) text)) joining))

pub cut_end : (text : List ℕ) (i : ℕ) → length text ≤ i → Cut text i (span (length text) (length text))
cut_end text i h =
    record {
      forward = omega arith;
      inside = omega arith;
      later = λ k. absurd (omega arith);
      first = λ k. absurd (omega arith);
      last = λ _. (refl, words_end text i h);
    }

-- from an earlier place between which and this one no word starts
pub cut_begun : {text : List ℕ} {at start : ℕ} {s : Span} → Begun text at start → Cut text start s → Cut text at s
cut_begun b c =
    record {
      forward = c.forward;
      inside = c.inside;
      later = λ k. let on = c.later k in let inside = c.inside in omega (arith, b.later (omega arith));
      first = λ k. sym b.same ∙ c.first k;
      last = λ k. ((c.last k).0, sym b.same ∙ (c.last k).1);
    }

-- the part of the text that is handed back, where the first word from a place on is at fault
pub cut_part : {text : List ℕ} {at : ℕ} {s : Span} → Cut text at s
    → part_at text (from text at) ≡ record { start = s.start; size = s.end - s.start }
unfolding part_at
cut_part {text} {at} {s} c = by (ltb s.start s.end) refl
  where
    by : (b : Bool) → ltb s.start s.end ≡ b → part_at text (from text at) ≡ record { start = s.start; size = s.end - s.start }
    by true e =
        ap (part_at text) (c.first (ltb-true s.start s.end e))
        ∙ ap (λ (n : ℕ). record { start = s.start; size = n }) (part_length text s.start s.end c.inside)
    by false e =
        let h = ltb-false s.start s.end e in
        let q : s.start ≡ s.end = omega (arith, c.forward) in
        let at_end_lem : length text ≡ s.start = omega (arith, (c.last q).0) in
        let size : 0 ≡ s.end - s.start = omega arith in
        ap (part_at text) (c.last q).1 ∙ ap₂ (λ (k n : ℕ). record { start = k; size = n }) at_end_lem size

-- no second span is the first word's
pub cut_once : {text : List ℕ} {at : ℕ} {s t : Span} → Cut text at s → Cut text at t → s ≡ t
cut_once {text} {at} {s} {t} c d =
    let parts = sym (cut_part c) ∙ cut_part d in
    let starts : s.start ≡ t.start = ap (λ (p : Part). p.start) parts in
    let sizes : s.end - s.start ≡ t.end - t.start = ap (λ (p : Part). p.size) parts in
    let ends : s.end ≡ t.end = omega (arith, c.forward, d.forward) in
    ap₂ span starts ends

-- ---- the word that starts at a place

-- letters and digits stand from every place to some place
joined_end : (n : ℕ) (text : List ℕ) (at : ℕ) → at + n ≡ length text → (end : ℕ) × JoinedTo text at end
joined_end zero text at e =
    (at, record { later = omega arith; inside = omega arith; run = λ i h k. absurd (omega arith); over = λ h. absurd (omega arith) })
joined_end (suc n) text at e = by (is_joining (get_or text at 0)) refl (joined_end n text (at + 1) (omega arith))
  where
    by : (b : Bool) → is_joining (get_or text at 0) ≡ b → (end : ℕ) × JoinedTo text (at + 1) end → (end : ℕ) × JoinedTo text at end
    by false f more =
        (at, record { later = omega arith; inside = omega arith; run = λ i h k. absurd (omega arith); over = λ h. f })
    by true f (end, j) = (
      end,
      record { later = omega (arith, j.later); inside = j.inside; run = λ i h k. here i h k (eqb i at) refl; over = j.over },
    )
      where
        here : (i : ℕ) → i < end → at ≤ i → (b : Bool) → eqb i at ≡ b → is_joining (get_or text i 0) ≡ true
        here i h k true q = ap (λ (j : ℕ). is_joining (get_or text j 0)) (eqb-true i at q) ∙ f
        here i h k false q = let ne = eqb-false i at q in j.run i h (omega arith)

module _ {text : List ℕ} {at : ℕ} where
  -- where the first byte is a letter or a digit, the word goes on as long as such stand there
  pub cut_joined : {s : Span} → at < length text → is_joining (get_or text at 0) ≡ true → Cut text at s → (s.start ≡ at) × JoinedTo text (at + 1) s.end
  cut_joined {s} h joining c =
      let found = joined_end (length text - (at + 1)) text (at + 1) (omega arith) in
      let is : s ≡ span at found.0 = cut_once c (cut_run text at found.0 joining found.1) in
      (ap (λ (w : Span). w.start) is, subst (λ (w : Span). JoinedTo text (at + 1) w.end) (sym is) found.1)

  -- there is a word, and it starts there
  pub cut_some : at < length text → is_blank (get_or text at 0) ≡ false → (end : ℕ) × (at < end) × Cut text at (span at end)
  cut_some h blank = by (is_joining (get_or text at 0)) refl
    where
      by : (b : Bool) → is_joining (get_or text at 0) ≡ b → (end : ℕ) × (at < end) × Cut text at (span at end)
      by true joining =
          let found = joined_end (length text - (at + 1)) text (at + 1) (omega arith) in
          (found.0, omega (arith, found.1.later), cut_run text at found.0 joining found.1)
      by false joining = (at + 1, omega arith, cut_one text at h blank joining)

-- there is a word from every place on, or none
pub cut_found : {text : List ℕ} {at start : ℕ} → Begun text at start → (s : Span) × Cut text start s
cut_found {text} {at} {start} b = by (ltb start (length text)) refl
  where
    by : (some : Bool) → ltb start (length text) ≡ some → (s : Span) × Cut text start s
    by true h =
        let room = ltb-true start (length text) h in
        let found = cut_some room (b.shown room) in
        (span start found.0, found.2)
    by false h = (span (length text) (length text), cut_end text start (ltb-false start (length text) h))

pub cut_start : {text : List ℕ} {at start : ℕ} {s : Span} → Begun text at start → Cut text start s → s.start < s.end → s.start ≡ start
cut_start {text} {start = start} b c some =
    let later = c.later some in
    let inside = c.inside in
    let room : start < length text = omega arith in
    ap (λ (w : Span). w.start) (cut_once c (cut_some room (b.shown room)).2)

-- no second place is the first where no blank stands
pub begun_once : {text : List ℕ} {at start other : ℕ} → Begun text at start → Begun text at other → start ≡ other
begun_once {text} {at} {start} {other} b c = sym (place b (ltb start (length text)) refl) ∙ place c (ltb other (length text)) refl
  where
    ahead : {i : ℕ} → Begun text at i → i < length text → (part_at text (from text at)).start ≡ i
    ahead {i} d h =
        let found = cut_some h (d.shown h) in
        ap (λ (p : Part). p.start) (cut_part (cut_begun d found.2))

    past : {i : ℕ} → Begun text at i → length text ≤ i → (part_at text (from text at)).start ≡ i
    past {i} d h =
        let ends : length text ≡ i = omega (arith, d.inside) in
        ap (λ (p : Part). p.start) (cut_part (cut_begun d (cut_end text i h))) ∙ ends

    place : {i : ℕ} → Begun text at i → (b : Bool) → ltb i (length text) ≡ b → (part_at text (from text at)).start ≡ i
    place {i} d true h = ahead d (ltb-true i (length text) h)
    place {i} d false h = past d (ltb-false i (length text) h)

-- ---- a key and a word

same_both : (key word : List ℕ) (i : ℕ) → i < length key → i < length word
    → same (drop i key) (drop i word) ≡ (eqb (get_or key i 0) (get_or word i 0) && same (drop (i + 1) key) (drop (i + 1) word))
unfolding same
same_both key word i h k = ap₂ same (drop_next key i h) (drop_next word i k)

pub same_again : (key word : List ℕ) (i : ℕ) → i < length key → i < length word → get_or key i 0 ≡ get_or word i 0
    → same (drop (i + 1) key) (drop (i + 1) word) ≡ same (drop i key) (drop i word)
same_again key word i h k e =
    sym
    (same_both key word i h k
    ∙ ap (λ (b : Bool). b && same (drop (i + 1) key) (drop (i + 1) word)) (eq-eqb (get_or key i 0) (get_or word i 0) e))

pub same_differs : (key word : List ℕ) (i : ℕ) → i < length key → i < length word → (get_or key i 0 ≡ get_or word i 0 → ⊥)
    → false ≡ same (drop i key) (drop i word)
same_differs key word i h k ne =
    sym
    (same_both key word i h k
    ∙ ap (λ (b : Bool). b && same (drop (i + 1) key) (drop (i + 1) word)) (ne_eqb (get_or key i 0) (get_or word i 0) ne))

pub same_end : (key word : List ℕ) (i : ℕ) → length key ≤ i → length word ≤ i → true ≡ same (drop i key) (drop i word)
unfolding same
same_end key word i h k = sym (ap₂ same (drop_of_length-le key h) (drop_of_length-le word k))

pub same_lengths : (key word : List ℕ) → (length word ≡ length key → ⊥) → false ≡ same key word
unfolding same
same_lengths key word ne =
    same_from_decides false (same key word) ((λ e. absurd (true≢false (sym e))), λ e. absurd (ne (sym (ap length e))))
    (compares_Decides same (search rules) key word)
