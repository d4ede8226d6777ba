-- One turn of reading an expression, for each word that may stand there, and all turns together.
use Prim.Native.Nat.{ℕ, ◌+◌, ◌-◌, ◌*◌, ◌/◌, ◌%◌, ◌≤◌, ◌<◌}
use native.Mathlib.Omega.{arith}
use mathlib.Core.Bool.{Bool, true, false, ◌||◌}
use mathlib.Core.List.{List, [], ◌∷◌, ◌++◌}
use mathlib.Core.Logic.{◌⊎◌, inl, inr}
use mathlib.Core.Path.{◌≡◌, refl, sym, ap, ◌∙◌, subst}
use lib.ListN.{length, get_or, set}
use Rattle.rules.specs.declared.Operator.{Operator}
use Rattle.rules.specs.Cases.{Quad}
use Rattle.rules.specs.Trees.{Expr, constant, variable, binary}
use Rattle.language.specs.Tokens as word
use Rattle.language.specs.Tokens.{Token, same, counted, token_of}
use Rattle.language.specs.Recipes.{expr_tokens}
use Rattle.rules.specs.Trees.{operator_number}
use Rattle.language.specs.Tables.{expr_below, expr_rows}
use Rattle.spans.specs.Cut.{part, Begun, Cut}
use Rattle.spans.specs.declared.Span.{Span}
use Rattle.spans.proofs.WordLaws.{cut_begun, cut_found}
use Rattle.reader.specs.Machine.{tag, is_word, is_variable, is_numeral, is_sign, Symbol, expr, stop, advance, on_expr, expected, may_end, run}
use Rattle.reader.specs.Atoms.{atom_of, AtomIs, VariableAt, ConstantAt, sign_of, SignAt}
use Rattle.rules.specs.Limits.{most_rows}
use Rattle.language.proofs.Unambiguous.{clash}
use Rattle.reader.specs.Rows.{row_put, rows_put}
use Rattle.reader.specs.Steps.{Asked, Stuck, Read, expressions}
use Rattle.reader.specs.Statements.{one_word, Compared, Led}
use Rattle.reader.specs.Frames.{Frame, waiting, having, most_held, frames_owed, Whole, nothing, just, frames_tokens, whole_tokens, Ready, Standing, Reached, Turned}
use Rattle.reader.specs.Atoms as atom
use Rattle.std.specs.Prelude.{Result, Ok, Err, Option, Some, None}
use Rattle.numbers.specs.declared.Parsed.{Parsed}
use Rattle.reader.specs.declared.expressions.Inside.{Inside}
use Rattle.reader.specs.declared.expressions.Place.{Place}
use Rattle.reader.proofs.SpellLaws.{spells_opening, spells_closing}
use Rattle.reader.proofs.AtomLaws.{atom_is, atom_nothing}
use Rattle.reader.proofs.PlaceLaws.{later_self, led_token, led_key, stuck_more, stuck_past, stuck_cut}
use Rattle.reader.proofs.FrameLaws.{symbols_after, run_reached, frames_owed_lem, open_one, put_one, sign_one, close_one}

-- ---- what a word is

no_expr : (t : Token) → is_word word.opening t ≡ false → (is_numeral t || is_variable t) ≡ false → on_expr t ≡ stop
unfolding on_expr
no_expr t shut other = rw (shut, other)

sign_fits : (t : Token) → ((is_sign t ≡ false) × (sign_of t ≡ None)) ⊎ ((o : Operator) × (t ≡ word.sign o) × (sign_of t ≡ Some o))
unfolding sign_of tag
sign_fits word.skip = inl (refl, refl)
sign_fits word.set = inl (refl, refl)
sign_fits word.if = inl (refl, refl)
sign_fits word.then = inl (refl, refl)
sign_fits word.else = inl (refl, refl)
sign_fits word.end = inl (refl, refl)
sign_fits word.while = inl (refl, refl)
sign_fits word.doing = inl (refl, refl)
sign_fits word.settled = inl (refl, refl)
sign_fits word.provisional = inl (refl, refl)
sign_fits word.input = inl (refl, refl)
sign_fits word.opening = inl (refl, refl)
sign_fits word.closing = inl (refl, refl)
sign_fits word.semicolon = inl (refl, refl)
sign_fits (word.sign o) = inr (o, refl, refl)
sign_fits (word.variable v) = inl (refl, refl)
sign_fits (word.numeral n) = inl (refl, refl)
sign_fits word.unknown = inl (refl, refl)

is_signed : (t : Token) {o : Operator} → Some o ≡ sign_of t → t ≡ word.sign o
is_signed t {o} some = by (sign_fits t)
  where
    by : ((is_sign t ≡ false) × (sign_of t ≡ None)) ⊎ ((p : Operator) × (t ≡ word.sign p) × (sign_of t ≡ Some p)) → t ≡ word.sign o
    by (inl (none, nothing')) = clash (cc)
    by (inr (p, is, same')) = let found : Some p ≡ Some o = sym same' ∙ sym some in let here : p ≡ o = cc in is ∙ ap word.sign here

un_signed : (t : Token) → sign_of t ≡ None → is_sign t ≡ false
un_signed t none = by (sign_fits t)
  where
    by : ((is_sign t ≡ false) × (sign_of t ≡ None)) ⊎ ((p : Operator) × (t ≡ word.sign p) × (sign_of t ≡ Some p)) → is_sign t ≡ false
    by (inl (un, others)) = un
    by (inr (p, is, same')) = clash (cc)

-- ---- a turn

abbrev inside_at : ℕ → ℕ → ℕ → Bool → Inside
inside_at at count depth whole = record { at = at; count = count; depth = depth; whole = whole }

abbrev went : ℕ → ℕ → ℕ → Bool → Result Inside ℕ
went at count depth whole = Ok (inside_at at count depth whole)

module _ {text : List ℕ} {s : Inside} {span : Span} {bytes : List ℕ}
    (ready : Ready text s) (cut : Cut text s.at span) (is : bytes ≡ part text span.start span.end) where
  word_led : {t : Token} → token_of bytes ≡ t → (word.unknown ≡ t → ⊥) → Led text s.at t span.end
  word_led known some = led_token cut (ap token_of (sym is) ∙ known) some

  ready_on : {s' : Inside} → s.at < span.end → s'.at ≡ span.end → s'.count ≤ s.count + 1 → s'.depth ≤ s.depth + 1
      → (s'.whole ≡ true → 0 < s'.count) → Ready text s'
  ready_on further here few low some =
      let inside = cut.inside in
      let few-before = ready.few in
      let low-before = ready.low in
      record {
        inside = omega arith;
        short = ready.short;
        few = omega arith;
        low = omega arith;
        some = some;
      }

  opening_led : same (40 ∷ []) bytes ≡ true → Led text s.at word.opening span.end
  opening_led key = led_key cut is refl key spells_opening

  abbrev last : ℕ
  last = s.depth - 1

  closing_led : same (41 ∷ []) bytes ≡ true → Led text s.at word.closing span.end
  closing_led key = led_key cut is refl key spells_closing

  -- the entry of the innermost parenthesis stands where its depth says
  in_sight : (frames : List Frame) → s.at + frames_owed frames + 3 < 4 * (length frames + most_held + 1)
  in_sight frames = omega (arith, frames_owed_lem frames, ready.inside, ready.short)

  module _ {rows held : List ℕ} where
    stuck_at : {at first : ℕ} {before : List ℕ} {frames : List Frame} {whole : Whole} {next : Symbol} {more : List Symbol}
        → Standing text at first before s rows held frames whole → symbols_after frames whole ≡ next ∷ more → may_end next ≡ false
        → advance next (token_of bytes) ≡ stop → Stuck text at (expr ∷ []) s.at
    stuck_at {frames = frames} {whole = whole} {next = next} {more = more} st e unended unfit =
        stuck_past (λ ts. frames_tokens frames ++ (whole_tokens whole ++ ts)) st.read st.later
        (λ ts others. run_reached frames whole ts others ∙ ap (λ (l : List Symbol). run ts (l ++ others)) e)
        (stuck_more (stuck_cut cut next unended (ap (λ (l : List ℕ). advance next (token_of l)) (sym is) ∙ unfit)) more)

    -- where an expression begins
    module _ (begins : s.whole ≡ false) where
      begun : {at first : ℕ} {before : List ℕ} → Reached text at first before s rows held
          → (frames : List Frame) × Standing text at first before s rows held frames nothing
      begun (frames, nothing, st) = (frames, st)
      begun (frames, just e, st) = clash (cc st.mode)

      opened : length held ≡ most_held → same (40 ∷ []) bytes ≡ true
          → Turned text s rows held (went span.end s.count (s.depth + 1) false) rows (set held (s.depth % most_held) 0)
      opened long key =
          let next = opening_led key in
          let further = next.on in
          let room : s.depth % most_held < length held = omega arith in (
            further,
            ready_on further refl (omega arith) (omega arith) (λ e. clash (cc)),
            λ _ _ _ reached.
                let old = begun reached in
                (waiting ∷ old.0, nothing, open_one next room old.1),
          )

      leaf_put : {t : Token} (quad : Quad) (e : Expr) {left : List ℕ} → left ≡ row_put s.count quad rows → expr_tokens e ≡ t ∷ []
          → ((base : ℕ) → expr_rows base e ≡ quad ∷ []) → expr_below e ≡ 0 → token_of bytes ≡ t → (word.unknown ≡ t → ⊥)
          → Turned text s rows held (went span.end (s.count + 1) s.depth true) left held
      leaf_put quad e put words row alone known some =
          let next = word_led known some in
          let further = next.on in (
            further,
            ready_on further refl (omega arith) (omega arith) (λ e. omega arith),
            λ _ _ _ reached.
                let old = begun reached in
                (old.0, just e, put_one quad e put words row alone next old.1),
          )

      constant_put : {value : ℕ} {left : List ℕ} → left ≡ row_put s.count (8, value, 0, 0) rows → atom_of (token_of bytes) ≡ atom.constant value
          → Turned text s rows held (went span.end (s.count + 1) s.depth true) left held
      constant_put {value} put atom =
          leaf_put (8, value, 0, 0) (constant value) put refl (λ base. refl) refl (atom_is (token_of bytes) atom) (λ e. clash (cc))

      variable_put : {v : ℕ} {left : List ℕ} → left ≡ row_put s.count (9, v, 0, 0) rows → atom_of (token_of bytes) ≡ atom.variable v
          → Turned text s rows held (went span.end (s.count + 1) s.depth true) left held
      variable_put {v} put atom =
          leaf_put (9, v, 0, 0) (variable v) put refl (λ base. refl) refl (atom_is (token_of bytes) atom) (λ e. clash (cc))

      unbegun : same (40 ∷ []) bytes ≡ false → atom_of (token_of bytes) ≡ atom.nothing
          → Turned text s rows held (Err s.at) rows held
      unbegun key atom = (
        refl,
        λ _ _ _ reached.
            let old = begun reached in
            stuck_at old.1 refl refl
            (no_expr (token_of bytes) (sym (spells_opening.told bytes) ∙ key) (atom_is (token_of bytes) atom)),
      )

    -- after an expression within parentheses
    module _ (over : s.whole ≡ true) (deep : s.depth ≡ 0 → ⊥) where
      -- a parenthesis whose left side was read
      pending : get_or held (last % most_held) 0 ≡ 0 → {at first : ℕ} {before : List ℕ} → Reached text at first before s rows held
          → (frames : List Frame) × (e : Expr) × Standing text at first before s rows held (waiting ∷ frames) (just e)
      pending empty (frames, nothing, st) = clash (cc st.mode)
      pending empty ([], just e, st) = absurd (omega (arith, st.depth))
      pending empty (waiting ∷ frames, just e, st) = (frames, e, st)
      pending empty (having left o ∷ frames, just e, st) =
          let here : last ≡ length frames = omega (arith, st.depth) in
          let entry = st.entries.0 (omega (arith, in_sight frames)) in
          let zero : get_or held (length frames % most_held) 0 ≡ 0 = ap (λ (n : ℕ). get_or held (n % most_held) 0) (sym here) ∙ empty in
          absurd (omega arith)

      -- a parenthesis whose right side was read
      paired : (get_or held (last % most_held) 0 ≡ 0 → ⊥) → {at first : ℕ} {before : List ℕ} → Reached text at first before s rows held
          → (frames : List Frame) × (left : Expr) × (o : Operator) × (e : Expr) × Standing text at first before s rows held (having left o ∷ frames) (just e)
      paired full (frames, nothing, st) = clash (cc st.mode)
      paired full ([], just e, st) = absurd (omega (arith, st.depth))
      paired full (waiting ∷ frames, just e, st) =
          let here : last ≡ length frames = omega (arith, st.depth) in
          absurd (full (ap (λ (n : ℕ). get_or held (n % most_held) 0) here ∙ st.entries.0 (omega (arith, in_sight frames))))
      paired full (having left o ∷ frames, just e, st) = (frames, left, o, e, st)

      signed : {o : Operator} {entry : ℕ} → length held ≡ most_held → get_or held (last % most_held) 0 ≡ 0 → Some o ≡ sign_of (token_of bytes)
          → entry ≡ (s.count - 1) % most_rows * 8 + operator_number o + 1
          → Turned text s rows held (went span.end s.count s.depth false) rows (set held (last % most_held) entry)
      signed {o} {entry} long empty is-sign made =
          let next = word_led (is_signed (token_of bytes) is-sign) (λ e. clash (cc)) in
          let further = next.on in (
            further,
            ready_on further refl (omega arith) (omega arith) (λ e. clash (cc)),
            λ _ _ _ reached.
                let old = pending empty reached in (
                  having old.1 o ∷ old.0,
                  nothing,
                  sign_one last next (omega arith) (omega arith) made old.2,
                ),
          )

      unsigned : get_or held (last % most_held) 0 ≡ 0 → sign_of (token_of bytes) ≡ None → Turned text s rows held (Err s.at) rows held
      unsigned empty none = (
        refl,
        λ _ _ _ reached.
            let old = pending empty reached in
            stuck_at old.2 refl refl (ap expected (un_signed (token_of bytes) none)),
      )

      closed : {entry : ℕ} {left : List ℕ} → left ≡ row_put s.count (10, (entry - 1) % 8, (entry - 1) / 8, s.count - 1) rows
          → entry ≡ get_or held (last % most_held) 0 → (entry ≡ 0 → ⊥) → same (41 ∷ []) bytes ≡ true
          → Turned text s rows held (went span.end (s.count + 1) last true) left held
      closed {entry} put is-entry full key =
          let next = closing_led key in
          let further = next.on in
          let quad : Quad = (10, (entry - 1) % 8, (entry - 1) / 8, s.count - 1) in (
            further,
            ready_on further refl (omega arith) (omega arith) (λ e. omega arith),
            λ _ _ _ reached.
                let old = paired (λ zero. full (is-entry ∙ zero)) reached in (
                  old.0,
                  just (binary old.2 old.1 old.3),
                  close_one put next (omega arith) is-entry (in_sight old.0) old.4,
                ),
          )

      unclosed : (get_or held (last % most_held) 0 ≡ 0 → ⊥) → same (41 ∷ []) bytes ≡ false → Turned text s rows held (Err s.at) rows held
      unclosed full key = (
        refl,
        λ _ _ _ reached.
            let old = paired full reached in
            stuck_at old.4 refl refl (ap expected (sym (spells_closing.told bytes) ∙ key)),
      )

-- ---- the same, by what is said of the word that starts at a place

module _ {text : List ℕ} {s : Inside} {start : ℕ} (ready : Ready text s) (started : Begun text s.at start) where
  first_word : Cut text start (cut_found started).0
  first_word = (cut_found started).1

  told_key : (key : List ℕ) {r : Bool} → one_word key ≡ true → Compared text start key r
      → (r ≡ same key (part text (cut_found started).0.start (cut_found started).0.end)) × (r ≡ true → (cut_found started).0.end ≡ start + length key)
  told_key key one compared = compared one started.shown (cut_found started).0 first_word

  abbrev outer : ℕ
  outer = s.depth - 1

  module _ {rows held : List ℕ} where
    module _ (begins : s.whole ≡ false) where
      pub begun_opening : {r : Bool} → length held ≡ most_held → Compared text start (40 ∷ []) r → r ≡ true
          → Turned text s rows held (went (start + 1) s.count (s.depth + 1) s.whole) rows (set held (s.depth % most_held) 0)
      begun_opening long compared yes' =
          let told = told_key (40 ∷ []) refl compared in
          subst (λ (b : Bool). Turned text s rows held (went (start + 1) s.count (s.depth + 1) b) rows (set held (s.depth % most_held) 0)) (sym begins)
          (subst (λ (n : ℕ). Turned text s rows held (went n s.count (s.depth + 1) false) rows (set held (s.depth % most_held) 0)) (told.1 yes')
          (opened ready (cut_begun started first_word) refl begins long (sym told.0 ∙ yes')))

      pub begun_variable : {read : Parsed ℕ} {left : List ℕ} {r : Option (Parsed ℕ)} → VariableAt text start r → r ≡ Some read
          → left ≡ row_put s.count (9, read.value, 0, 0) rows → Turned text s rows held (went read.next (s.count + 1) s.depth true) left held
      begun_variable {read} {left} said e put =
          let known = subst (AtomIs atom.variable _ (cut_found started).0.end) e (said started.inside started.shown (cut_found started).0 first_word) in
          subst (λ (n : ℕ). Turned text s rows held (went n (s.count + 1) s.depth true) left held) (sym known.0)
          (variable_put ready (cut_begun started first_word) refl begins put known.1)

      pub begun_constant : {read : Parsed ℕ} {left : List ℕ} {r : Option (Parsed ℕ)} → ConstantAt text start r → r ≡ Some read
          → left ≡ row_put s.count (8, read.value, 0, 0) rows → Turned text s rows held (went read.next (s.count + 1) s.depth true) left held
      begun_constant {read} {left} said e put =
          let known = subst (AtomIs atom.constant _ (cut_found started).0.end) e (said started.inside started.shown (cut_found started).0 first_word) in
          subst (λ (n : ℕ). Turned text s rows held (went n (s.count + 1) s.depth true) left held) (sym known.0)
          (constant_put ready (cut_begun started first_word) refl begins put known.1)

      pub begun_nothing : {r : Bool} {a b : Option (Parsed ℕ)} → Compared text start (40 ∷ []) r → r ≡ false → VariableAt text start a → a ≡ None
          → ConstantAt text start b → b ≡ None → Turned text s rows held (Err s.at) rows held
      begun_nothing compared no' variable-said none constant-said none' =
          let bytes : List ℕ = part text (cut_found started).0.start (cut_found started).0.end in
          unbegun ready (cut_begun started first_word) refl begins (sym (told_key (40 ∷ []) refl compared).0 ∙ no')
          (atom_nothing (atom_of (token_of bytes))
          (subst (AtomIs atom.variable (atom_of (token_of bytes)) (cut_found started).0.end) none (variable-said started.inside started.shown (cut_found started).0 first_word))
          (subst (AtomIs atom.constant (atom_of (token_of bytes)) (cut_found started).0.end) none' (constant-said started.inside started.shown (cut_found started).0 first_word)))

    module _ (over : s.whole ≡ true) (deep : s.depth ≡ 0 → ⊥) where
      pub over_sign : {o : Operator} {r : Option Operator} {entry : ℕ} → length held ≡ most_held → get_or held (outer % most_held) 0 ≡ 0 → SignAt text start r → r ≡ Some o
          → entry ≡ (s.count - 1) % most_rows * 8 + operator_number o + 1
          → Turned text s rows held (went (start + 1) s.count s.depth false) rows (set held (outer % most_held) entry)
      over_sign {entry = entry} long empty said e made =
          let told = said started.shown (cut_found started).0 first_word in
          subst (λ (n : ℕ). Turned text s rows held (went n s.count s.depth false) rows (set held (outer % most_held) entry)) (told.1 (rw e refl))
          (signed ready (cut_begun started first_word) refl over deep long empty (sym e ∙ told.0) made)

      pub over_unsigned : {r : Option Operator} → get_or held (outer % most_held) 0 ≡ 0 → SignAt text start r → r ≡ None
          → Turned text s rows held (Err s.at) rows held
      over_unsigned empty said none =
          unsigned ready (cut_begun started first_word) refl over deep empty
          (sym (said started.shown (cut_found started).0 first_word).0 ∙ none)

      pub over_closing : {entry : ℕ} {left : List ℕ} {r : Bool} → left ≡ row_put s.count (10, (entry - 1) % 8, (entry - 1) / 8, s.count - 1) rows
          → entry ≡ get_or held (outer % most_held) 0 → (entry ≡ 0 → ⊥) → Compared text start (41 ∷ []) r → r ≡ true
          → Turned text s rows held (went (start + 1) (s.count + 1) outer s.whole) left held
      over_closing {left = left} put is-entry full compared yes' =
          let told = told_key (41 ∷ []) refl compared in
          subst (λ (b : Bool). Turned text s rows held (went (start + 1) (s.count + 1) outer b) left held) (sym over)
          (subst (λ (n : ℕ). Turned text s rows held (went n (s.count + 1) outer true) left held) (told.1 yes')
          (closed ready (cut_begun started first_word) refl over deep put is-entry full (sym told.0 ∙ yes')))

      pub over_unclosed : {r : Bool} → (get_or held (outer % most_held) 0 ≡ 0 → ⊥) → Compared text start (41 ∷ []) r → r ≡ false
          → Turned text s rows held (Err s.at) rows held
      over_unclosed full compared no' =
          unclosed ready (cut_begun started first_word) refl over deep full (sym (told_key (41 ∷ []) refl compared).0 ∙ no')

-- ---- the whole expression

pub at_first : (text : List ℕ) (at : Place) (rows held : List ℕ) → Asked text at
    → Ready text (inside_at at.at at.count 0 false)
    × Reached text at.at at.count rows (inside_at at.at at.count 0 false) rows held
unfolding rows_put
at_first text at rows held asked = (
  record {
    inside = asked.inside;
    short = asked.short;
    few = asked.few;
    low = omega arith;
    some = λ e. clash (cc);
  },
  (
    [],
    nothing,
    record {
      mode = refl;
      depth = refl;
      read = refl;
      later = later_self;
      put = refl;
      counted = omega arith;
      owed = omega arith;
      entries = tt;
      few = omega arith;
    },
  ),
)

-- the expression is whole and no parenthesis is open
pub read_over : {text : List ℕ} {at first : ℕ} {before : List ℕ} {s : Inside} {rows held : List ℕ} → Ready text s
    → Reached text at first before s rows held → s.whole ≡ true → s.depth ≡ 0 → Read expressions text at first before s.at s.count rows
read_over {first = first} {before = before} ready (frames, nothing, st) whole shut = clash (cc st.mode)
read_over {first = first} {before = before} ready (frame ∷ frames, just tree, st) whole shut = absurd (omega (arith, st.depth))
read_over {first = first} {before = before} ready ([], just tree, st) whole shut =
    let same_first : first + 0 ≡ first = omega arith in
    record {
      tree = tree;
      is = st.read;
      later = st.later;
      put = st.put ∙ ap (λ (n : ℕ). rows_put first (expr_rows n tree) before) same_first;
      counted = omega (arith, st.counted);
      inside = ready.inside;
      few = st.few;
    }
