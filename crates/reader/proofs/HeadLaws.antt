-- Laws of the declarations at the front of a text: their levels, one declaration, and one more after others.
use Prim.Native.Nat.{ℕ, ◌+◌, ◌-◌, ◌%◌, ◌≤◌, ◌<◌}
use native.Mathlib.Omega.{arith}
use mathlib.Core.Bool.{Bool, true, false}
use mathlib.Core.List.{List, [], ◌∷◌, ◌++◌, append_assoc, append-nil}
use mathlib.Core.Path.{◌≡◌, refl, sym, ap, ap₂, subst, ◌∙◌}
use lib.ListN.{length, drop, length-append, length-map, length-drop}
use lib.Seq.{drop_at, drop-drop}
use Rattle.rules.specs.Limits.{width}
use Rattle.rules.specs.Marks.{none, has, put}
use Rattle.language.specs.Words.{Word, word}
use Rattle.language.specs.Tokens as token
use Rattle.language.specs.Tokens.{Token, token_of, tokens}
use Rattle.language.specs.Recipes as recipe
use Rattle.language.specs.Recipes.{Declaration, level_tokens, declaration_tokens, declarations_tokens}
use Rattle.language.specs.Tables.{makes_provisional, marks_from}
use Rattle.language.specs.Readings.{on_declared, repeated}
use Rattle.spans.specs.declared.Span.{Span}
use Rattle.spans.specs.Cut.{from, part, Cut}
use Rattle.spans.proofs.WordLaws.{part_length}
use Rattle.reader.specs.Machine.{tag, Symbol, exactly, name, start, level, on_start, on_level, run}
use Rattle.reader.specs.Steps.{Missing, Later, Stuck}
use Rattle.reader.specs.Statements.{Led}
use Rattle.reader.specs.Heads.{LevelClosed, Leveled, LevelRead, DeclaredAs, again_with, seen_with, declared_from, StandsAt, Declarations}
use Rattle.std.specs.Prelude.{Result, Ok, Err, Option, Some, None}
use Rattle.numbers.specs.declared.Parsed.{Parsed}
use Rattle.reader.specs.declared.head.Declared.{Declared}
use Rattle.reader.specs.declared.head.Seen.{Seen}
use Rattle.reader.proofs.RunLaws.{run_declarations}
use Rattle.reader.proofs.PlaceLaws.{later_self, later_on, led_some, stuck_more, stuck_past, stuck_word, stuck_here}
use Rattle.reader.proofs.NameLaws.{variable_known}

-- ---- levels

pub level_plain : {text : List ℕ} {at next : ℕ} → Led text at token.semicolon next → Leveled text at false next
unfolding makes_provisional
level_plain led =
    record { level = recipe.plain; is = led.is; meant = refl; later = led.later; on = led.on; inside = led.inside }

-- a level word, and what comes after it
level_word : {text : List ℕ} {at next : ℕ} {t : Token} (l : recipe.Level) (meant : Bool) → level_tokens l ≡ t ∷ []
    → makes_provisional false l ≡ meant
    → ((ts : List Token) (others : List Symbol) → run (t ∷ ts) (level ∷ others) ≡ run ts (exactly token.semicolon ∷ start ∷ others))
    → Led text at t next → (r : Result (Parsed Bool) ℕ) → LevelClosed text next meant r → LevelRead text at r
level_word {text} {at} {next} {t} l meant is means went led (Ok read) (same-level, closed) =
    record {
      level = l;
      is =
          led.is ∙ ap (λ (ts : List Token). t ∷ ts) closed.is
          ∙ ap (λ (ts : List Token). ts ++ token.semicolon ∷ tokens (from text read.next)) (sym is);
      meant = means ∙ sym same-level;
      later = later_on led.later closed.later;
      on = omega (arith, led.on, closed.on);
      inside = closed.inside;
    }
level_word l meant is means went led (Err place) closed =
    stuck_word led went (stuck_more closed (start ∷ []))

pub level_settled : {text : List ℕ} {at next : ℕ} → Led text at token.settled next → (r : Result (Parsed Bool) ℕ) → LevelClosed text next false r
    → LevelRead text at r
unfolding run tag on_level makes_provisional
level_settled = level_word recipe.settled false refl refl (λ ts others. refl)

pub level_provisional : {text : List ℕ} {at next : ℕ} → Led text at token.provisional next → (r : Result (Parsed Bool) ℕ) → LevelClosed text next true r
    → LevelRead text at r
unfolding run tag on_level makes_provisional
level_provisional = level_word recipe.provisional true refl refl (λ ts others. refl)

pub level_none : {text : List ℕ} {at : ℕ} → Missing text at token.semicolon → Missing text at token.settled → Missing text at token.provisional
    → Stuck text at (level ∷ []) at
unfolding on_level
level_none a b c = stuck_here level refl (λ first later e. rw (a first later e, b first later e, c first later e))

-- ---- declarations

pub declaration_variable : {text : List ℕ} {at : ℕ} {s : Span} {v : ℕ} → Cut text at s
    → Led text at (token.variable v) s.end → {provisional : Bool} {next : ℕ} → Leveled text s.end provisional next
    → DeclaredAs text at v s.start s.end provisional next
unfolding run tag
declaration_variable {text} {at} {s} {v} c led l =
    let some = led_some c led in
    record {
      level = l.level;
      is = led.is ∙ ap (λ (ts : List Token). token.variable v ∷ ts) l.is;
      meant = l.meant;
      known = variable_known led;
      others = from text s.end;
      word_is = c.first some;
      some = some;
      within = c.inside;
      later = later_on led.later l.later;
      on = omega (arith, led.on, l.on);
      inside = l.inside;
    }

-- where its level is at fault
pub declaration_stuck : {text : List ℕ} {at next place v : ℕ} → Led text at (token.variable v) next → Stuck text next (level ∷ []) place
    → Stuck text at (name ∷ level ∷ []) place
unfolding run tag
declaration_stuck led l = stuck_word led (λ ts others. refl) l

-- ---- one declaration more

tokens_more : (ds : List Declaration) (d : Declaration) (ts : List Token)
    → declarations_tokens (ds ++ d ∷ []) ++ ts ≡ declarations_tokens ds ++ (declaration_tokens d ++ ts)
tokens_more [] d ts = ap (λ (l : List Token). l ++ ts) (append-nil (declaration_tokens d))
tokens_more (e ∷ ds) d ts =
    append_assoc (declaration_tokens e) (declarations_tokens (ds ++ d ∷ [])) ts
    ∙ ap (λ (l : List Token). declaration_tokens e ++ l) (tokens_more ds d ts)
    ∙ sym (append_assoc (declaration_tokens e) (declarations_tokens ds) (declaration_tokens d ++ ts))

declared_more : (ds : List Declaration) (d : Declaration) (before : ℕ)
    → put d.variable true (declared_from before ds) ≡ declared_from before (ds ++ d ∷ [])
declared_more [] d before = refl
declared_more (e ∷ ds) d before = declared_more ds d (put e.variable true before)

marks_more : (ds : List Declaration) (d : Declaration) (marks : ℕ)
    → put d.variable (makes_provisional false d.level) (marks_from false marks ds) ≡ marks_from false marks (ds ++ d ∷ [])
unfolding marks_from
marks_more [] d marks = refl
marks_more (e ∷ ds) d marks = marks_more ds d (put e.variable (makes_provisional false e.level) marks)

-- the first list that is not empty
abbrev or_else : List Word → List Word → List Word
or_else [] later = later
or_else (w ∷ words) later = w ∷ words

or_else_some : (words later : List Word) → 0 < length words → words ≡ or_else words later
or_else_some [] later h = absurd (omega arith)
or_else_some (w ∷ words) later h = refl

repeated_more : (ds : List Declaration) (d : Declaration) (before : ℕ) (words : List Word)
    → length (declarations_tokens ds) ≤ length words
    → repeated before (ds ++ d ∷ []) words
    ≡ or_else (repeated before ds words)
    (on_declared (has (declared_from before ds) d.variable) (drop 1 (drop (length (declarations_tokens ds)) words)) [])
unfolding repeated on_declared
repeated_more [] d before words h = refl
repeated_more (e ∷ ds) d before words h =
    by (has before e.variable) (repeated_more ds d (put e.variable true before) (drop (length (declaration_tokens e)) words))
  where
    both : length (declarations_tokens (e ∷ ds)) ≡ length (declaration_tokens e) + length (declarations_tokens ds)
    both = length-append (declaration_tokens e) (declarations_tokens ds)

    dropped : drop (length (declarations_tokens ds)) (drop (length (declaration_tokens e)) words) ≡ drop (length (declarations_tokens (e ∷ ds))) words
    dropped =
        drop-drop (length (declarations_tokens ds)) (length (declaration_tokens e)) words
        ∙ ap (λ (n : ℕ). drop n words) (sym both)

    by : (b : Bool)
        → (length (declarations_tokens ds) ≤ length (drop (length (declaration_tokens e)) words)
        → repeated (put e.variable true before) (ds ++ d ∷ []) (drop (length (declaration_tokens e)) words)
        ≡ or_else (repeated (put e.variable true before) ds (drop (length (declaration_tokens e)) words))
        (on_declared (has (declared_from before (e ∷ ds)) d.variable)
        (drop 1 (drop (length (declarations_tokens ds)) (drop (length (declaration_tokens e)) words))) []))
        → on_declared b (drop 1 words) (repeated (put e.variable true before) (ds ++ d ∷ []) (drop (length (declaration_tokens e)) words))
        ≡ or_else
        (on_declared b (drop 1 words) (repeated (put e.variable true before) ds (drop (length (declaration_tokens e)) words)))
        (on_declared (has (declared_from before (e ∷ ds)) d.variable) (drop 1 (drop (length (declarations_tokens (e ∷ ds))) words)) [])
    by true ih = or_else_some (drop 1 words) _ (simp length-drop (omega arith))
    by false ih =
        ih (simp length-drop (omega (arith, both)))
        ∙ ap
        (λ (here : List Word).
        or_else (repeated (put e.variable true before) ds (drop (length (declaration_tokens e)) words))
        (on_declared (has (declared_from before (e ∷ ds)) d.variable) (drop 1 here) []))
        dropped

-- as many words are dropped as were read
words_dropped : {text : List ℕ} {at next : ℕ} (front : List Token) → Later text at next
    → tokens (from text at) ≡ front ++ tokens (from text next) → drop (length front) (from text at) ≡ from text next
words_dropped {text} {at} {next} front later is =
    let all : length (tokens (from text at)) ≡ length (from text at) = length-map (from text at) _ in
    let rest : length (tokens (from text next)) ≡ length (from text next) = length-map (from text next) _ in
    let read : length (tokens (from text at)) ≡ length front + length (tokens (from text next)) =
    ap length is ∙ length-append front (tokens (from text next)) in
    let split : length (from text at) ≡ length later.between + length (from text next) =
    ap length later.split ∙ length-append later.between (from text next) in
    let size : length later.between ≡ length front = omega arith in
    ap (drop (length front)) later.split ∙ drop_at later.between (from text next) (length front) size

-- where the first variable stands that is declared again, with one declaration more
stands_more : (words here : List Word) (before : Option Span) (found : Span) (again : Bool) → StandsAt words before → StandsAt here (Some found)
    → StandsAt (or_else words (on_declared again here [])) (again_with before again found)
unfolding on_declared
stands_more [] here None found true stood stands = stands
stands_more [] here None found false stood stands = tt
stands_more [] here (Some first) found again stood stands = absurd stood
stands_more (w ∷ words) here None found again stood stands = absurd stood
stands_more (w ∷ words) here (Some first) found again stood stands = stood

pub head_none : (text : List ℕ) → Declarations text (record { at = 0; declared = 0; marks = 0; again = None })
unfolding none marks_from repeated
head_none text =
    record {
      declarations = [];
      is = refl;
      later = later_self;
      declared = refl;
      marks = refl;
      again = tt;
      inside = omega arith;
    }

head_added : {text : List ℕ} {s : Seen} {mid : ℕ} {r : Declared} → Declarations text s → Led text s.at token.input mid
    → DeclaredAs text mid r.variable r.name.start r.name.end r.provisional r.next → Declarations text (seen_with s r)
head_added {text} {s} {mid} {r} before led d =
    let variable : ℕ = r.variable in
    let first : ℕ = r.name.start in
    let last : ℕ = r.name.end in
    let next : ℕ = r.next in
    let ds : List Declaration = before.declarations in
    let more : Declaration = record { variable = variable; level = d.level } in
    let same_variable : variable % width ≡ variable = omega (arith, d.known) in
    let told : tokens (from text s.at) ≡ declaration_tokens more ++ tokens (from text next) =
    led.is ∙ ap (λ (ts : List Token). token.input ∷ ts) d.is
    ∙ ap (λ (ts : List Token). token.input ∷ token.variable variable ∷ ts)
    (sym (append_assoc (level_tokens d.level) (token.semicolon ∷ []) (tokens (from text next)))) in
    let was : has s.declared (variable % width) ≡ has (declared_from none ds) variable = ap₂ has before.declared same_variable in
    let dropped : drop 1 (drop (length (declarations_tokens ds)) (from text 0)) ≡ word first (part text first last) ∷ d.others =
    ap (drop 1) (words_dropped (declarations_tokens ds) before.later before.is)
    ∙ words_dropped (token.input ∷ []) led.later led.is ∙ d.word_is in
    let size : length (part text first last) ≡ last - first = part_length text first last d.within in
    let long : length (declarations_tokens ds) ≤ length (from text 0) =
    omega (arith, sym (length-map (from text 0) (λ (w : Word). token_of w.bytes)) ∙ ap length before.is ∙ length-append (declarations_tokens ds) (tokens (from text s.at))) in
    record {
      declarations = ds ++ more ∷ [];
      is =
          before.is ∙ ap (λ (ts : List Token). declarations_tokens ds ++ ts) told
          ∙ sym (tokens_more ds more (tokens (from text next)));
      later = later_on before.later (later_on led.later d.later);
      declared = ap₂ (λ (v m : ℕ). put v true m) same_variable before.declared ∙ declared_more ds more none;
      marks =
          ap₂ (λ (v m : ℕ). put v r.provisional m) same_variable before.marks
          ∙ ap (λ (b : Bool). put variable b (marks_from false none ds)) (sym d.meant)
          ∙ marks_more ds more none;
      again =
          subst (λ (b : Bool). StandsAt (repeated none (ds ++ more ∷ []) (from text 0)) (again_with s.again b r.name)) (sym was)
          (subst (λ (words : List Word). StandsAt words (again_with s.again (has (declared_from none ds) variable) r.name))
          (sym (repeated_more ds more none (from text 0) long))
          (stands_more (repeated none ds (from text 0)) _ s.again r.name (has (declared_from none ds) variable)
          before.again (subst (λ (words : List Word). StandsAt words (Some r.name)) (sym dropped) (refl, omega (arith, d.some), d.some))));
      inside = d.inside;
    }

pub head_more : {text : List ℕ} {s : Seen} {mid : ℕ} {d : Declared} → Declarations text s → Led text s.at token.input mid
    → DeclaredAs text mid d.variable d.name.start d.name.end d.provisional d.next → (r : Seen)
    → r ≡ seen_with s d → Declarations text r × (length text - r.at < length text - s.at)
head_more {text} {s} {d = d} before led read r e =
    let at_next : r.at ≡ d.next = ap (λ (x : Seen). x.at) e in
    (subst (Declarations text) (sym e) (head_added before led read), omega (arith, led.on, read.on, read.inside))

pub head_faulty : {text : List ℕ} {s : Seen} {mid place : ℕ} → Declarations text s → Led text s.at token.input mid
    → Stuck text mid (name ∷ level ∷ []) place → Stuck text 0 (start ∷ []) place
unfolding run tag on_start
head_faulty {text} {s} {mid} {place} before led faulty =
    let here : Stuck text s.at (start ∷ []) place = stuck_word led (λ ts others. refl) faulty in
    stuck_past (λ ts. declarations_tokens before.declarations ++ ts) before.is before.later (run_declarations before.declarations) here
