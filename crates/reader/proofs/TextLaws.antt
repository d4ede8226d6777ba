-- What a whole text reads as, from how far its words were gone on with.
use Prim.Native.Nat.{ℕ, ◌*◌, ◌≤◌, ◌<◌}
use native.Mathlib.Omega.{arith}
use mathlib.Core.Bool.{Bool, false, cond}
use mathlib.Core.List.{List, [], ◌∷◌, ◌++◌, append-nil}
use mathlib.Core.Path.{◌≡◌, refl, sym, ap, ap₂, ◌∙◌, subst}
use lib.ListN.{length, take}
use Rattle.rules.specs.Limits.{row_words, most_rows, table_words}
use Rattle.rules.specs.Marks.{none}
use Rattle.language.specs.declared.Part.{Part}
use Rattle.language.specs.Said.{Said}
use Rattle.language.specs.Limits.{most_text_bytes, too_long, faulty_word}
use Rattle.language.specs.Words.{Word}
use Rattle.language.specs.Tokens as word
use Rattle.language.specs.Tokens.{Token, tokens}
use Rattle.language.specs.Recipes.{Recipe, declarations_tokens, block_tokens}
use Rattle.language.specs.Tables.{block_size, block_rows, table_of, marks_of}
use Rattle.language.specs.Readings.{Is, end_of, refused, Reads, long, faulty, read}
use Rattle.spans.specs.declared.Span.{Span}
use Rattle.spans.specs.Cut.{from, Cut}
use Rattle.spans.proofs.WordLaws.{cut_part}
use Rattle.language.proofs.RowCounts.{block_rows_length}
use Rattle.reader.specs.Machine.{is_word, at_finish, statement, rest, start, name, level, Advance, stop, go, also, on_statement, closing, on_rest, on_start, stuck, onward, run}
use Rattle.reader.specs.Steps.{blocks, Read, Stuck, Over}
use Rattle.reader.specs.Heads.{HeadRead}
use Rattle.reader.specs.Wholes.{turned_away, blamed, answered, Made}
use Rattle.reader.specs.declared.head.Seen.{Seen}
use Rattle.std.specs.Prelude.{Ok}
use Rattle.reader.proofs.RunLaws.{run_declarations, run_block}
use Rattle.reader.proofs.FaultLaws.{fault}
use Rattle.reader.proofs.PlaceLaws.{later_on}
use Rattle.reader.proofs.RowLaws.{rows_front}

pub reads_long : (text table : List ℕ) → most_text_bytes < length text → Reads false text table (answered (refused too_long 0 (end_of text)) table)
reads_long text table h = long h

-- ---- a faulty word

faulty_at : (text table : List ℕ) (before : List Word) (place : ℕ) → length text ≤ most_text_bytes → from text 0 ≡ before ++ from text place
    → run (tokens (from text 0)) (start ∷ []) ≡ stuck (tokens (from text place)) → Reads false text table (answered (blamed text place) table)
faulty_at text table before place h split stops = faulty h (from text place) (fault (from text 0) before (from text place) split stops)

pub head_faulty : (text table : List ℕ) (place : ℕ) → length text ≤ most_text_bytes → Stuck text 0 (start ∷ []) place
    → Reads false text table (answered (blamed text place) table)
head_faulty text table place h s = faulty_at text table s.later.between place h s.later.split (s.stops [])

-- what begins with no declaration is a block
undeclared : (t : Token) → is_word word.input t ≡ false → on_start t ≡ also (rest at_finish ∷ []) (on_statement t)
unfolding on_start
undeclared t e = ap (λ (b : Bool). cond b (go (name ∷ level ∷ [])) (also (rest at_finish ∷ []) (on_statement t))) e

started : (ts : List Token) → ((t : Token) (others : List Token) → ts ≡ t ∷ others → is_word word.input t ≡ false)
    → run ts (start ∷ []) ≡ run ts (statement ∷ rest at_finish ∷ [])
unfolding run
started [] none = refl
started (t ∷ ts) none =
    ap (λ (a : Advance). onward a (run ts) [] (t ∷ ts)) (undeclared t (none t ts refl)) ∙ on (on_statement t)
  where
    on : (a : Advance) → onward (also (rest at_finish ∷ []) a) (run ts) [] (t ∷ ts) ≡ onward a (run ts) (rest at_finish ∷ []) (t ∷ ts)
    on stop = refl
    on (go new) = ap (run ts) (append-nil (new ++ rest at_finish ∷ []))

-- the words of a text after its declarations
after_head : (text : List ℕ) (s : Seen) → HeadRead text (Ok s)
    → run (tokens (from text 0)) (start ∷ []) ≡ run (tokens (from text s.at)) (statement ∷ rest at_finish ∷ [])
after_head text s (d, over) =
    ap (λ (l : List Token). run l (start ∷ [])) d.is
    ∙ run_declarations d.declarations (tokens (from text s.at)) []
    ∙ started (tokens (from text s.at)) over

pub body_faulty : (text table : List ℕ) (s : Seen) (place : ℕ) → length text ≤ most_text_bytes → HeadRead text (Ok s)
    → Stuck text s.at (statement ∷ rest at_finish ∷ []) place → Reads false text table (answered (blamed text place) table)
body_faulty text table s place h head q =
    let all = later_on head.0.later q.later in
    faulty_at text table all.between place h all.split (after_head text s head ∙ q.stops [])

-- ---- words after the block

left_over : (ts : List Token) → ((t : Token) (others : List Token) → ts ≡ t ∷ others → is_word word.semicolon t ≡ false) → (t : Token) (others : List Token)
    → ts ≡ t ∷ others → run ts (rest at_finish ∷ []) ≡ stuck ts
unfolding run on_rest closing
left_over ts over t others e =
    ap (λ (l : List Token). run l (rest at_finish ∷ [])) e
    ∙ ap (λ (b : Bool). onward (cond b (go (statement ∷ rest at_finish ∷ [])) stop) (run others) [] (t ∷ others)) (over t others e)
    ∙ ap stuck (sym e)

after_block : (text rows left : List ℕ) (s : Seen) (next count : ℕ) → HeadRead text (Ok s) → Read blocks text s.at 0 rows next count left
    → run (tokens (from text 0)) (start ∷ []) ≡ run (tokens (from text next)) (rest at_finish ∷ [])
after_block text rows left s next count head b =
    after_head text s head
    ∙ ap (λ (l : List Token). run l (statement ∷ rest at_finish ∷ [])) b.is
    ∙ run_block b.tree at_finish (tokens (from text next)) []

pub body_left : (text table rows left : List ℕ) (s : Seen) (next count : ℕ) (w : Span) → length text ≤ most_text_bytes → HeadRead text (Ok s)
    → Read blocks text s.at 0 rows next count left → Over text next → Cut text next w → w.start < w.end
    → Reads false text table (answered (turned_away faulty_word 0 w.start w.end) table)
body_left text table rows left s next count w h head b over cut some =
    let all = later_on head.0.later b.later in
    subst (λ (p : Part). Reads false text table (answered (refused faulty_word 0 p) table)) (cut_part cut)
    (faulty_at text table all.between next h all.split
    (after_block text rows left s next count head b ∙ left_over (tokens (from text next)) over _ _ (ap tokens (cut.first some))))

-- ---- a recipe

pub body_read : (text table left rows : List ℕ) (s : Seen) (next count : ℕ) (w : Span) (said : Said) (kept : List ℕ) → length text ≤ most_text_bytes
    → HeadRead text (Ok s) → length rows ≡ table_words → Read blocks text s.at 0 rows next count left → Cut text next w → w.start ≡ w.end
    → Made text s left count table said kept → Reads false text table (answered said kept)
unfolding table_of marks_of
body_read text table left rows s next count w said kept h head whole b cut ends made =
    subst (Reads false text table) (sym (made r head.0.again head.0.marks counted put)) (read h r is)
  where
    r : Recipe
    r = record { declarations = head.0.declarations; block = b.tree }

    is : Is text r
    is =
        head.0.is
        ∙ ap (λ (l : List Token). declarations_tokens head.0.declarations ++ l)
        (b.is ∙ ap (λ (l : List Word). block_tokens b.tree ++ tokens l) (cut.last ends).1 ∙ append-nil (block_tokens b.tree))

    counted : count ≡ block_size b.tree
    counted = b.counted ∙ omega arith

    put : block_size b.tree ≤ most_rows → take (count * row_words) left ≡ table_of r
    put few =
        let quads = block_rows_length b.tree 0 in
        let size : count * row_words ≡ 4 * length (block_rows 0 b.tree) = omega (arith, counted, quads) in
        ap₂ (λ (n : ℕ) (l : List ℕ). take n l) size b.put
        ∙ rows_front (block_rows 0 b.tree) rows whole (omega (arith, few, quads))

-- the same, where what is said is known by an equation
pub reads_as : (text table : List ℕ) {said other : Said} {left : List ℕ} → said ≡ other → Reads false text table (answered other left)
    → Reads false text table (answered said left)
reads_as text table {left} e h = subst (λ (x : Said). Reads false text table (answered x left)) (sym e) h
