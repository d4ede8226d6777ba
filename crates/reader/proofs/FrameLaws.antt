-- An expression that is being read: what is to come after it, and what one word more makes of it.
use Prim.Native.Nat.{ℕ, ◌+◌, ◌-◌, ◌*◌, ◌/◌, ◌%◌, ◌≤◌, ◌<◌}
use native.Mathlib.Omega.{arith}
use mathlib.Core.Bool.{Bool, true, false}
use mathlib.Core.List.{List, [], ◌∷◌, ◌++◌, append_assoc, append-nil}
use mathlib.Core.Path.{◌≡◌, refl, sym, ap, ap₂, ◌∙◌}
use lib.Dec.{ltb}
use lib.ListN.{length, get_or, set, length-append}
use lib.Seq.{get_or-set_same, get_or-set_other}
use borrow.Author.Tests.{ltb-true, ltb-false}
use Rattle.rules.specs.Limits.{most_rows}
use Rattle.rules.specs.declared.Operator.{Operator}
use Rattle.rules.specs.Cases.{Quad}
use Rattle.rules.specs.Trees.{Expr, binary}
use Rattle.language.specs.Tokens as word
use Rattle.language.specs.Tokens.{Token, tokens}
use Rattle.language.specs.Recipes.{expr_tokens}
use Rattle.rules.specs.Trees.{operator_number}
use Rattle.language.specs.Tables.{expr_below, expr_size, expr_rows}
use Rattle.spans.specs.Cut.{from}
use Rattle.language.proofs.RowCounts.{expr_rows_length}
use Rattle.reader.specs.Machine.{Symbol, expr, exactly, operator, run}
use Rattle.reader.specs.Rows.{row_put, rows_put}
use Rattle.reader.specs.Statements.{Led}
use Rattle.reader.specs.Frames.{Frame, waiting, having, frames_tokens, frames_size, frames_rows, frames_owed, most_held, Entries, Whole, nothing, just, whole_tokens, Standing}
use Rattle.reader.specs.declared.expressions.Inside.{Inside}
use Rattle.reader.proofs.RowLaws.{row_beyond, rows_put_last}
use Rattle.reader.proofs.RunLaws.{joined, run_sign, run_opening, run_expr}
use Rattle.reader.proofs.PlaceLaws.{later_on}

-- ---- what is to come

abbrev frames_symbols : List Frame → List Symbol
frames_symbols [] = []
frames_symbols (waiting ∷ frames) = operator ∷ expr ∷ exactly word.closing ∷ frames_symbols frames
frames_symbols (having e o ∷ frames) = exactly word.closing ∷ frames_symbols frames

abbrev pub symbols_after : List Frame → Whole → List Symbol
symbols_after frames nothing = expr ∷ frames_symbols frames
symbols_after frames (just e) = frames_symbols frames

run_frames : (frames : List Frame) (ts : List Token) (k : List Symbol)
    → run (frames_tokens frames ++ ts) (expr ∷ k) ≡ run ts (expr ∷ (frames_symbols frames ++ k))
run_frames [] ts k = refl
run_frames (waiting ∷ frames) ts k =
    joined (frames_tokens frames) (word.opening ∷ []) ts (expr ∷ k)
    ∙ run_frames frames (word.opening ∷ ts) k
    ∙ run_opening ts (frames_symbols frames ++ k)
run_frames (having e o ∷ frames) ts k =
    let more : List Symbol = exactly word.closing ∷ (frames_symbols frames ++ k) in
    joined (frames_tokens frames) (word.opening ∷ (expr_tokens e ++ word.sign o ∷ [])) ts (expr ∷ k)
    ∙ run_frames frames (word.opening ∷ ((expr_tokens e ++ word.sign o ∷ []) ++ ts)) k
    ∙ run_opening ((expr_tokens e ++ word.sign o ∷ []) ++ ts) (frames_symbols frames ++ k)
    ∙ joined (expr_tokens e) (word.sign o ∷ []) ts (expr ∷ operator ∷ expr ∷ more)
    ∙ run_expr e (word.sign o ∷ ts) (operator ∷ expr ∷ more)
    ∙ run_sign o ts (expr ∷ more)

pub run_reached : (frames : List Frame) (whole : Whole) (ts : List Token) (k : List Symbol)
    → run (frames_tokens frames ++ (whole_tokens whole ++ ts)) (expr ∷ k) ≡ run ts (symbols_after frames whole ++ k)
run_reached frames nothing ts k = run_frames frames ts k
run_reached frames (just e) ts k = run_frames frames (expr_tokens e ++ ts) k ∙ run_expr e ts (frames_symbols frames ++ k)

-- ---- the entries of what is open

-- one more is opened, or is gone on with, at a depth over theirs
entries_above : (first : ℕ) (held : List ℕ) (i v least more : ℕ) (frames : List Frame) → length frames ≤ i → 4 * (i + 1) ≤ more → least ≤ more
    → Entries first held least frames → Entries first (set held (i % most_held) v) more frames
entries_above first held i v least more [] h owed later entries = tt
entries_above first held i v least more (frame ∷ frames) h owed later (entry, entries) = (
  (λ few. get_or-set_other held (i % most_held) (length frames % most_held) v 0 (λ e. omega arith) ∙ entry (omega arith)),
  entries_above first held i v least more frames (omega arith) owed later entries,
)

entries_later : (first : ℕ) (held : List ℕ) (least more : ℕ) (frames : List Frame) → least ≤ more → Entries first held least frames
    → Entries first held more frames
entries_later first held least more [] later entries = tt
entries_later first held least more (frame ∷ frames) later (entry, entries) =
    ((λ few. entry (omega arith)), entries_later first held least more frames later entries)

pub frames_owed_lem : (frames : List Frame) → frames_owed frames ≤ 3 * length frames
frames_owed_lem [] = omega arith
frames_owed_lem (waiting ∷ frames) = let outer = frames_owed_lem frames in omega arith
frames_owed_lem (having e o ∷ frames) = let outer = frames_owed_lem frames in omega arith

frames_length : (first : ℕ) (frames : List Frame) → length (frames_rows first frames) ≡ frames_size frames
frames_length first [] = refl
frames_length first (waiting ∷ frames) = frames_length first frames
frames_length first (having e o ∷ frames) =
    let outer = frames_length first frames in
    let left = expr_rows_length e (first + frames_size frames) in
    simp length-append (omega arith)

-- ---- one word more

pub sign_few : (o : Operator) → operator_number o ≤ 5
unfolding operator_number
sign_few Operator.Sum = omega arith
sign_few Operator.Difference = omega arith
sign_few Operator.Product = omega arith
sign_few Operator.Quotient = omega arith
sign_few Operator.Equal = omega arith
sign_few Operator.Less = omega arith

-- a left side's row stands before its parent's, which is put nowhere where a table has no such row
row_near : (count left o right : ℕ) (rows : List ℕ) → left < count → row_put count (10, o, left % most_rows, right) rows ≡ row_put count (10, o, left, right) rows
row_near count left o right rows before = by (ltb count most_rows) refl
  where
    by : (b : Bool) → ltb count most_rows ≡ b → row_put count (10, o, left % most_rows, right) rows ≡ row_put count (10, o, left, right) rows
    by true h =
        let inside = ltb-true count most_rows h in
        let same : left % most_rows ≡ left = omega arith in
        ap (λ (n : ℕ). row_put count (10, o, n, right) rows) same
    by false h =
        let beyond = ltb-false count most_rows h in
        row_beyond count (10, o, left % most_rows, right) rows beyond ∙ sym (row_beyond count (10, o, left, right) rows beyond)

-- a row more at the end
row_more : (first count : ℕ) (quads all : List Quad) (quad : Quad) (before rows : List ℕ) → rows ≡ rows_put first quads before → count ≡ first + length quads
    → quads ++ quad ∷ [] ≡ all → row_put count quad rows ≡ rows_put first all before
row_more first count quads all quad before rows put counted e =
    ap₂ (λ (n : ℕ) (l : List ℕ). row_put n quad l) counted put
    ∙ sym (rows_put_last first quads quad before)
    ∙ ap (λ (l : List Quad). rows_put first l before) e

module _ {text : List ℕ} {at first : ℕ} {before : List ℕ} {s : Inside} {rows held : List ℕ} {frames : List Frame} {end : ℕ} where
  pub open_one : Led text s.at word.opening end → s.depth % most_held < length held → Standing text at first before s rows held frames nothing
      → Standing text at first before (record { at = end; count = s.count; depth = s.depth + 1; whole = false }) rows (set held (s.depth % most_held) 0) (waiting ∷ frames) nothing
  open_one next room st =
      let few = st.few in
      let further = next.on in
      let depth : s.depth ≡ length frames = st.depth in
      let owed = st.owed in
      record {
        mode = refl;
        depth = omega arith;
        read =
            st.read ∙ ap (λ (l : List Token). frames_tokens frames ++ l) next.is
            ∙ sym (append_assoc (frames_tokens frames) (word.opening ∷ []) (tokens (from text end)));
        later = later_on st.later next.later;
        put = st.put;
        counted = st.counted;
        owed = omega arith;
        entries = (
          (λ few. ap (λ (n : ℕ). get_or (set held (s.depth % most_held) 0) (n % most_held) 0) (sym depth) ∙ get_or-set_same held (s.depth % most_held) 0 0 room),
          entries_above first held s.depth 0 _ _ frames (omega arith) (omega arith) (omega arith) st.entries,
        );
        few = omega arith;
      }

  -- a word that is an expression by itself
  pub put_one : {t : Token} (quad : Quad) (e : Expr) {left : List ℕ} → left ≡ row_put s.count quad rows → expr_tokens e ≡ t ∷ []
      → ((base : ℕ) → expr_rows base e ≡ quad ∷ []) → expr_below e ≡ 0
      → Led text s.at t end → Standing text at first before s rows held frames nothing
      → Standing text at first before (record { at = end; count = s.count + 1; depth = s.depth; whole = true }) left held frames (just e)
  put_one quad e put is row alone next st =
      let few = st.few in
      let further = next.on in
      let counted = st.counted in
      let size = frames_length first frames in
      record {
        mode = refl;
        depth = st.depth;
        read =
            st.read
            ∙ ap (λ (l : List Token). frames_tokens frames ++ l) (next.is ∙ ap (λ (l : List Token). l ++ tokens (from text end)) (sym is));
        later = later_on st.later next.later;
        put =
            put ∙ row_more first s.count (frames_rows first frames) (frames_rows first frames ++ expr_rows (first + frames_size frames) e) quad before rows
            (st.put ∙ ap (λ (l : List Quad). rows_put first l before) (append-nil (frames_rows first frames))) (omega arith)
            (ap (λ (l : List Quad). frames_rows first frames ++ l) (sym (row (first + frames_size frames))));
        counted = omega arith;
        owed = omega (arith, st.owed);
        entries = entries_later first held _ _ frames (omega arith) st.entries;
        few = omega arith;
      }

  -- the operator after a left side
  pub sign_one : {o : Operator} {e : Expr} (last : ℕ) {entry : ℕ} → Led text s.at (word.sign o) end → s.depth ≡ last + 1 → last % most_held < length held
      → entry ≡ (s.count - 1) % most_rows * 8 + operator_number o + 1
      → Standing text at first before s rows held (waiting ∷ frames) (just e)
      → Standing text at first before (record { at = end; count = s.count; depth = s.depth; whole = false }) rows (set held (last % most_held) entry) (having e o ∷ frames) nothing
  sign_one {o} {e} last {entry} next deep room is st =
      let few = st.few in
      let further = next.on in
      let counted = st.counted in
      let depth : last ≡ length frames = omega (arith, st.depth) in
      let top : s.count - 1 ≡ first + frames_size frames + expr_below e = omega arith in
      let owed = st.owed in
      record {
        mode = refl;
        depth = omega arith;
        read =
            st.read
            ∙ ap (λ (l : List Token). (frames_tokens frames ++ word.opening ∷ []) ++ (expr_tokens e ++ l)) next.is
            ∙ simp append_assoc;
        later = later_on st.later next.later;
        put = st.put ∙ ap (λ (l : List Quad). rows_put first l before) (sym (append-nil (frames_rows first frames ++ expr_rows (first + frames_size frames) e)));
        counted = omega arith;
        owed = omega arith;
        entries = (
          (λ few.
              ap (λ (n : ℕ). get_or (set held (last % most_held) entry) (n % most_held) 0) (sym depth)
              ∙ get_or-set_same held (last % most_held) entry 0 room ∙ is ∙ ap (λ (n : ℕ). n % most_rows * 8 + operator_number o + 1) top),
          entries_above first held last entry _ _ frames (omega arith) (omega arith) (omega arith) st.entries.1,
        );
        few = omega arith;
      }

  -- the end after a right side
  pub close_one : {o : Operator} {e f : Expr} {last entry : ℕ} {left : List ℕ}
      → left ≡ row_put s.count (10, (entry - 1) % 8, (entry - 1) / 8, s.count - 1) rows → Led text s.at word.closing end → s.depth ≡ last + 1
      → entry ≡ get_or held (last % most_held) 0 → s.at + frames_owed frames + 3 < 4 * (length frames + most_held + 1)
      → Standing text at first before s rows held (having e o ∷ frames) (just f)
      → Standing text at first before (record { at = end; count = s.count + 1; depth = last; whole = true }) left held frames (just (binary o e f))
  close_one {o} {e} {f} {last} {entry} put next deep is near st =
      let few = st.few in
      let further = next.on in
      let counted = st.counted in
      let depth : last ≡ length frames = omega (arith, st.depth) in
      let base : ℕ = first + frames_size frames in
      let outer : List Quad = frames_rows first frames in
      let size = frames_length first frames in
      let first-size = expr_rows_length e base in
      let second-size = expr_rows_length f (base + expr_size e) in
      let opened : entry ≡ (base + expr_below e) % most_rows * 8 + operator_number o + 1 = is ∙ ap (λ (n : ℕ). get_or held (n % most_held) 0) depth ∙ st.entries.0 (omega arith) in
      let few-signs = sign_few o in
      let sign : (entry - 1) % 8 ≡ operator_number o = omega arith in
      let row : (entry - 1) / 8 ≡ (base + expr_below e) % most_rows = omega arith in
      let top : s.count - 1 ≡ base + expr_size e + expr_below f = omega arith in
      let same_base : first + (frames_size frames + expr_size e) ≡ base + expr_size e = omega arith in
      let before_last : List Quad = (outer ++ expr_rows base e) ++ expr_rows (base + expr_size e) f in
      let quad : Quad = (10, operator_number o, base + expr_below e, base + expr_size e + expr_below f) in
      let cut_quad : Quad = (10, operator_number o, (base + expr_below e) % most_rows, base + expr_size e + expr_below f) in
      let same_quad : (10, (entry - 1) % 8, (entry - 1) / 8, s.count - 1) ≡ cut_quad = cc in
      record {
        mode = refl;
        depth = depth;
        read =
            st.read
            ∙ ap (λ (l : List Token). (frames_tokens frames ++ word.opening ∷ (expr_tokens e ++ word.sign o ∷ [])) ++ (expr_tokens f ++ l)) next.is
            ∙ simp append_assoc;
        later = later_on st.later next.later;
        put =
            put ∙ ap (λ (q : Quad). row_put s.count q rows) same_quad
            ∙ row_near s.count (base + expr_below e) (operator_number o) (base + expr_size e + expr_below f) rows (omega arith)
            ∙ row_more first s.count before_last (outer ++ expr_rows base (binary o e f)) quad before rows
            (st.put ∙ ap (λ (n : ℕ). rows_put first ((outer ++ expr_rows base e) ++ expr_rows n f) before) same_base)
            (simp length-append (omega arith))
            (simp append_assoc);
        counted = omega arith;
        owed = omega (arith, st.owed);
        entries = entries_later first held _ _ frames (omega arith) st.entries.1;
        few = omega arith;
      }
