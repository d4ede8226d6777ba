-- Statements and blocks from their parts: the words that were read, the rows that were put, and where no recipe goes on.
use Prim.Native.Nat.{ℕ, ◌+◌, ◌-◌, ◌≤◌}
use native.Mathlib.Nat.{add-zero}
use native.Mathlib.Omega.{arith}
use mathlib.Core.List.{List, [], ◌∷◌, ◌++◌, append_assoc, append-nil}
use mathlib.Core.Path.{◌≡◌, refl, sym, ap, ap₂, ◌∙◌}
use lib.ListN.{length, length-append}
use Rattle.rules.specs.declared.Operator.{Operator}
use Rattle.rules.specs.Cases.{Quad}
use Rattle.rules.specs.Trees.{Expr}
use Rattle.language.specs.Words.{Word}
use Rattle.language.specs.Tokens as word
use Rattle.language.specs.Tokens.{Token, counted, tokens}
use Rattle.language.specs.Recipes.{Statement, skip, set, if, while, Block, one, more, expr_tokens, statement_tokens, block_tokens}
use Rattle.language.specs.Recipes as recipe
use Rattle.language.specs.Tables.{expr_below, expr_size, statement_below, statement_size, block_below, block_size, expr_rows, statement_rows, block_rows}
use Rattle.spans.specs.Cut.{from, Begun}
use Rattle.language.proofs.RowCounts.{expr_rows_length, statement_rows_length, block_rows_length}
use Rattle.reader.specs.Machine.{Closer, at_else, at_end, Symbol, expr, statement, exactly, name, rest, on_statement, closing, on_rest, run}
use Rattle.reader.specs.Rows.{row_put, rows_put}
use Rattle.reader.specs.Steps.{Missing, Sort, expressions, statements, blocks, Later, Asked, Read, Stuck, Over}
use Rattle.reader.specs.Statements.{Spells, Led, EndedAt, Outputs, settled, provisional}
use Rattle.std.specs.Prelude.{Ok, Err}
use Rattle.reader.specs.declared.expressions.Place.{Place}
use Rattle.reader.proofs.RunLaws.{joined, run_exactly, run_expr, run_statement, run_block, run_more, run_else, run_if, run_while, run_set, run_name, run_settled, run_provisional}
use Rattle.reader.proofs.RowLaws.{rows_put_append}
use Rattle.reader.proofs.PlaceLaws.{later_self, later_on, begun_on, later_begun, stuck_past, stuck_here, stuck_word, lacks_word}

-- parts with a word after them
abbrev pub ended_by : {Tree : Type 0} → Token → Sort Tree → Sort Tree
ended_by t sort = record { words = λ tree. sort.words tree ++ t ∷ []; rows = sort.rows; size = sort.size }

abbrev Sized : {Tree : Type 0} → Sort Tree → Type 0
Sized {Tree} sort = (tree : Tree) (base : ℕ) → length (sort.rows base tree) ≡ sort.size tree

-- ---- parts, one after the other

-- These words stand between the two places, and these rows were put.
record Passed (text : List ℕ) (at count : ℕ) (rows : List ℕ) (words : List Token) (quads : List Quad) (next total : ℕ) (left : List ℕ) : Type 0 where
  pub is : tokens (from text at) ≡ words ++ tokens (from text next)
  pub later : Later text at next
  pub put : left ≡ rows_put count quads rows
  pub counted : total ≡ count + length quads

module _ {text : List ℕ} where
  pass_on :
      {at count mid some next total : ℕ} {rows between left : List ℕ} {a b : List Token} {p q : List Quad}
      → Passed text at count rows a p mid some between → Passed text mid some between b q next total left
      → Passed text at count rows (a ++ b) (p ++ q) next total left
  pass_on {at} {count} {mid} {some} {next} {total} {rows} {between} {left} {a} {b} {p} {q} x y =
      record {
        is = x.is ∙ ap (λ (l : List Token). a ++ l) y.is ∙ sym (append_assoc a b (tokens (from text next)));
        later = later_on x.later y.later;
        put = y.put ∙ ap₂ (λ (n : ℕ) (l : List ℕ). rows_put n q l) x.counted x.put ∙ sym (rows_put_append count p q rows);
        counted = simp length-append (omega (arith, x.counted, y.counted));
      }

  pass_word : {at next count : ℕ} {rows : List ℕ} {t : Token} → Led text at t next → Passed text at count rows (t ∷ []) [] next count rows
  unfolding rows_put
  pass_word {at} {next} {count} w = record { is = w.is; later = w.later; put = refl; counted = sym (add-zero count) }

  pass_row : {at total : ℕ} {rows left : List ℕ} {quad : Quad} → left ≡ row_put total quad rows
      → Passed text at total rows [] (quad ∷ []) at (total + 1) left
  unfolding rows_put
  pass_row e = record { is = refl; later = later_self; put = e; counted = refl }

  pass_read : {Tree : Type 0} {sort : Sort Tree} {at count next total : ℕ} {rows left : List ℕ} → Sized sort → (r : Read sort text at count rows next total left)
      → Passed text at count rows (sort.words r.tree) (sort.rows count r.tree) next total left
  pass_read {count = count} sized r =
      record { is = r.is; later = r.later; put = r.put; counted = r.counted ∙ ap (λ (n : ℕ). count + n) (sym (sized r.tree count)) }

  read_of : {Tree : Type 0} {sort : Sort Tree} {at count next total : ℕ} {rows left : List ℕ} {words : List Token} {quads : List Quad} → Sized sort
      → (tree : Tree) → Passed text at count rows words quads next total left
      → words ≡ sort.words tree → quads ≡ sort.rows count tree → next ≤ length text → total + at ≤ count + next
      → Read sort text at count rows next total left
  read_of {sort = sort} {count = count} {next = next} {rows = rows} sized tree p of_words of-rows inside few =
      record {
        tree = tree;
        is = p.is ∙ ap (λ (l : List Token). l ++ tokens (from text next)) of_words;
        later = p.later;
        put = p.put ∙ ap (λ (l : List Quad). rows_put count l rows) of-rows;
        counted = p.counted ∙ ap (λ (n : ℕ). count + n) (ap length of-rows ∙ sized tree count);
        inside = inside;
        few = few;
      }

-- ---- what may be asked afterwards

pub asked_on :
    {Tree : Type 0} {sort : Sort Tree} {text rows left : List ℕ} {at next : Place} → Asked text at
    → Read sort text at.at at.count rows next.at next.count left → Asked text next
asked_on a r = record { inside = r.inside; short = a.short; few = omega (arith, a.few, r.few) }

-- the same number of rows, at a place after a word
pub asked_after : {text : List ℕ} {at next : Place} {t : Token} → Asked text at → next.count ≡ at.count → Led text at.at t next.at → Asked text next
asked_after a same_count w =
    record { inside = w.inside; short = a.short; few = omega (arith, a.few, w.on, same_count) }

-- ---- where no recipe goes on

run_tested : (e : Expr) (t : Token) (ts : List Token) (symbols : List Symbol)
    → run ((expr_tokens e ++ t ∷ []) ++ ts) (expr ∷ exactly t ∷ symbols) ≡ run ts symbols
run_tested e t ts symbols =
    joined (expr_tokens e) (t ∷ []) ts (expr ∷ exactly t ∷ symbols)
    ∙ run_expr e (t ∷ ts) (exactly t ∷ symbols)
    ∙ run_exactly t ts symbols

run_chosen : (b : Block) (ts : List Token) (symbols : List Symbol)
    → run ((block_tokens b ++ word.else ∷ []) ++ ts) (statement ∷ rest at_else ∷ symbols) ≡ run ts (statement ∷ rest at_end ∷ symbols)
run_chosen b ts symbols =
    joined (block_tokens b) (word.else ∷ []) ts (statement ∷ rest at_else ∷ symbols)
    ∙ run_block b at_else (word.else ∷ ts) symbols
    ∙ run_else ts symbols

-- the word that ends a block
pub data Closes : Closer → Token → Type 0 where
  with_else : Closes at_else word.else
  with_end : Closes at_end word.end

module _ {text : List ℕ} {place : ℕ} where
  stuck_read :
      {Tree : Type 0} {sort : Sort Tree} {at count next total : ℕ} {rows left : List ℕ} {symbols after : List Symbol}
      → Read sort text at count rows next total left
      → ((tree : Tree) (ts : List Token) (others : List Symbol) → run (sort.words tree ++ ts) (symbols ++ others) ≡ run ts (after ++ others))
      → Stuck text next after place → Stuck text at symbols place
  stuck_read {sort = sort} r runs s = stuck_past (λ ts. sort.words r.tree ++ ts) r.is r.later (runs r.tree) s

  stuck_expr :
      {at count next total : ℕ} {rows left : List ℕ} (after : List Symbol) → Read expressions text at count rows next total left
      → Stuck text next after place → Stuck text at (expr ∷ after) place
  stuck_expr after e s = stuck_read {sort = expressions} e (λ tree ts others. run_expr tree ts (after ++ others)) s

  pub stuck_statement :
      {at count next total : ℕ} {rows left : List ℕ} (after : List Symbol) → Read statements text at count rows next total left
      → Stuck text next after place → Stuck text at (statement ∷ after) place
  stuck_statement after r s = stuck_read {sort = statements} r (λ tree ts others. run_statement tree ts (after ++ others)) s

  stuck_block :
      {at count next total : ℕ} {rows left : List ℕ} (c : Closer) → Read blocks text at count rows next total left
      → Stuck text next (rest c ∷ []) place → Stuck text at (statement ∷ rest c ∷ []) place
  stuck_block c r s = stuck_read {sort = blocks} r (λ tree ts others. run_block tree c ts others) s

  pub stuck_exactly :
      {at next : ℕ} {t : Token} (after : List Symbol) → Led text at t next → Stuck text next after place → Stuck text at (exactly t ∷ after) place
  stuck_exactly after w s = stuck_word w (λ ts others. run_exactly _ ts (after ++ others)) s

  pub stuck_tested :
      {at count next total : ℕ} {rows left : List ℕ} {t : Token} (after : List Symbol) → Read (ended_by t expressions) text at count rows next total left
      → Stuck text next after place → Stuck text at (expr ∷ exactly t ∷ after) place
  stuck_tested {t = t} after e s = stuck_read {sort = ended_by t expressions} e (λ tree ts others. run_tested tree t ts (after ++ others)) s

  pub stuck_output :
      {at next channel : ℕ} {t : Token} → Outputs t channel → Led text at t next → Stuck text next (expr ∷ []) place → Stuck text at (statement ∷ []) place
  stuck_output settled w s = stuck_word w run_settled s
  stuck_output provisional w s = stuck_word w run_provisional s

  pub stuck_set :
      {at next : ℕ} → Led text at word.set next → Stuck text next (name ∷ exactly (word.sign Operator.Equal) ∷ expr ∷ []) place
      → Stuck text at (statement ∷ []) place
  stuck_set w s = stuck_word w run_set s

  pub stuck_name :
      {at next v : ℕ} (after : List Symbol) → Led text at (word.variable v) next → Stuck text next after place → Stuck text at (name ∷ after) place
  stuck_name {v = v} after w s = stuck_word w (λ ts others. run_name v ts (after ++ others)) s

  pub stuck_if :
      {at next : ℕ} → Led text at word.if next → Stuck text next (expr ∷ exactly word.then ∷ statement ∷ rest at_else ∷ []) place
      → Stuck text at (statement ∷ []) place
  stuck_if w s = stuck_word w run_if s

  -- a block that is over, and what follows its else
  pub stuck_chosen :
      {at count next total : ℕ} {rows left : List ℕ} → Read (ended_by word.else blocks) text at count rows next total left
      → Stuck text next (statement ∷ rest at_end ∷ []) place → Stuck text at (statement ∷ rest at_else ∷ []) place
  stuck_chosen r s = stuck_read {sort = ended_by word.else blocks} r run_chosen s

  pub stuck_while :
      {at next : ℕ} → Led text at word.while next → Stuck text next (expr ∷ exactly word.doing ∷ statement ∷ rest at_end ∷ []) place
      → Stuck text at (statement ∷ []) place
  stuck_while w s = stuck_word w run_while s

  pub stuck_semicolon :
      {at next : ℕ} (c : Closer) → Led text at word.semicolon next → Stuck text next (statement ∷ rest c ∷ []) place → Stuck text at (rest c ∷ []) place
  stuck_semicolon c w s = stuck_word w (run_more c) s

module _ {text : List ℕ} {at : ℕ} where
  lacks_closer : {c : Closer} {t : Token} → Closes c t → Over text at → Missing text at t → Stuck text at (rest c ∷ []) at
  unfolding on_rest closing
  lacks_closer with_else over m = stuck_here (rest at_else) refl (λ first later e. rw (over first later e, m first later e))
  lacks_closer with_end over m = stuck_here (rest at_end) refl (λ first later e. rw (over first later e, m first later e))

  pub lacks_statement :
      Missing text at word.skip → Missing text at word.set → Missing text at word.if → Missing text at word.while
      → Missing text at word.settled → Missing text at word.provisional → Stuck text at (statement ∷ []) at
  unfolding on_statement
  lacks_statement a b c d e f =
      stuck_here statement refl
      (λ first later is. rw (a first later is, b first later is, c first later is, d first later is, e first later is, f first later is))

-- ---- a statement from its parts

-- the last row of what was read, from how many there are then
last_row : (count below : ℕ) {total : ℕ} → total ≡ count + (below + 1) → total - 1 ≡ count + below
last_row count below e = omega arith

output_of : {t : Token} {channel : ℕ} → Outputs t channel → Expr → Statement
output_of settled = recipe.settled
output_of provisional = recipe.provisional

output_words : {t : Token} {channel : ℕ} (o : Outputs t channel) (e : Expr) → t ∷ expr_tokens e ≡ statement_tokens (output_of o e)
unfolding output_of
output_words settled e = refl
output_words provisional e = refl

output_rows : {t : Token} {channel : ℕ} (o : Outputs t channel) (e : Expr) (base : ℕ)
    → expr_rows base e ++ (5, channel, base + expr_below e, 0) ∷ [] ≡ statement_rows base (output_of o e)
unfolding output_of
output_rows settled e base = refl
output_rows provisional e base = refl

if_rows : (base chosen stated total : ℕ) (e : Expr) (s t : Block) → chosen ≡ base + expr_size e → stated ≡ chosen + block_size s → total ≡ stated + block_size t
    → expr_rows base e ++ (block_rows chosen s ++ (block_rows stated t ++ (3, chosen - 1, stated - 1, total - 1) ∷ [])) ≡ statement_rows base (if e s t)
if_rows base chosen stated total e s t p q r =
    let q' : stated ≡ base + expr_size e + block_size s = omega arith in
    let x : chosen - 1 ≡ base + expr_below e = omega arith in
    let y : stated - 1 ≡ base + expr_size e + block_below s = omega arith in
    let z : total - 1 ≡ base + expr_size e + block_size s + block_below t = omega arith in
    cc

while_rows : (base chosen total : ℕ) (e : Expr) (s : Block) → chosen ≡ base + expr_size e → total ≡ chosen + block_size s
    → expr_rows base e ++ (block_rows chosen s ++ (4, chosen - 1, total - 1, 0) ∷ []) ≡ statement_rows base (while e s)
while_rows base chosen total e s p q =
    let x : chosen - 1 ≡ base + expr_below e = omega arith in
    let y : total - 1 ≡ base + expr_size e + block_below s = omega arith in
    cc

more_rows : (base stated total : ℕ) (s : Statement) (b : Block) → stated ≡ base + statement_size s → total ≡ stated + block_size b
    → statement_rows base s ++ (block_rows stated b ++ (2, stated - 1, total - 1, 0) ∷ []) ≡ block_rows base (more s b)
more_rows base stated total s b p q =
    let x : stated - 1 ≡ base + statement_below s = omega arith in
    let y : total - 1 ≡ base + statement_size s + block_below b = omega arith in
    cc

module _ {text : List ℕ} where
  ended_read :
      {Tree : Type 0} {sort : Sort Tree} {at count mid next total : ℕ} {rows left : List ℕ} {t : Token} → Sized sort
      → Read sort text at count rows mid total left → Led text mid t next → Read (ended_by t sort) text at count rows next total left
  ended_read {sort = sort} {at} {count} {t = t} sized r w =
      read_of {sort = ended_by t sort} sized r.tree (pass_on (pass_read sized r) (pass_word w))
      refl (append-nil (sort.rows count r.tree)) w.inside (omega (arith, r.few, w.on))

  pub skip_read :
      {at next count : ℕ} {rows left : List ℕ} → Led text at word.skip next → left ≡ row_put count (0, 0, 0, 0) rows
      → Read statements text at count rows next (count + 1) left
  skip_read w put =
      read_of {sort = statements} statement_rows_length skip (pass_on (pass_word w) (pass_row put)) refl refl w.inside (omega (arith, w.on))

  pub set_read :
      {at named equals from next count total v : ℕ} {rows between left : List ℕ} → Led text at word.set named → Led text named (word.variable v) equals
      → Led text equals (word.sign Operator.Equal) from → Read expressions text from count rows next total between
      → left ≡ row_put total (1, v, total - 1, 0) between → Read statements text at count rows next (total + 1) left
  set_read {at} {count = count} {v = v} first second third e put =
      read_of {sort = statements} statement_rows_length (set v e.tree)
      (pass_on (pass_word first) (pass_on (pass_word second) (pass_on (pass_word third) (pass_on (pass_read expr_rows_length e) (pass_row put)))))
      (rw append-nil) (ap (λ (n : ℕ). expr_rows count e.tree ++ (1, v, n, 0) ∷ []) (last_row count (expr_below e.tree) e.counted)) e.inside
      (omega (arith, first.on, second.on, third.on, e.few))

  pub output_read :
      {at from next count total channel : ℕ} {rows between left : List ℕ} {t : Token} (o : Outputs t channel) → Led text at t from
      → Read expressions text from count rows next total between → left ≡ row_put total (5, channel, total - 1, 0) between
      → Read statements text at count rows next (total + 1) left
  output_read {at} {count = count} {channel = channel} {t = t} o first e put =
      read_of {sort = statements} statement_rows_length (output_of o e.tree) (pass_on (pass_word first) (pass_on (pass_read expr_rows_length e) (pass_row put)))
      (ap (λ (l : List Token). t ∷ l) (append-nil (expr_tokens e.tree)) ∙ output_words o e.tree)
      (ap (λ (n : ℕ). expr_rows count e.tree ++ (5, channel, n, 0) ∷ []) (last_row count (expr_below e.tree) e.counted) ∙ output_rows o e.tree count)
      e.inside (omega (arith, first.on, e.few))

  pub if_read :
      {at a b c next count chosen stated total : ℕ} {rows r s t left : List ℕ} → Led text at word.if a
      → Read (ended_by word.then expressions) text a count rows b chosen r → Read (ended_by word.else blocks) text b chosen r c stated s
      → Read (ended_by word.end blocks) text c stated s next total t → left ≡ row_put total (3, chosen - 1, stated - 1, total - 1) t
      → Read statements text at count rows next (total + 1) left
  if_read {count = count} {chosen} {stated} {total} first x y z put =
      read_of {sort = statements} statement_rows_length (if x.tree y.tree z.tree)
      (pass_on (pass_word first) (pass_on (pass_read expr_rows_length x) (pass_on (pass_read block_rows_length y) (pass_on (pass_read block_rows_length z) (pass_row put)))))
      (simp (append_assoc, append-nil))
      (if_rows count chosen stated total x.tree y.tree z.tree x.counted y.counted z.counted)
      z.inside
      (omega (arith, first.on, x.few, y.few, z.few))

  pub while_read :
      {at a b next count chosen total : ℕ} {rows r s left : List ℕ} → Led text at word.while a
      → Read (ended_by word.doing expressions) text a count rows b chosen r → Read (ended_by word.end blocks) text b chosen r next total s
      → left ≡ row_put total (4, chosen - 1, total - 1, 0) s → Read statements text at count rows next (total + 1) left
  while_read {count = count} {chosen} {total} first x y put =
      read_of {sort = statements} statement_rows_length (while x.tree y.tree)
      (pass_on (pass_word first) (pass_on (pass_read expr_rows_length x) (pass_on (pass_read block_rows_length y) (pass_row put))))
      (simp (append_assoc, append-nil))
      (while_rows count chosen total x.tree y.tree x.counted y.counted)
      y.inside
      (omega (arith, first.on, x.few, y.few))

  pub one_read :
      {at next count total : ℕ} {rows left : List ℕ} → Read statements text at count rows next total left → Read blocks text at count rows next total left
  one_read r =
      record { tree = one r.tree; is = r.is; later = r.later; put = r.put; counted = r.counted; inside = r.inside; few = r.few }

  -- blanks after what was read make no difference
  pub begun_read :
      {Tree : Type 0} {sort : Sort Tree} {at count next here total : ℕ} {rows left : List ℕ} → Read sort text at count rows next total left
      → Begun text next here → Read sort text at count rows here total left
  begun_read {sort = sort} r begun =
      record {
        tree = r.tree;
        is = r.is ∙ ap (λ (l : List Word). sort.words r.tree ++ tokens l) (sym begun.same);
        later = later_on r.later (later_begun begun);
        put = r.put;
        counted = r.counted;
        inside = begun.inside;
        few = omega (arith, r.few, begun_on begun r.inside);
      }

  pub over_begun : {next here : ℕ} → Over text next → Begun text next here → Over text here
  over_begun over begun first later e = over first later (ap tokens (sym begun.same) ∙ e)

  pub more_read :
      {at a b next count stated total : ℕ} {rows r s left : List ℕ} → Read statements text at count rows a stated r → Led text a word.semicolon b
      → Read blocks text b stated r next total s → left ≡ row_put total (2, stated - 1, total - 1, 0) s → Read blocks text at count rows next (total + 1) left
  more_read {count = count} {stated} {total} x w y put =
      read_of {sort = blocks} block_rows_length (more x.tree y.tree)
      (pass_on (pass_read statement_rows_length x) (pass_on (pass_word w) (pass_on (pass_read block_rows_length y) (pass_row put))))
      (rw append-nil) (more_rows count stated total x.tree y.tree x.counted y.counted) y.inside (omega (arith, x.few, w.on, y.few))

-- ---- a word after what was read

module _ {text rows left : List ℕ} {at read : Place} {key : List ℕ} {t : Token} (k : Spells key t) where
  -- a test and the word after it
  pub test_ended :
      {next : Place} → Read expressions text at.at at.count rows read.at read.count left → EndedAt text read t (Ok next)
      → Read (ended_by t expressions) text at.at at.count rows next.at next.count left
  test_ended {next} r (same_count, w) = rw same_count (ended_read {sort = expressions} expr_rows_length r w)

  pub test_unended :
      {place : ℕ} → Read expressions text at.at at.count rows read.at read.count left → EndedAt text read t (Err place)
      → Stuck text at.at (expr ∷ exactly t ∷ []) place
  test_unended r (is, m) = rw is (stuck_expr (exactly t ∷ []) r (lacks_word m))

  -- a block and the word after it
  pub block_ended :
      {next : Place} → Read blocks text at.at at.count rows read.at read.count left × Over text read.at → EndedAt text read t (Ok next)
      → Read (ended_by t blocks) text at.at at.count rows next.at next.count left
  block_ended {next} (r, over) (same_count, w) = rw same_count (ended_read {sort = blocks} block_rows_length r w)

  pub block_unended :
      {c : Closer} → Closes c t → {place : ℕ} → Read blocks text at.at at.count rows read.at read.count left × Over text read.at
      → EndedAt text read t (Err place) → Stuck text at.at (statement ∷ rest c ∷ []) place
  block_unended {c} closes (r, over) (is, m) = rw is (stuck_block c r (lacks_closer closes over m))
