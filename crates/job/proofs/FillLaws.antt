-- Laws of lines that are read one after the other into a buffer.
use Prim.Native.Nat.{ℕ, suc, ◌+◌, ◌-◌, ◌≤◌, ◌<◌}
use native.Mathlib.Omega.{arith}
use mathlib.Core.List.{List, [], ◌∷◌, ◌++◌, append_assoc}
use mathlib.Core.Path.{◌≡◌, refl, sym, ap, ◌∙◌}
use lib.ListN.{length, take, drop, set, length-append}
use lib.Seq.{sets, sets-eq, length-sets, length-take-le, take_at, drop-set-lt}
use borrow.Rule.Slice.PartMut.{put_mid, post_of}
use Rattle.std.proofs.lemmas.List.{drop-drop}
use Rattle.std.specs.Prelude.{Ok, Err}
use Rattle.job.specs.declared.Fault.{Fault}
use Rattle.job.specs.Faults.{fault_number}
use Rattle.job.specs.Read.{LinesRead}
use Rattle.job.specs.Jobs.{number_line, number_lines, row_line}
use Rattle.lines.specs.Lines.{Line, line, faulty, Lines, lines, broken, on_line, lines_of}

-- ---- a reading of so many lines one after the other, each of the form of its number

pub record Course (form : ℕ → List ℕ → Line) (course : ℕ → ℕ → List ℕ → List ℕ → Lines) : Type 0 where
  pub none : (at : ℕ) (before text : List ℕ) → course 0 at before text ≡ lines before text
  pub more : (n at : ℕ) (before text : List ℕ) → course (suc n) at before text ≡ on_line (course n (at + 1)) at before (form at text)

pub numbers_course : Course number_line number_lines
unfolding number_lines
numbers_course = record { none = λ at before text. refl; more = λ n at before text. refl }

pub rows_course : Course (λ at. row_line) (lines_of row_line)
unfolding lines_of
rows_course = record { none = λ at before text. refl; more = λ n at before text. refl }

-- ---- lines, from line i of count on; before are the numbers of those before it

module _ {form : ℕ → List ℕ → Line} {course : ℕ → ℕ → List ℕ → List ℕ → Lines} (is : Course form course) (count first i : ℕ) (before text : List ℕ) where
  lines_more : i < count
      → course (count - i) (first + i) before text ≡ on_line (course (count - (i + 1)) (first + (i + 1))) (first + i) before (form (first + i) text)
  lines_more h =
      let n : count - i ≡ suc (count - (i + 1)) = omega arith in
      let k : first + i + 1 ≡ first + (i + 1) = omega arith in
      ap (λ (m : ℕ). course m (first + i) before text) n
      ∙ is.more (count - (i + 1)) (first + i) before text
      ∙ ap (λ (j : ℕ). on_line (course (count - (i + 1)) j) (first + i) before (form (first + i) text)) k

  pub lines_again : (values rest after : List ℕ) → i < count → line values rest ≡ form (first + i) text → after ≡ before ++ values
      → course (count - (i + 1)) (first + (i + 1)) after rest ≡ course (count - i) (first + i) before text
  unfolding on_line
  lines_again values rest after h e a =
      ap (λ (b : List ℕ). course (count - (i + 1)) (first + (i + 1)) b rest) a
      ∙ ap (on_line (course (count - (i + 1)) (first + (i + 1))) (first + i) before) e
      ∙ sym (lines_more h)

  pub lines_stop : (refusal : ℕ) → i < count → faulty refusal ≡ form (first + i) text
      → broken refusal (first + i) ≡ course (count - i) (first + i) before text
  unfolding on_line
  lines_stop refusal h e = ap (on_line (course (count - (i + 1)) (first + (i + 1))) (first + i) before) e ∙ sym (lines_more h)

  pub lines_done : count ≤ i → lines before text ≡ course (count - i) (first + i) before text
  lines_done h =
      let n : 0 ≡ count - i = omega arith in
      sym (is.none (first + i) before text) ∙ ap (λ (m : ℕ). course m (first + i) before text) n

-- ---- the buffer

pub take_sets : (words : List ℕ) (at n : ℕ) (values : List ℕ) → n ≡ at + length values → n ≤ length words
    → take n (sets words at values) ≡ take at words ++ values
take_sets words at n values e h =
    let front : length (take at words ++ values) ≡ n =
    length-append (take at words) values ∙ ap (λ (k : ℕ). k + length values) (length-take-le at words (omega arith)) ∙ sym e in
    ap (take n) (sets-eq values words at (omega arith)) ∙ take_at (take at words ++ values) (drop (at + length values) words) n front

pub drop_sets : (values words : List ℕ) (at n : ℕ) → at + length values ≤ n → drop n (sets words at values) ≡ drop n words
drop_sets [] words at n h = refl
drop_sets (v ∷ values) words at n h = drop_sets values (set words at v) (suc at) n (omega arith) ∙ drop-set-lt n words at v (omega arith)

-- words that were copied over a part of the buffer
pub put_sets : (values words : List ℕ) (at : ℕ) → at + length values ≤ length words
    → put_mid at (length values) words values ≡ sets words at values
put_sets values words at h =
    sym (append_assoc (take at words) values (post_of at (length values) words))
    ∙ ap (λ (rest : List ℕ). (take at words ++ values) ++ rest) (drop-drop (length values) at words)
    ∙ sym (sets-eq values words at h)

-- ---- a loop over lines: i of count lines are read, their numbers are the first done of the buffer's words, and what is left
-- of the lines leads to all of them

pub record Filling (course : ℕ → ℕ → List ℕ → List ℕ → Lines) (count first all : ℕ) (text : List ℕ) (from : ℕ) (words₀ words : List ℕ) (at i done : ℕ) : Type 0 where
  pub within : i ≤ count
  pub same : length words ≡ length words₀
  pub kept : drop all words ≡ drop all words₀
  pub leads : course (count - i) (first + i) (take done words) (drop at text) ≡ course count first [] (drop from text)

module _ {form : ℕ → List ℕ → Line} {course : ℕ → ℕ → List ℕ → List ℕ → Lines} (is : Course form course) (count first all : ℕ) (text : List ℕ) (from : ℕ) (words₀ : List ℕ) where
  pub filling_again : {words left : List ℕ} {at i done next more : ℕ} (values : List ℕ) → i < count → line values (drop next text) ≡ form (first + i) (drop at text)
      → left ≡ sets words done values → more ≡ done + length values → more ≤ all → all ≤ length words₀
      → Filling course count first all text from words₀ words at i done → Filling course count first all text from words₀ left next (i + 1) more
  filling_again {words} {left} {at} {i} {done} {next} {more} values h e put n room fits f = record {
    within = omega arith;
    same = ap length put ∙ length-sets words done values ∙ f.same;
    kept = ap (drop all) put ∙ drop_sets values words done all (omega (arith, n, room)) ∙ f.kept;
    leads =
        lines_again is count first i (take done words) (drop at text) values (drop next text) (take more left) h e
        (ap (take more) put ∙ take_sets words done more values n (omega (arith, room, fits, f.same)))
        ∙ f.leads;
  }

  pub filling_stop : {words : List ℕ} {at i done : ℕ} (fault : Fault) → i < count → faulty (fault_number fault) ≡ form (first + i) (drop at text)
      → Filling course count first all text from words₀ words at i done
      → LinesRead text all words₀ words (Err (record { fault = fault; line = first + i })) (course count first [] (drop from text))
  filling_stop {words} {at} {i} {done} fault h e f = record {
    said = lines_stop is count first i (take done words) (drop at text) (fault_number fault) h e ∙ f.leads;
    kept = f.kept;
    same = f.same;
  }

  pub filling_done : {words : List ℕ} {at i done : ℕ} → count ≤ i → all ≡ done → Filling course count first all text from words₀ words at i done
      → LinesRead text all words₀ words (Ok at) (course count first [] (drop from text))
  filling_done {words} {at} {i} {done} h e f = record {
    said =
        ap (λ (n : ℕ). lines (take n words) (drop at text)) e
        ∙ lines_done is count first i (take done words) (drop at text) h
        ∙ f.leads;
    kept = f.kept;
    same = f.same;
  }
