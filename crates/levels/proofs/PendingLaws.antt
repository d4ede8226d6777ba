-- The rows that are pending in a walk: what they come to, one after another, and how many parts they have.
use Rattle.std.proofs.Common.{◌≡◌, ℕ, ◌+◌, ◌≤◌, ◌<◌, min, Bool, List, [], ◌∷◌, ◌++◌, length, drop, Option, None, Some, refl, sym, ap, ap₂, ◌∙◌, append_assoc, arith, length-append, length-take}
use Rattle.std.proofs.lemmas.List.{append-nil}
use Rattle.rules.specs.declared.Kind.{Kind}
use Rattle.rules.specs.declared.Row.{Row}
use Rattle.rules.specs.Limits.{most_rows}
use Rattle.rules.specs.Rows.{row_at}
use Rattle.rules.specs.Trees.{Stmt, skip, assign, sequence, if, while, output, stmt_at}
use Rattle.rules.specs.Sound.{Sound}
use Rattle.rules.specs.LevelCheck.{Walked, walk}
use Rattle.rules.proofs.StatementLaws.{Below, is_sequence}
use Rattle.levels.specs.declared.walk.Found.{Found}
use Rattle.levels.specs.declared.pending.Pending.{Pending}
use Rattle.levels.specs.Found.{lower_of, lowest_in, found_of}
use Rattle.levels.specs.Pending.{rows_in}
use Rattle.levels.proofs.FoundLaws.{pair, lowest_append}

-- ---- lists by their last element

-- a list that has one
record Ended (xs : List ℕ) : Type 0 where
  front : List ℕ
  last : ℕ
  is : xs ≡ front ++ last ∷ []

ended : (x : ℕ) (xs : List ℕ) → Ended (x ∷ xs)
ended x [] = record { front = []; last = x; is = refl }
ended x (y ∷ ys) =
    let rest : Ended (y ∷ ys) = ended y ys in
    record { front = x ∷ rest.front; last = rest.last; is = ap (λ (l : List ℕ). x ∷ l) rest.is }

abbrev head_or : ℕ → List ℕ → ℕ
head_or d [] = d
head_or d (x ∷ xs) = x

abbrev tail_of : List ℕ → List ℕ
tail_of [] = []
tail_of (x ∷ xs) = xs

same_end : (xs ys : List ℕ) (x y : ℕ) → xs ++ x ∷ [] ≡ ys ++ y ∷ [] → (xs ≡ ys) × (x ≡ y)
same_end [] [] x y e = (refl, ap (head_or 0) e)
same_end [] (b ∷ []) x y e = absurd (omega (arith, ap length e))
same_end [] (b ∷ c ∷ ys) x y e = absurd (omega (arith, ap length e))
same_end (a ∷ []) [] x y e = absurd (omega (arith, ap length e))
same_end (a ∷ c ∷ xs) [] x y e = absurd (omega (arith, ap length e))
same_end (a ∷ xs) (b ∷ ys) x y e =
    let rest : (xs ≡ ys) × (x ≡ y) = same_end xs ys x y (ap tail_of e) in
    (ap₂ (λ (h : ℕ) (t : List ℕ). h ∷ t) (ap (head_or 0) e) rest.0, rest.1)

none_left : (xs : List ℕ) → length xs ≡ 0 → xs ≡ []
none_left [] e = refl
none_left (x ∷ xs) e = absurd (omega (arith, e))

some_left : (xs : List ℕ) → (length xs ≡ 0 → ⊥) → Ended xs
some_left [] some = absurd (some refl)
some_left (x ∷ xs) some = ended x xs

drop_base : (base rest : List ℕ) → drop (length base) (base ++ rest) ≡ rest
drop_base [] rest = refl
drop_base (x ∷ base) rest = drop_base base rest

-- ---- what the rows come to

lower_assoc : (a b c : Option ℕ) → lower_of a (lower_of b c) ≡ lower_of (lower_of a b) c
lower_assoc None b c = refl
lower_assoc (Some a) None c = refl
lower_assoc (Some a) (Some b) None = refl
lower_assoc (Some a) (Some b) (Some c) = let grouped : min a (min b c) ≡ min (min a b) c = omega arith in ap Some grouped

-- what was found, and what a further statement adds to it
abbrev further : Found → Walked → Found
further found w = pair w.marks (lower_of found.lowest (lowest_in w.failing))

abbrev pub taking : List Row → Bool → ℕ → Found → Found
taking rows context row found = further found (walk (stmt_at rows row) context found.marks)

module _ (rows : List Row) (context : Bool) where
  pub taking_part :
      (row : ℕ) (found part : Found) (lowest : Option ℕ) → part ≡ found_of (walk (stmt_at rows row) context found.marks)
      → lowest ≡ lower_of found.lowest part.lowest → pair part.marks lowest ≡ taking rows context row found
  taking_part row found part lowest walked both =
      ap₂ pair (ap (λ (f : Found). f.marks) walked) (both ∙ ap (λ (f : Found). lower_of found.lowest f.lowest) walked)

  taking_sequence :
      (row p q : ℕ) (found : Found) → stmt_at rows row ≡ sequence (stmt_at rows p) (stmt_at rows q)
      → taking rows context row found ≡ taking rows context q (taking rows context p found)
  taking_sequence row p q found e =
      let first : Walked = walk (stmt_at rows p) context found.marks in
      let second : Walked = walk (stmt_at rows q) context first.marks in
      ap (λ (s : Stmt). further found (walk s context found.marks)) e
      ∙ ap (pair second.marks)
      (ap (lower_of found.lowest) (lowest_append first.failing second.failing)
      ∙ lower_assoc found.lowest (lowest_in first.failing) (lowest_in second.failing))

  -- all that are pending, the last first
  abbrev taking_all : List ℕ → Found → Found
  taking_all [] found = found
  taking_all (x ∷ xs) found = taking rows context x (taking_all xs found)

  taking_last : (xs : List ℕ) (x : ℕ) (found : Found) → taking_all (xs ++ x ∷ []) found ≡ taking_all xs (taking rows context x found)
  taking_last [] x found = refl
  taking_last (y ∷ ys) x found = ap (taking rows context y) (taking_last ys x found)

-- ---- how high the rows may be

-- a row and its place together do not exceed where the walk began
abbrev Low : ℕ → ℕ → List ℕ → Type 0
Low row k [] = Unit {0}
Low row k (x ∷ xs) = (k + x ≤ row) × Low row (k + 1) xs

low_more : (row k : ℕ) (xs : List ℕ) (x : ℕ) → Low row k xs → k + length xs + x ≤ row → Low row k (xs ++ x ∷ [])
low_more row k [] x low h = (omega (arith, h), tt)
low_more row k (y ∷ ys) x low h = (low.0, low_more row (k + 1) ys x low.1 (omega (arith, h)))

low_less : (row k : ℕ) (xs : List ℕ) (x : ℕ) → Low row k (xs ++ x ∷ []) → Low row k xs × (k + length xs + x ≤ row)
low_less row k [] x low = (tt, omega (arith, low.0))
low_less row k (y ∷ ys) x low =
    let rest : Low row (k + 1) ys × (k + 1 + length ys + x ≤ row) = low_less row (k + 1) ys x low.1 in
    ((low.0, rest.0), omega (arith, rest.1))

-- ---- how many parts the rows have

parts : Stmt → ℕ
parts skip = 0
parts (assign v e) = 0
parts (sequence s t) = parts s + parts t + 2
parts (if e s t) = 0
parts (while e s) = 0
parts (output c e row) = 0

abbrev weight : List Row → ℕ → ℕ
weight rows row = parts (stmt_at rows row) + 1

abbrev weights : List Row → List ℕ → ℕ
weights rows [] = 0
weights rows (x ∷ xs) = weight rows x + weights rows xs

weights_last : (rows : List Row) (xs : List ℕ) (x : ℕ) → weights rows (xs ++ x ∷ []) ≡ weights rows xs + weight rows x
weights_last rows [] x = omega arith
weights_last rows (y ∷ ys) x = omega (arith, weights_last rows ys x)

-- the parts that are left: those of the row at hand, and of the rows that are pending above the base
pub left : List Row → List ℕ → List ℕ → ℕ → ℕ
left rows base pending at = weights rows (drop (length base) pending) + weight rows at

left_above : (rows : List Row) (base rest : List ℕ) (at : ℕ) → left rows base (base ++ rest) at ≡ weights rows rest + weight rows at
unfolding left
left_above rows base rest at = ap (λ (l : List ℕ). weights rows l + weight rows at) (drop_base base rest)

-- ---- a walk that is under way

pub record UnderWay (rows : List Row) (context : Bool) (row : ℕ) (base : List ℕ) (final : Found) (pending : List ℕ) (found : Found) (at : ℕ) : Type 0 where
  rest : List ℕ
  split : pending ≡ base ++ rest
  pub low : length pending + at ≤ length base + row
  lows : Low row 0 rest
  goes : taking_all rows context rest (taking rows context at found) ≡ final

pub way_start :
    (rows : List Row) (context : Bool) (row marks : ℕ) (pending : List ℕ)
    → UnderWay rows context row pending (found_of (walk (stmt_at rows row) context marks)) pending (pair marks None) row
way_start rows context row marks pending =
    record { rest = []; split = sym (append-nil pending); low = omega arith; lows = tt; goes = refl }

module _
    {rows : List Row} {context : Bool} {row : ℕ} {base : List ℕ} {final : Found} {pending : List ℕ} {found : Found} {at : ℕ}
    (room : length base + row < length rows) (way : UnderWay rows context row base final pending found at) where
  pub within_here : length pending + at < length rows
  within_here = omega (arith, way.low, room)

  long : length pending ≡ length base + length way.rest
  long = ap length way.split ∙ length-append base way.rest

  pub at_most : at ≤ row
  at_most = omega (arith, way.low, long)

  -- the row at hand is a sequence: its second part is pending, and its first is at hand
  module _ {here : Row} (sound : Sound rows) (read : here ≡ row_at rows at) (kind : here.kind ≡ Kind.Sequence) where
    both :
        (stmt_at rows at ≡ sequence (stmt_at rows here.p) (stmt_at rows here.q)) × Below rows at here.p × Below rows at here.q
    both = is_sequence rows sound at (omega (arith, within_here)) here read kind

    pub place : length pending < most_rows
    place = omega (arith, within_here, sound.few)

    pub second_small : here.q < most_rows
    second_small = omega (arith, both.2.lower, within_here, sound.few)

    pub way_apart : {pending' : List ℕ} → pending' ≡ pending ++ here.q ∷ [] → UnderWay rows context row base final pending' found here.p
    way_apart {pending'} e = record {
      rest = way.rest ++ here.q ∷ [];
      split = e ∙ ap (λ (l : List ℕ). l ++ here.q ∷ []) way.split ∙ append_assoc base way.rest (here.q ∷ []);
      low = omega (arith, way.low, both.1.lower, ap length e, length-append pending (here.q ∷ []));
      lows = low_more row 0 way.rest here.q way.lows (omega (arith, way.low, both.2.lower, long));
      goes =
          taking_last rows context way.rest here.q (taking rows context here.p found)
          ∙ ap (taking_all rows context way.rest) (sym (taking_sequence rows context at here.p here.q found both.0))
          ∙ way.goes;
    }

    pub apart_less : {pending' : List ℕ} → pending' ≡ pending ++ here.q ∷ [] → left rows base pending' here.p < left rows base pending at
    unfolding parts
    apart_less {pending'} e =
        omega (
          arith,
          ap (λ (l : List ℕ). left rows base l here.p) (e ∙ ap (λ (l : List ℕ). l ++ here.q ∷ []) way.split ∙ append_assoc base way.rest (here.q ∷ [])),
          left_above rows base (way.rest ++ here.q ∷ []) here.p,
          weights_last rows way.rest here.q,
          ap (λ (l : List ℕ). left rows base l at) way.split,
          left_above rows base way.rest at,
          ap parts both.0,
        )

  -- no other row is pending than that at hand
  module _ (last : length pending ≡ length base) where
    nothing : way.rest ≡ []
    nothing = none_left way.rest (omega (arith, last, long))

    pub kept_end : pending ≡ base
    kept_end = way.split ∙ ap (λ (l : List ℕ). base ++ l) nothing ∙ append-nil base

    pub way_end : {found' : Found} → found' ≡ taking rows context at found → found' ≡ final
    way_end taken = taken ∙ ap (λ (l : List ℕ). taking_all rows context l (taking rows context at found)) (sym nothing) ∙ way.goes

  -- another row is pending than that at hand
  module _ (more : length pending ≡ length base → ⊥) where
    pub some_pending : 0 < length pending
    some_pending = omega (arith, more, long)

    top : Ended way.rest
    top = some_left way.rest (λ e. more (omega (arith, long, e)))

    lower_rows : Low row 0 top.front × (0 + length top.front + top.last ≤ row)
    lower_rows = low_less row 0 top.front top.last (rw top.is at way.lows)

    module _ (pending' : List ℕ) (next : ℕ) (popped : pending ≡ pending' ++ next ∷ []) where
      parted : (pending' ≡ base ++ top.front) × (next ≡ top.last)
      parted =
          same_end pending' (base ++ top.front) next top.last
          (sym popped ∙ way.split ∙ ap (λ (l : List ℕ). base ++ l) top.is ∙ sym (append_assoc base top.front (top.last ∷ [])))

      pub way_on : {found' : Found} → found' ≡ taking rows context at found → UnderWay rows context row base final pending' found' next
      way_on {found'} taken = record {
        rest = top.front;
        split = parted.0;
        low = omega (arith, lower_rows.1, parted.1, ap length parted.0, length-append base top.front);
        lows = lower_rows.0;
        goes =
            ap₂ (λ (n : ℕ) (f : Found). taking_all rows context top.front (taking rows context n f)) parted.1 taken
            ∙ sym (taking_last rows context top.front top.last (taking rows context at found))
            ∙ ap (λ (l : List ℕ). taking_all rows context l (taking rows context at found)) (sym top.is)
            ∙ way.goes;
      }

      pub on_less : left rows base pending' next < left rows base pending at
      on_less =
          omega (
            arith,
            ap₂ (λ (l : List ℕ) (n : ℕ). left rows base l n) parted.0 parted.1,
            left_above rows base top.front top.last,
            ap (λ (l : List ℕ). left rows base l at) way.split,
            left_above rows base way.rest at,
            ap (weights rows) top.is,
            weights_last rows top.front top.last,
          )

-- ---- the rows that are pending in an array

-- so many there are
pub sized : (p : Pending) → length p.rows.now ≡ most_rows → length (rows_in p) ≡ min p.len most_rows
sized p long = length-take p.len p.rows.now ∙ ap (min p.len) long

-- what is pending in a walk, and where it began, in the same array
pub record Lent (p base : Pending) : Type 0 where
  pub long : length p.rows.now ≡ most_rows
  pub below : length base.rows.now ≡ most_rows
  pub same : p.rows.ghost_name ≡ base.rows.ghost_name

module _ {p base : Pending} (lent : Lent p base) where
  -- the rows that a walk may ask for, where what is pending is a list
  pub room_of : (rows : List Row) (row : ℕ) → base.len + row < length rows → length (rows_in base) + row < length rows
  room_of rows row room = omega (arith, sized base lent.below, room)

  -- there are as many as where the walk began, or more
  pub no_more : p.len ≡ base.len → length (rows_in p) ≡ length (rows_in base)
  no_more same = omega (arith, sized p lent.long, sized base lent.below, same)

  pub more_pending :
      base.len < most_rows → length (rows_in p) < most_rows → (p.len ≡ base.len → ⊥) → length (rows_in p) ≡ length (rows_in base) → ⊥
  more_pending few here more e = more (omega (arith, few, here, sized p lent.long, sized base lent.below, e))

-- what was popped after a part left what is pending as it was is the last that was pending
pub popped_is :
    {before after : List ℕ} → after ≡ before → (left : List ℕ) {x y : ℕ} → after ≡ left ++ x ∷ [] → y ≡ x → before ≡ left ++ y ∷ []
popped_is kept left popped same = sym kept ∙ popped ∙ ap (λ (n : ℕ). left ++ n ∷ []) (sym same)
