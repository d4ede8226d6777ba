-- The proof of the cycle of calls {walk_on, walk_loop, walk_part}: the row number falls from an if or while to what it nests; the
-- parts of a statement's sequences are walked in a loop; a loop's rounds left are the rules' rounds left.
use borrow.Enum.Refused.{opened}
use native.Mathlib.Omega.{arith}
use native.Mathlib.Nat.{mod-eq_of_lt}
use mathlib.Core.Bool.{Bool}
use mathlib.Core.List.{List}
use mathlib.Core.Path.{◌≡◌, refl, sym, ap, ◌∙◌}
use lib.ListN.{length, take}
use Rattle.rules.specs.declared.Kind.{Kind}
use Rattle.rules.specs.declared.Row.{Row}
use Rattle.rules.specs.Limits.{width}
use Rattle.rules.specs.Marks.{put}
use Rattle.rules.specs.Rows.{row_at}
use Rattle.rules.specs.Trees.{Stmt, expr_at, stmt_at, stmt_node}
use Rattle.rules.specs.LevelRules.{under}
use Rattle.rules.specs.LevelCheck.{Walked, rounds}
use Rattle.rules.specs.LevelCheck as rule
use Rattle.rules.specs.Sound.{SoundRow, Sound}
use Rattle.rules.proofs.RowLaws.{kind_arm}
use Rattle.rules.proofs.TreeLaws.{sound_as, stmt_of_row, stmt_arms, assign_words, if_words, while_words, output_words}
use Rattle.levels.specs.declared.walk.Found.{Found}
use Rattle.levels.specs.Found.{found_of}
use Rattle.levels.specs.Pending.{rows_in}
use Rattle.levels.proofs.FoundLaws.{skip_left, found_assign, found_if, found_output, rests_here, goes_on, over_here}
use Rattle.levels.proofs.PendingLaws.{taking_part, way_start, at_most, place, within_here, second_small, way_apart, apart_less, kept_end, way_end, some_pending, way_on, on_less, sized, room_of, no_more, more_pending, popped_is}
use Prim.Native.Nat.{ℕ, ◌+◌, ◌-◌, ◌<◌}
use Rattle.levels.proofs.walk.+walks.Goals as goal

-- ---- a statement's row that was read: what it is walked as, and its words, where its kind is known

of_row :
    {rows : List Row} {row : ℕ} {here : Row} {s : Stmt} {r : Found} (context : Bool) (marks : ℕ)
    → Sound rows → row < length rows → here ≡ row_at rows row → stmt_node (expr_at rows) (stmt_at rows) row here here.kind ≡ s
    → r ≡ found_of (rule.walk s context marks) → r ≡ found_of (rule.walk (stmt_at rows row) context marks)
of_row context marks sound within read e known =
    known
    ∙ ap (λ (s : Stmt). found_of (rule.walk s context marks)) (sym e ∙ stmt_of_row sound within read)

words_as :
    {rows : List Row} (n : ℕ) {row : ℕ} {here : Row} {kind : Kind} → Sound rows → n + row < length rows → here ≡ row_at rows row
    → here.kind ≡ kind → SoundRow rows row kind here
words_as n sound within read = sound_as sound (omega (arith, within)) read

pub walk_on-loop-pending-init : goal.walk_on-loop-pending-init
walk_on-loop-pending-init t c =
    let a = c.args in
    (way_start a.table.now a.context a.row a.marks _, record { long = c.told-rows; below = c.told-rows; same = refl })

pub walk_on-row-here-requires : goal.walk_on-row-here-requires
walk_on-row-here-requires t c = let i = c.loop-pending.invariant in omega (arith, within_here (room_of i.1 _ _ c.requires) i.0)

pub walk_on-overflow_cast-here : goal.walk_on-overflow_cast-here
walk_on-overflow_cast-here t c =
    let i = c.loop-pending.invariant in
    record { fits = omega (arith, second_small (room_of i.1 _ _ c.requires) i.0 c.row-here.ensures.sound c.row-here.ensures.read c.in-Sequence.is) }

pub walk_on-push-requires : goal.walk_on-push-requires
walk_on-push-requires t c =
    let i = c.loop-pending.invariant in (
      i.1.long,
      omega (
        arith,
        sized c.loop-pending.pending i.1.long,
        place (room_of i.1 _ _ c.requires) i.0 c.row-here.ensures.sound c.row-here.ensures.read c.in-Sequence.is,
      ),
    )

pub walk_on-loop-pending-smaller-in-Sequence : goal.walk_on-loop-pending-smaller-in-Sequence
walk_on-loop-pending-smaller-in-Sequence t c =
    let i = c.loop-pending.invariant in
    apart_less (room_of i.1 _ _ c.requires) i.0 c.row-here.ensures.sound c.row-here.ensures.read c.in-Sequence.is c.push.ensures.rows

pub walk_on-loop-pending-preserved-in-Sequence : goal.walk_on-loop-pending-preserved-in-Sequence
walk_on-loop-pending-preserved-in-Sequence t c =
    let i = c.loop-pending.invariant in (
      way_apart (room_of i.1 _ _ c.requires) i.0 c.row-here.ensures.sound c.row-here.ensures.read c.in-Sequence.is c.push.ensures.rows,
      record { long = c.push.ensures.long; below = i.1.below; same = c.push.ensures.same ∙ i.1.same },
    )

pub walk_on-walk_part-part-requires : goal.walk_on-walk_part-part-requires
walk_on-walk_part-part-requires t c =
    let i = c.loop-pending.invariant in
    let room = room_of i.1 _ _ c.requires in
    let here = within_here room i.0 in (
      omega (arith, c.decreases, at_most room i.0),
      (
        c.row-here.ensures.sound,
        (omega (arith, sized c.loop-pending.pending i.1.long, here, c.row-here.ensures.sound.few), (c.row-here.ensures.read, c.in_default.not-Sequence)),
      ),
    )

pub walk_on-returns-then-n-len : goal.walk_on-returns-then-n-len
walk_on-returns-then-n-len t c =
    let i = c.loop-pending.invariant in
    let room = room_of i.1 _ _ c.requires in
    let last = no_more i.1 c.if-n-len.true in
    record {
      found = way_end room i.0 last (taking_part _ _ _ _ _ _ c.walk_part-part.ensures.found c.lower.ensures);
      kept =
          rw (c.rows-1.given.1 (sym i.1.same))
          (ap (λ (n : ℕ). take n c.walk_part-part.new.rows) (sym c.if-n-len.true) ∙ c.walk_part-part.ensures.kept ∙ kept_end room i.0 last);
      long = rw (c.rows-1.given.1 (sym i.1.same)) c.walk_part-part.ensures.long;
    }

pub walk_on-pop-requires : goal.walk_on-pop-requires
walk_on-pop-requires t c =
    let i = c.loop-pending.invariant in
    let room = room_of i.1 _ _ c.requires in
    let few = c.row-here.ensures.sound.few in
    let here = within_here room i.0 in
    let more = more_pending i.1 (omega (arith, few, c.requires)) (omega (arith, few, here)) c.if-n-len.false in
    let size = sized c.loop-pending.pending i.1.long in
    (c.walk_part-part.ensures.long, omega (arith, size, some_pending room i.0 more), omega (arith, size, here, few))

pub walk_on-loop-pending-smaller : goal.walk_on-loop-pending-smaller
walk_on-loop-pending-smaller t c =
    let i = c.loop-pending.invariant in
    let room = room_of i.1 _ _ c.requires in
    let few = c.row-here.ensures.sound.few in
    on_less room i.0 (more_pending i.1 (omega (arith, few, c.requires)) (omega (arith, few, within_here room i.0)) c.if-n-len.false)
    (rows_in c.pop.new.self) c.from-at.result (popped_is c.walk_part-part.ensures.kept (rows_in c.pop.new.self) c.pop.ensures.rows c.from-at.ensures)

pub walk_on-loop-pending-preserved : goal.walk_on-loop-pending-preserved
walk_on-loop-pending-preserved t c =
    let i = c.loop-pending.invariant in
    let room = room_of i.1 _ _ c.requires in
    let few = c.row-here.ensures.sound.few in (
      way_on room i.0 (more_pending i.1 (omega (arith, few, c.requires)) (omega (arith, few, within_here room i.0)) c.if-n-len.false)
          (rows_in c.pop.new.self) c.from-at.result (popped_is c.walk_part-part.ensures.kept (rows_in c.pop.new.self) c.pop.ensures.rows c.from-at.ensures)
          (taking_part _ _ _ _ _ _ c.walk_part-part.ensures.found c.lower.ensures),
      record { long = c.pop.ensures.long; below = i.1.below; same = c.pop.ensures.same ∙ i.1.same },
    )

pub walk_loop-loop-init : goal.walk_loop-loop-init
walk_loop-loop-init t c = (refl, refl, c.told-rows)

pub walk_loop-walk_on-turn-requires : goal.walk_loop-walk_on-turn-requires
walk_loop-walk_on-turn-requires t c = (omega (arith, c.decreases), c.requires.body)

pub walk_loop-returns-then-grown-set : goal.walk_loop-returns-then-grown-set
walk_loop-returns-then-grown-set t c =
    let a = c.args in
    let turned :
    c.walk_on-turn.result
    ≡ found_of (rule.walk (stmt_at a.table.now a.body) (under (expr_at a.table.now a.test) a.context c.loop.set) c.loop.set) =
    c.walk_on-turn.ensures.found
    ∙ ap (λ (b : Bool). found_of (rule.walk (stmt_at a.table.now a.body) b c.loop.set)) c.is_guarded-inside.ensures in
    record {
      found = rests_here _ _ _ _ c.loop.invariant.0 _ _ (λ e. omega (arith, c.loop-test.true, e)) turned c.joined-grown.ensures c.if-grown-set.true;
      kept = c.walk_on-turn.ensures.kept ∙ c.loop.invariant.1;
      long = c.walk_on-turn.ensures.long;
    }

pub walk_loop-loop-preserved : goal.walk_loop-loop-preserved
walk_loop-loop-preserved t c =
    let a = c.args in
    let turned :
    c.walk_on-turn.result
    ≡ found_of (rule.walk (stmt_at a.table.now a.body) (under (expr_at a.table.now a.test) a.context c.loop.set) c.loop.set) =
    c.walk_on-turn.ensures.found
    ∙ ap (λ (b : Bool). found_of (rule.walk (stmt_at a.table.now a.body) b c.loop.set)) c.is_guarded-inside.ensures in
    let one_less : width + 1 - (c.loop.counter + 1) ≡ width + 1 - c.loop.counter - 1 = omega arith in (
      rw one_less (goes_on _ _ _ _ c.loop.invariant.0 _ _ (λ e. omega (arith, c.loop-test.true, e)) turned c.joined-grown.ensures c.if-grown-set.false),
      c.walk_on-turn.ensures.kept ∙ c.loop.invariant.1,
      c.walk_on-turn.ensures.long,
    )

pub walk_loop-returns : goal.walk_loop-returns
walk_loop-returns t c =
    record { found = over_here _ _ _ _ c.loop.invariant.0 (omega (arith, c.loop-test.false)); kept = c.loop.invariant.1; long = c.loop.invariant.2 }

pub walk_part-is_guarded-bit-requires : goal.walk_part-is_guarded-bit-requires
walk_part-is_guarded-bit-requires t c = let r = c.requires in
    omega (arith, r.row, (assign_words (words_as _ r.sound r.row r.here c.in-Assign.is)).1)

pub walk_part-is_guarded-inside-requires : goal.walk_part-is_guarded-inside-requires
walk_part-is_guarded-inside-requires t c = let r = c.requires in
    omega (arith, r.row, (if_words (words_as _ r.sound r.row r.here c.in-If.is)).0)

pub walk_part-walk_on-then-requires : goal.walk_part-walk_on-then-requires
walk_part-walk_on-then-requires t c = let r = c.requires in
    let w = (if_words (words_as _ r.sound r.row r.here c.in-If.is)).1 in (omega (arith, w, c.decreases), omega (arith, w, r.row))

pub walk_part-walk_on-other-requires : goal.walk_part-walk_on-other-requires
walk_part-walk_on-other-requires t c = let r = c.requires in
    let w = (if_words (words_as _ r.sound r.row r.here c.in-If.is)).2 in (omega (arith, w, c.decreases), omega (arith, w, r.row))

pub walk_part-walk_loop-requires : goal.walk_part-walk_loop-requires
walk_part-walk_loop-requires t c = let r = c.requires in
    let w = while_words (words_as _ r.sound r.row r.here c.in-While.is) in
    (omega (arith, w.1, c.decreases), (omega (arith, w.0, r.row), omega (arith, w.1, r.row)))

pub walk_part-overflow_cast-row : goal.walk_part-overflow_cast-row
walk_part-overflow_cast-row t c = let r = c.requires in record { fits = omega (arith, r.row, r.sound.few) }

pub walk_part-failing_at-requires : goal.walk_part-failing_at-requires
walk_part-failing_at-requires t c = let r = c.requires in
    omega (arith, r.row, (output_words (words_as _ r.sound r.row r.here c.in-Output.is)).1)

pub walk_part-returns-in-Assign-clause-found : goal.walk_part-returns-in-Assign-clause-found
walk_part-returns-in-Assign-clause-found t c =
    let a = c.args in
    let r = c.requires in
    of_row a.context a.marks r.sound (omega (arith, r.row)) r.here (kind_arm (stmt_arms _ _ _ _).0 _ c.in-Assign.in-Assign-own.keys1)
    (found_assign a.context a.marks _ _
    (c.mark_as.ensures
    ∙ ap (λ (v : ℕ). put v c.is_guarded-bit.result a.marks) (mod-eq_of_lt (assign_words (words_as _ r.sound r.row r.here c.in-Assign.is)).0)
    ∙ ap (λ (b : Bool). put a.here.p b a.marks) c.is_guarded-bit.ensures))

pub walk_part-returns-in-If-clause-found : goal.walk_part-returns-in-If-clause-found
walk_part-returns-in-If-clause-found t c =
    let a = c.args in
    let r = c.requires in
    of_row a.context a.marks r.sound (omega (arith, r.row)) r.here (kind_arm (stmt_arms _ _ _ _).2 _ c.in-If.in-If-own.keys2)
    (found_if a.context a.marks (expr_at a.table.now a.here.p) (stmt_at a.table.now a.here.q)
    (stmt_at a.table.now a.here.r) c.is_guarded-inside.ensures c.walk_on-then.ensures.found c.walk_on-other.ensures.found
    c.joined.ensures c.lower.ensures)

pub walk_part-returns-in-While-clause-found : goal.walk_part-returns-in-While-clause-found
walk_part-returns-in-While-clause-found t c =
    let a = c.args in
    let r = c.requires in
    of_row a.context a.marks r.sound (omega (arith, r.row)) r.here (kind_arm (stmt_arms _ _ _ _).3 _ c.in-While.in-While-own.keys3) c.walk_loop.ensures.found

pub walk_part-returns-in-Output-clause-found : goal.walk_part-returns-in-Output-clause-found
walk_part-returns-in-Output-clause-found t c =
    let a = c.args in
    let r = c.requires in
    of_row a.context a.marks r.sound (omega (arith, r.row)) r.here (kind_arm (stmt_arms _ _ _ _).4 _ c.in-Output.in-Output-own.keys4)
    (found_output a.context a.marks a.here.p (expr_at a.table.now a.here.q) a.row c.failing_at.ensures)

pub walk_part-returns-in_default : goal.walk_part-returns-in_default
walk_part-returns-in_default t c =
    let a = c.args in
    let r = c.requires in
    record {
      found = of_row a.context a.marks r.sound (omega (arith, r.row)) r.here (kind_arm (stmt_arms _ _ _ _).5 _ (skip_left _ (opened c.in_default.in_default-own.keys5) r.part)) refl;
      kept = refl;
      long = c.told-rows;
    }
