-- What a judge knows that goes through the rows once: the children of one row, and a row's depth from those of its
-- children. No rule is decided here: private contracts speak in these words, and laws join them with the rules.
use Rattle.std.specs.Prelude.{ℕ, ◌+◌, max, Bool, ◌||◌, List, ◌++◌, ltb}
use Rattle.rules.specs.declared.Depth.{Depth}
use Rattle.rules.specs.declared.Kind.{Kind}
use Rattle.rules.specs.declared.Row.{Row}
use Rattle.rules.specs.Limits.{most_height, most_nesting, most_loop_nesting}
use Rattle.rules.specs.Rows.{roles_of}
use Rattle.rules.specs.Trees.{expr_at, stmt_at, height, nesting, loop_nesting}
use Rattle.rules.specs.Judging.{child_of}
use Rattle.rules.specs.Sound.{WithinLimits}

-- the rows that a row names as its children
unfoldable pub children_of : Row → List ℕ
children_of row =
    child_of (roles_of row.kind).p row.p ++ child_of (roles_of row.kind).q row.q ++ child_of (roles_of row.kind).r row.r

-- how deep the tree of row i is
unfoldable pub depth_at : List Row → ℕ → Depth
depth_at rows i =
    record { height = height (expr_at rows i); nesting = nesting (stmt_at rows i); loops = loop_nesting (stmt_at rows i) }

-- a row's depth from those of the rows that its words p, q and r name
unfoldable pub depth_by : Kind → Depth → Depth → Depth → Depth
depth_by Kind.Skip p q r = record { height = 1; nesting = 0; loops = 0 }
depth_by Kind.Assign p q r = record { height = 1; nesting = 0; loops = 0 }
depth_by Kind.Sequence p q r =
    record { height = 1; nesting = max p.nesting q.nesting; loops = max p.loops q.loops }
depth_by Kind.If p q r =
    record { height = 1; nesting = max q.nesting r.nesting + 1; loops = max q.loops r.loops }
depth_by Kind.While p q r = record { height = 1; nesting = q.nesting + 1; loops = q.loops + 1 }
depth_by Kind.Output p q r = record { height = 1; nesting = 0; loops = 0 }
depth_by Kind.Constant p q r = record { height = 1; nesting = 0; loops = 0 }
depth_by Kind.Variable p q r = record { height = 1; nesting = 0; loops = 0 }
depth_by Kind.Binary p q r = record { height = max q.height r.height + 1; nesting = 0; loops = 0 }
depth_by Kind.Unknown p q r = record { height = 1; nesting = 0; loops = 0 }

-- a depth over one of the three limits
unfoldable pub over_limits : Depth → Bool
over_limits d = ltb most_height d.height || ltb most_nesting d.nesting || ltb most_loop_nesting d.loops

-- a depth over none of them
abbrev pub Within : Depth → Type 0
Within d = WithinLimits d.height d.nesting d.loops
