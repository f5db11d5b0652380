use Rattle.std.proofs.Common.{◌≡◌, ◌++◌, map, take, drop}
use Rattle.dt_procs.specs.inner.Rows.{row_after_end}
use Rattle.dt_procs.proofs.row.end.Given as goal

-- those so far are as the end makes them, and the others stand as they did
abbrev pub invariant-loop-row : goal.invariant-loop-row
invariant-loop-row l = l.rows ≡ map (row_after_end l.vpid l.end) (take l.row-index l.fn.rows) ++ drop l.row-index l.fn.rows
