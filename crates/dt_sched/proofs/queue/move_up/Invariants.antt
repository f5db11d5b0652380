use Rattle.std.proofs.Common.{◌≡◌, ◌++◌, take, drop}
use Rattle.dt_sched.specs.inner.Queue.{indices_without_head}
use Rattle.dt_sched.proofs.queue.move_up.Given as goal

-- those so far have moved up, and the others stand as they did
abbrev pub invariant-loop-index : goal.invariant-loop-index
invariant-loop-index l = l.indices ≡ indices_without_head (take l.index-index l.fn.indices) ++ drop l.index-index l.fn.indices
