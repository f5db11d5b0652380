use Rattle.std.proofs.Common.{◌≡◌, drop}
use Rattle.dt_procs.specs.Members.{vpids_of}
use Rattle.dt_procs.specs.Table.{members_of}
use Rattle.dt_calls.specs.Timers.{tasks_after_timers}
use Rattle.dt_calls.proofs.timers.fire_each.Given as goal

-- what is left is to let those of the others fire
abbrev pub invariant-loop-index : goal.invariant-loop-index
invariant-loop-index l =
    let vpids = vpids_of (members_of l.pids) in tasks_after_timers l.ticks vpids l.fn.tasks ≡ tasks_after_timers l.ticks (drop l.index vpids) l.tasks
