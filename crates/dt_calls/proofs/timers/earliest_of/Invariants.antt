use Rattle.std.proofs.Common.{◌≡◌, drop, None}
use Rattle.dt_procs.specs.Members.{vpids_of}
use Rattle.dt_procs.specs.Table.{members_of}
use Rattle.dt_calls.specs.Timers.{earliest_after}
use Rattle.dt_calls.proofs.timers.earliest_of.Given as goal

-- what is left is to look at the others
abbrev pub invariant-loop-index : goal.invariant-loop-index
invariant-loop-index l =
    let vpids = vpids_of (members_of l.pids) in earliest_after None vpids l.tasks ≡ earliest_after l.earliest (drop l.index vpids) l.tasks
