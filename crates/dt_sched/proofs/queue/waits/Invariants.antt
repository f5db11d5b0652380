use Rattle.std.proofs.Common.{◌≡◌, drop}
use Rattle.dt_sched.specs.Core.{is_vpid_waiting}
use Rattle.dt_sched.proofs.queue.waits.Given as goal

-- none so far is the one that is looked for and waits
abbrev pub invariant-loop-process : goal.invariant-loop-process
invariant-loop-process l = is_vpid_waiting l.vpid l.processes ≡ is_vpid_waiting l.vpid (drop l.process-index l.processes)
