use Rattle.std.proofs.Common.{ap}
use Rattle.dt_host.specs.World.{World}
use Rattle.dt_procs.proofs.Standing.{stands-first}
use Rattle.dt_procs.proofs.pids.Pids.first.Goals as goal

pub returns-clause-stands : goal.returns-clause-stands
returns-clause-stands g c =
    stands-first _ _ (record { host_pid = c.in_ok-host_pid.host_pid; member = c.new.result }) 2 _ _ c.new-rows.ensures.items
    c.in_ok-push.ensures.items c.requires.no_pids (ap (λ (w : World). w.pids) c.in_ok-host_pid.ensures.legal.made)
