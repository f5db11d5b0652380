use Rattle.std.proofs.Common.{ap}
use Rattle.dt_host.specs.World.{World}
use Rattle.dt_procs.proofs.Standing.{stands-added}
use Rattle.dt_procs.proofs.pids.Pids.add.Goals as goal

pub returns-clause-stands : goal.returns-clause-stands
returns-clause-stands g c =
    stands-added c.args.self.now c.self.inside.rows.items _ (record { host_pid = c.in_ok-host_pid.host_pid; member = c.new.result })
    c.self.inside.next _ _ _ c.self.view_is c.in_ok-push.ensures.items c.requires.stands
    c.in_ok-host_pid.ensures.legal.free (ap (λ (w : World). w.pids) c.in_ok-host_pid.ensures.legal.made)
