use Rattle.std.proofs.Common.{sym, subst}
use Rattle.dt_host.specs.World.{ArePids}
use Rattle.dt_memhost.specs.inner.Live.{pids_of}
use Rattle.dt_memhost.proofs.Live.{pids_of-with, ArePids-insert}
use Rattle.dt_memhost.proofs.pids.MemPids.add.Goals as goal

pub returns-clause-ok : goal.returns-clause-ok
returns-clause-ok c =
    rw (← c.self.view_is) (pids_of-with c.self.inside.live c.insert.new.self c.args.pid _ c.in_ok-insert.ensures.updates.0)

pub invariant_of-self-2 : goal.invariant_of-self-2
invariant_of-self-2 c =
    let old = c.self.inside.live in
    subst ArePids (sym (pids_of-with old c.insert.new.self c.args.pid _ c.in_ok-insert.ensures.updates.0))
    (ArePids-insert (pids_of old.entries) c.args.pid c.ranges.pid.fits c.self.invariant)
