use Rattle.std.proofs.Common.{sym, subst}
use Rattle.dt_host.specs.World.{ArePids}
use Rattle.dt_memhost.specs.inner.Live.{pids_of}
use Rattle.dt_memhost.proofs.Live.{pids_of-without, ArePids-remove}
use Rattle.dt_memhost.proofs.pids.MemPids.remove.Goals as goal

pub returns : goal.returns
returns c = rw (← c.self.view_is) (pids_of-without c.self.inside.live c.remove.new.self c.args.pid c.remove.ensures.updates.0)

pub invariant_of-self : goal.invariant_of-self
invariant_of-self c =
    let old = c.self.inside.live in
    subst ArePids (sym (pids_of-without old c.remove.new.self c.args.pid c.remove.ensures.updates.0))
    (ArePids-remove (pids_of old.entries) c.args.pid c.self.invariant)
