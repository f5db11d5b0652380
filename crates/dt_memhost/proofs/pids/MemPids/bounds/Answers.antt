use Rattle.dt_memhost.proofs.pids.MemPids.bounds.Goals as goal

pub returns : goal.returns
returns c = rw (← c.self.view_is) c.self.invariant
