use Rattle.dt_memhost.proofs.Live.{ArePids-none}
use Rattle.dt_memhost.proofs.pids.MemPids.new.Goals as goal

pub invariant_of-result : goal.invariant_of-result
invariant_of-result c = ArePids-none c.new.result.entries c.new.ensures.empty
