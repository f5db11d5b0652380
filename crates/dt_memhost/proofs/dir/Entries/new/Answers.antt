use Rattle.std.proofs.Common.{ap}
use Rattle.dt_memhost.specs.inner.Dir.{order_of}
use Rattle.dt_memhost.proofs.dir.Entries.new.Goals as goal

pub returns : goal.returns
returns c = ap order_of c.new.ensures.empty
