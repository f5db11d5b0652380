use Rattle.std.proofs.Common.{[], length, ap}
use Rattle.std.specs.Prelude.{unwrap_or}
use Rattle.dt_host.specs.World.{content}
use Rattle.dt_memhost.proofs.forest.MemForest.size.Goals as goal

pub returns-in-None : goal.returns-in-None
unfolding content
returns-in-None c = ap (λ found. length (unwrap_or found [])) c.in-None.ensures.file
