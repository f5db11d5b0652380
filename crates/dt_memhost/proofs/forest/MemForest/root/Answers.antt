use Rattle.dt_memhost.proofs.Forests.{apart}
use Rattle.dt_memhost.proofs.forest.MemForest.root.Goals as goal

pub returns-clause-apart : goal.returns-clause-apart
returns-clause-apart c = rw (← c.self.view_is) (apart c.self.inside.nodes c.self.inside.root)
