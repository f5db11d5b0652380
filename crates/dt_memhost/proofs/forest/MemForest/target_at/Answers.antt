use Rattle.std.proofs.Common.{sym, ◌∙◌}
use Rattle.dt_memhost.proofs.Forests.{target_at-forest_of}
use Rattle.dt_memhost.proofs.forest.MemForest.target_at.Goals as goal

pub returns : goal.returns
returns c = rw (← c.self.view_is) (c.target_at.ensures ∙ sym (target_at-forest_of c.self.inside.nodes c.self.inside.root c.args.number))
