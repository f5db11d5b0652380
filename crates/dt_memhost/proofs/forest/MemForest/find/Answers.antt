use Rattle.std.proofs.Common.{sym, ◌∙◌}
use Rattle.dt_memhost.proofs.Forests.{entry-forest_of}
use Rattle.dt_memhost.proofs.forest.MemForest.find.Goals as goal

pub returns : goal.returns
returns c = rw (← c.self.view_is) (c.find.ensures ∙ sym (entry-forest_of c.self.inside.nodes c.self.inside.root c.args.dir c.args.name.now))
