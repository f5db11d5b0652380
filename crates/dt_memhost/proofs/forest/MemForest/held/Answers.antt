use Rattle.std.proofs.Common.{[], length, sym, ap, ◌∙◌}
use Rattle.std.specs.Prelude.{unwrap_or}
use Rattle.dt_memhost.proofs.Forests.{get-pipes_of}
use Rattle.dt_memhost.proofs.forest.MemForest.held.Goals as goal

pub returns : goal.returns
returns c =
    rw (← c.self.view_is) (c.held.ensures ∙ ap (λ found. length (unwrap_or found [])) (sym (get-pipes_of c.self.inside.nodes c.args.number)))
