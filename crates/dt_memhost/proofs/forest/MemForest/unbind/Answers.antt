use Rattle.std.proofs.Common.{sym, subst}
use Rattle.dt_host.specs.World.{IsDir}
use Rattle.dt_memhost.specs.inner.Forest.{OrderedForest, HasSizes}
use Rattle.dt_memhost.proofs.Forests.{ordered_of, entry_taken}
use Rattle.dt_memhost.proofs.Sizes.{HasSizes-unbound}
use Rattle.dt_memhost.proofs.forest.MemForest.unbind.Goals as goal

pub invariant_of-self : goal.invariant_of-self
invariant_of-self c =
    let old = c.self.inside.nodes in
    let root = c.self.inside.root in
    let d = c.args.dir in
    let unbind = c.unbind.ensures in
    let is = subst (λ (o : OrderedForest). IsDir o.forest d) (sym c.self.view_is) c.requires in
    subst HasSizes (sym (entry_taken old c.unbind.new.nodes root d unbind.others c.args.name.now is unbind.names unbind.order unbind.held)) (HasSizes-unbound (ordered_of old root) d c.self.invariant c.args.name.now is)

pub returns : goal.returns
returns c =
    let d = c.args.dir in
    let unbind = c.unbind.ensures in
    let is = subst (λ (o : OrderedForest). IsDir o.forest d) (sym c.self.view_is) c.requires in
    rw (← c.self.view_is) (entry_taken c.self.inside.nodes c.unbind.new.nodes c.self.inside.root d unbind.others c.args.name.now is unbind.names unbind.order unbind.held)
