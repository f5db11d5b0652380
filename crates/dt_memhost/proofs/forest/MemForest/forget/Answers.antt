use Rattle.std.proofs.Common.{sym, subst}
use Rattle.dt_memhost.specs.inner.Forest.{HasSizes}
use Rattle.dt_memhost.proofs.Forests.{ordered_of, other_numbers, one_gone, apart}
use Rattle.dt_memhost.proofs.Sizes.{HasSizes-forgotten}
use Rattle.dt_memhost.proofs.forest.MemForest.forget.Goals as goal

pub invariant_of-self : goal.invariant_of-self
invariant_of-self c =
    let old = c.self.inside.nodes in
    let new = c.remove.new.self in
    let root = c.self.inside.root in
    let n = c.args.number in
    let updates = c.remove.ensures.updates in
    subst HasSizes (sym (one_gone old new root n (other_numbers old new n updates.2) updates.1)) (HasSizes-forgotten (ordered_of old root) n c.self.invariant)

pub returns-clause-gone : goal.returns-clause-gone
returns-clause-gone c =
    let old = c.self.inside.nodes in
    let new = c.remove.new.self in
    let updates = c.remove.ensures.updates in
    rw (← c.self.view_is) (one_gone old new c.self.inside.root c.args.number (other_numbers old new c.args.number updates.2) updates.1)

pub returns-clause-apart : goal.returns-clause-apart
returns-clause-apart c = rw (← c.self.view_is) (apart c.self.inside.nodes c.self.inside.root c.args.number)
