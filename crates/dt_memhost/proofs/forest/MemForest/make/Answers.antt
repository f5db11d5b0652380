use Rattle.std.proofs.Common.{arith, sym, ap, subst, ◌∙◌}
use Rattle.std.specs.Prelude.{option_and_then}
use Rattle.dt_memhost.specs.inner.Node.{node_of, entries_of, held_of}
use Rattle.dt_memhost.specs.inner.Forest.{HasSizes}
use Rattle.dt_memhost.proofs.Forests.{ordered_of, other_numbers, one_made}
use Rattle.dt_memhost.proofs.Sizes.{HasSizes-made}
use Rattle.dt_memhost.proofs.forest.MemForest.make.Goals as goal

pub invariant_of-self-2 : goal.invariant_of-self-2
invariant_of-self-2 c =
    let old = c.self.inside.nodes in
    let new = c.insert.new.self in
    let root = c.self.inside.root in
    let n = c.args.number in
    let updates = c.in_ok-insert.ensures.updates in
    let made = c.new-node.ensures in
    subst HasSizes (sym (one_made old new root n (other_numbers old new n updates.2) c.args.kind (ap (option_and_then node_of) updates.1 ∙ made.node) (ap (option_and_then entries_of) updates.1 ∙ made.order) (ap (option_and_then held_of) updates.1 ∙ made.held))) (HasSizes-made (ordered_of old root) n c.self.invariant c.args.kind (omega (arith, c.ranges.number.fits)))

pub returns-clause-ok : goal.returns-clause-ok
returns-clause-ok c =
    let old = c.self.inside.nodes in
    let new = c.insert.new.self in
    let n = c.args.number in
    let updates = c.in_ok-insert.ensures.updates in
    let made = c.new-node.ensures in
    rw (← c.self.view_is) (one_made old new c.self.inside.root n (other_numbers old new n updates.2) c.args.kind (ap (option_and_then node_of) updates.1 ∙ made.node) (ap (option_and_then entries_of) updates.1 ∙ made.order) (ap (option_and_then held_of) updates.1 ∙ made.held))
