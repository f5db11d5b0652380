use Rattle.std.proofs.Common.{arith, refl, sym, subst}
use Rattle.dt_memhost.specs.inner.Forest.{HasSizes}
use Rattle.dt_memhost.proofs.Forests.{other_numbers, first_made}
use Rattle.dt_memhost.proofs.Sizes.{HasSizes-empty}
use Rattle.dt_memhost.proofs.forest.MemForest.new.Goals as goal

pub invariant_of-result : goal.invariant_of-result
invariant_of-result c =
    let old = c.new-nodes.result in
    let new = c.insert.new.self in
    let updates = c.in_ok-insert.ensures.updates in
    subst HasSizes (sym (first_made old new 1 1 (other_numbers old new 1 updates.2) c.new.result c.new-nodes.ensures.empty c.new.ensures refl updates.1)) (HasSizes-empty 1 (omega arith))

pub returns : goal.returns
returns c =
    let old = c.new-nodes.result in
    let new = c.insert.new.self in
    let updates = c.in_ok-insert.ensures.updates in
    first_made old new 1 1 (other_numbers old new 1 updates.2) c.new.result c.new-nodes.ensures.empty c.new.ensures refl updates.1
