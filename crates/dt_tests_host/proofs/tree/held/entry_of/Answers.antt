use Rattle.std.proofs.Common.{◌≡◌, sym, subst, ◌∙◌}
use Rattle.dt_host.specs.World.{World, IsDir, IsLive, entry}
use Rattle.dt_tree.specs.Table.{shape_of}
use Rattle.dt_tree.proofs.NodeKinds.{live}
use Rattle.dt_tests_host.proofs.Numbers.{held_dir, held_entry}
use Rattle.dt_tests_host.proofs.tree.held.entry_of.Goals as goal

pub find-requires-2 : goal.find-requires-2
find-requires-2 c =
    let v = c.args.host.now.view.forest in
    let is = held_dir c.args.tree.now v c.requires.stands.mirrors.pairs c.args.dir c.args.real c.requires.number c.requires.directory in
    subst (λ (w : World). IsDir w.forest c.args.real) (sym c.in_ok-inode.ensures.asks.stays) is

pub returns-in-Some-2-clause-live : goal.returns-in-Some-2-clause-live
returns-in-Some-2-clause-live c =
    let t = c.args.tree.now in
    let v = c.args.host.now.view.forest in
    let is = live t v c.requires.stands c.args.dir c.in-Some.inode c.args.name.now (sym c.in_ok-inode.ensures.ok ∙ c.in-Some.is) in
    subst (λ (w : World). IsLive (shape_of t w.forest) c.in-Some.inode) (sym (c.in_ok-real.ensures.stays ∙ c.in_ok-inode.ensures.asks.stays)) is

pub returns-in-Some-2-clause-number : goal.returns-in-Some-2-clause-number
returns-in-Some-2-clause-number c =
    let t = c.args.tree.now in
    let v = c.args.host.now.view.forest in
    let found = subst (λ (w : World). c.in_ok-real.field-0 ≡ entry w.forest c.args.real c.args.name.now) c.in_ok-inode.ensures.asks.stays c.in_ok-real.ensures.ok in
    held_entry t v c.requires.stands.mirrors.pairs c.args.dir c.args.real c.requires.number c.args.name.now c.in-Some.inode c.in-Some-2.real
    (sym c.in_ok-inode.ensures.ok ∙ c.in-Some.is) (sym found ∙ c.in-Some-2.is)
