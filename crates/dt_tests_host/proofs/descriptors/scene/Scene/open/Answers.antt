use Rattle.std.proofs.Common.{ap, sym, subst, ◌∙◌}
use Rattle.std.specs.Option.{is_some}
use Rattle.dt_host.specs.World.{World, IsFile}
use Rattle.dt_tree.specs.Table.{shape_of}
use Rattle.dt_tree.proofs.NodeKinds.{live, is_file}
use Rattle.dt_tests_host.proofs.descriptors.scene.Scene.open.Goals as goal

pub add-requires-else-is_some-clause-there : goal.add-requires-else-is_some-clause-there
add-requires-else-is_some-clause-there c =
    let t = c.args.self.now.tree in
    let v = c.args.self.now.host.view.forest in
    let n = c.in-Some.inode in
    let there = live t v c.requires.stands 1 n c.args.name.now (sym c.in_ok-inode.ensures.ok ∙ c.in-Some.is) in
    let no_dir = sym (c.is_dir.ensures v c.requires.stands) ∙ c.if-is_dir.false in
    let no_link = sym (c.is_link.ensures v c.requires.stands) ∙ c.if-is_link.false in
    let no_device = ap is_some (sym (c.device.ensures v c.requires.stands)) ∙ sym c.is_some.ensures ∙ c.if-is_some.false in
    subst (λ (w : World). IsFile (shape_of t w.forest) n) (sym c.in_ok-inode.ensures.asks.stays) (is_file (shape_of t v) n there no_dir no_link no_device)
