use Rattle.std.proofs.Common.{◌≡◌, Some, sym, ap, subst, ◌∙◌}
use Rattle.std.specs.Prelude.{option_map}
use Rattle.dt_host.specs.World.{World, IsLive, node_at}
use Rattle.dt_tree.specs.Meta.{node_size}
use Rattle.dt_tree.specs.Table.{shape_of}
use Rattle.dt_tree.proofs.Mirroring.{has_inode}
use Rattle.dt_tree.proofs.Looked.{meta-kept}
use Rattle.dt_tree.proofs.tree.Tree.meta.Goals as goal

pub size-requires-clause-live : goal.size-requires-clause-live
size-requires-clause-live g c = subst (λ (w : World). IsLive (shape_of c.args.self.now w.forest) c.args.vino) (sym c.nlink.ensures.asks.stays) c.requires.live

pub inode-inode-requires : goal.inode-inode-requires
inode-inode-requires g c = has_inode _ (g.H.Host.view c.args.host.now).forest _ c.requires.live

pub returns-clause-ok : goal.returns-clause-ok
returns-clause-ok g c =
    let v = (g.H.Host.view c.args.host.now).forest in
    let size = subst (λ (w : World). option_map node_size (node_at (shape_of c.args.self.now w.forest) c.args.vino) ≡ Some c.in_ok-size.size) c.nlink.ensures.asks.stays c.in_ok-size.ensures.ok in
    meta-kept c.args.self.now v c.requires.stands.mirrors c.args.vino c.inode-inode.result c.inode-inode.ensures c.in_ok-nlink.nlink c.in_ok-size.size c.in_ok-nlink.ensures.ok size
    ∙ ap (λ k. Some (record { kind = k; mode = c.inode-inode.result.mode; nlink = c.in_ok-nlink.nlink; size = c.in_ok-size.size; stamp = c.inode-inode.result.stamp })) (sym c.type_of.ensures)
