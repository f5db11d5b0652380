use Rattle.dt_tree.proofs.Mirroring.{has_inode}
use Rattle.dt_tree.proofs.tree.Tree.nlink.Goals as goal

pub inode-inode-requires : goal.inode-inode-requires
inode-inode-requires g c = has_inode _ (g.H.Host.view c.args.host.now).forest _ c.requires.live
