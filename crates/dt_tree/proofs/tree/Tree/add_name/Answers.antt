use Rattle.dt_tree.proofs.Mirroring.{has_inode-dir}
use Rattle.dt_tree.proofs.tree.Tree.add_name.Goals as goal

pub is_removed-requires : goal.is_removed-requires
is_removed-requires g c = has_inode-dir _ (g.H.Host.view c.args.host.now).forest _ c.requires.may.new.is_dir
