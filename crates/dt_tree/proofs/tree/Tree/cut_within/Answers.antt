use Rattle.std.proofs.Common.{[], sym, subst, arith}
use Rattle.dt_base.proofs.Profiles.{file_limit-most}
use Rattle.dt_tree.specs.Table.{tree_of}
use Rattle.dt_tree.specs.Calls.{KeepsHeld}
use Rattle.dt_tree.proofs.Mirroring.{has_inode-file}
use Rattle.dt_tree.proofs.Contents.{real_file, tree-truncated, stands-truncated, keeps-truncated}
use Rattle.dt_tree.proofs.tree.Tree.cut_within.Goals as goal

pub inode-requires : goal.inode-requires
inode-requires g c = has_inode-file _ (g.H.Host.view c.args.host.now).forest _ c.requires.file

pub cut-requires-clause-file : goal.cut-requires-clause-file
cut-requires-clause-file g c = real_file c.args.self.now (g.H.Host.view c.args.host.now).forest c.args.vino c.inode.result [] c.requires.stands.mirrors c.inode.ensures c.requires.file

pub cut-requires-clause-fits : goal.cut-requires-clause-fits
cut-requires-clause-fits g c = let most = file_limit-most c.args.self.now.version in omega (arith, c.requires.fits)

pub returns-clause-tree : goal.returns-clause-tree
returns-clause-tree g c =
    tree-truncated c.args.self.now c.stamp.new.self (g.H.Host.view c.args.host.now) (g.H.Host.view c.cut.new.self) c.args.vino c.inode.result c.args.stamp c.requires.stands c.inode.ensures c.requires.file
    c.stamp.ensures.mirrors c.stamp.ensures.tree c.args.len c.in_ok-cut.ensures.legal

pub returns-clause-stands : goal.returns-clause-stands
returns-clause-stands g c =
    stands-truncated c.args.self.now c.stamp.new.self (g.H.Host.view c.args.host.now) (g.H.Host.view c.cut.new.self) c.args.vino c.inode.result c.args.stamp c.requires.stands c.inode.ensures c.requires.file
    c.stamp.ensures.mirrors c.stamp.ensures.tree c.args.len c.requires.fits c.in_ok-cut.ensures.legal

pub returns-clause-held : goal.returns-clause-held
returns-clause-held g c =
    let t = tree_of c.args.self.now (g.H.Host.view c.args.host.now).forest in
    subst (KeepsHeld t)
    (sym (tree-truncated c.args.self.now c.stamp.new.self (g.H.Host.view c.args.host.now) (g.H.Host.view c.cut.new.self) c.args.vino c.inode.result c.args.stamp c.requires.stands c.inode.ensures c.requires.file
    c.stamp.ensures.mirrors c.stamp.ensures.tree c.args.len c.in_ok-cut.ensures.legal))
    (keeps-truncated t c.args.vino c.args.len c.args.stamp c.requires.file)
