use Rattle.std.proofs.Common.{Some, sym, ap, ◌∙◌}
use Rattle.dt_tree.proofs.Mirroring.{has_inode, real_live}
use Rattle.dt_tree.proofs.Looked.{size-file, size-dir, size-link, size-device, real_link}
use Rattle.dt_tree.proofs.tree.Tree.size.Goals as goal

pub inode-inode-requires : goal.inode-inode-requires
inode-inode-requires g c = has_inode _ (g.H.Host.view c.args.host.now).forest _ c.requires.live

pub raw-requires : goal.raw-requires
raw-requires g c = real_live _ _ c.requires.stands.mirrors.pairs _ _ c.inode-inode.ensures

pub target-requires : goal.target-requires
target-requires g c = real_link _ _ c.requires.stands.mirrors _ _ c.inode-inode.ensures c.in-Link.is

pub returns-in_ok-raw-in-File-clause-ok : goal.returns-in_ok-raw-in-File-clause-ok
returns-in_ok-raw-in-File-clause-ok g c = size-file _ (g.H.Host.view c.args.host.now).forest c.requires.stands.mirrors _ _ c.inode-inode.ensures c.in-File.is _ c.in_ok-raw-in-File.ensures.ok

pub returns-in-Dir-clause-ok : goal.returns-in-Dir-clause-ok
returns-in-Dir-clause-ok g c = size-dir _ (g.H.Host.view c.args.host.now).forest c.requires.stands.mirrors _ _ c.inode-inode.ensures c.in-Dir.is

pub returns-in_ok-target-in-Link-clause-ok : goal.returns-in_ok-target-in-Link-clause-ok
returns-in_ok-target-in-Link-clause-ok g c =
    size-link _ (g.H.Host.view c.args.host.now).forest c.requires.stands.mirrors _ _ c.inode-inode.ensures c.in-Link.is _ c.in_ok-target-in-Link.ensures.ok ∙ ap Some (sym c.len.ensures)

pub returns-in-Device-clause-ok : goal.returns-in-Device-clause-ok
returns-in-Device-clause-ok g c = size-device _ (g.H.Host.view c.args.host.now).forest c.requires.stands.mirrors _ _ c.inode-inode.ensures _ c.in-Device.is
