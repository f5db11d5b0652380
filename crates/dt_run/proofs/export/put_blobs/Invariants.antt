use Rattle.std.proofs.Common.{◌≡◌, ◌≤◌, take}
use Rattle.dt_tree.specs.Table.{tree_of}
use Rattle.dt_run.specs.Exports.{ChangesFolder}
use Rattle.dt_run.specs.inner.Exporting.{told_with_blobs}
use Rattle.dt_run.proofs.export.put_blobs.Given as goal

-- the blobs so far were put, and the host keeps what it kept
abbrev pub invariant-loop-inode : goal.invariant-loop-inode
invariant-loop-inode g l = record {
  stays : g.H.Host.view l.host ≡ g.H.Host.view l.fn.host;
  host : g.H.Host.count l.fn.host ≤ g.H.Host.count l.host;
  store : g.S.Store.count l.fn.store ≤ g.S.Store.count l.store;
  put : g.S.Store.told l.store ≡ told_with_blobs (g.S.Store.told l.fn.store) l.folder (tree_of l.tree (g.H.Host.view l.fn.host).forest) (take l.inode-index l.inodes);
  keeps : ChangesFolder l.folder (g.S.Store.told l.fn.store) (g.S.Store.told l.store);
}
