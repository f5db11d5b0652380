use Rattle.std.proofs.Common.{◌≡◌, ℕ, List, [], fold, take}
use Rattle.std.specs.List.{All}
use Rattle.std.specs.BTreeSet.{keys}
use Rattle.dt_host.specs.World.{Forest, IsLive}
use Rattle.dt_tree.specs.Table.{Stands, shape_of}
use Rattle.dt_image.specs.declared.paths.TreePath.{TreePath}
use Rattle.dt_export.specs.inner.Inodes.{with_inode}
use Rattle.dt_export.proofs.prepare.inodes_of_files.Given as goal

-- the inodes of the paths so far
abbrev pub invariant-loop-at : goal.invariant-loop-at
invariant-loop-at l = (v : Forest) → Stands l.tree v → All (λ (at : TreePath). IsLive (shape_of l.tree v) at.inode) l.paths
    → keys l.inodes ≡ fold (λ (inodes : List ℕ) (at : TreePath). with_inode (shape_of l.tree v) inodes at.inode) [] (take l.at-index l.paths)
