use Rattle.std.proofs.Common.{◌≡◌, ◌≤◌, ◌<◌, ℕ, Some}
use Rattle.std.specs.FinMap.{get}
use Rattle.dt_host.specs.World.{OnlyForest, IsBare}
use Rattle.dt_tree.specs.declared.inode.Inode.{Inode}
use Rattle.dt_tree.specs.declared.limits.TheConstants.{ROOT}
use Rattle.dt_tree.specs.inner.Emptied.{Thins}
use Rattle.dt_tree.proofs.tree.Tree.empty_dirs.Given as goal

-- so far the first nodes have no entries
abbrev pub invariant-loop-n : goal.invariant-loop-n
invariant-loop-n g l = record {
  later : g.H.Host.count l.fn.host ≤ g.H.Host.count l.host;
  thins : Thins (g.H.Host.view l.fn.host).forest (g.H.Host.view l.host).forest;
  done : (q : ℕ) (inode : Inode) → ROOT ≤ q → q < l.n → get l.self.inodes q ≡ Some inode → IsBare (g.H.Host.view l.host).forest inode.real;
  rest : OnlyForest (g.H.Host.view l.fn.host) (g.H.Host.view l.host);
}
