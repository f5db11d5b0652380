use Rattle.std.proofs.Common.{◌≡◌, ◌≤◌}
use Rattle.dt_host.specs.World.{OnlyForest}
use Rattle.dt_tree.specs.inner.Emptied.{IsForgotten}
use Rattle.dt_tree.proofs.tree.Tree.forget_all.Given as goal

-- so far the first nodes are gone
abbrev pub invariant-loop-n : goal.invariant-loop-n
invariant-loop-n g l = record {
  later : g.H.Host.count l.fn.host ≤ g.H.Host.count l.host;
  forgotten : IsForgotten l.self l.n (g.H.Host.view l.host).forest;
  root : (g.H.Host.view l.host).forest.root ≡ (g.H.Host.view l.fn.host).forest.root;
  rest : OnlyForest (g.H.Host.view l.fn.host) (g.H.Host.view l.host);
}
