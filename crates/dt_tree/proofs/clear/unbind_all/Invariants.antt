use Rattle.std.proofs.Common.{◌≤◌, drop, map}
use Rattle.dt_host.specs.Legal.{pair_of}
use Rattle.dt_host.specs.World.{OnlyForest}
use Rattle.dt_tree.specs.inner.Emptied.{AreEntries, Thins}
use Rattle.dt_tree.proofs.clear.unbind_all.Given as goal

-- so far the first entries are gone
abbrev pub invariant-loop-entry : goal.invariant-loop-entry
invariant-loop-entry g l = record {
  later : g.H.Host.count l.fn.host ≤ g.H.Host.count l.host;
  thins : Thins (g.H.Host.view l.fn.host).forest (g.H.Host.view l.host).forest;
  left : AreEntries (g.H.Host.view l.host).forest l.dir (map pair_of (drop l.entry-index l.entries));
  rest : OnlyForest (g.H.Host.view l.fn.host) (g.H.Host.view l.host);
}
