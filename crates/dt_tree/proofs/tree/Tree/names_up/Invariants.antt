use Rattle.std.proofs.Common.{◌≡◌, ◌-◌, ◌≤◌, []}
use Rattle.std.specs.Prelude.{reverse}
use Rattle.dt_host.specs.World.{IsDir}
use Rattle.dt_tree.specs.Above.{names_up}
use Rattle.dt_tree.specs.Table.{shape_of}
use Rattle.dt_tree.proofs.tree.Tree.names_up.Given as goal

abbrev pub invariant-loop-i : goal.invariant-loop-i
invariant-loop-i g l = record {
  stays : g.H.Host.view l.host ≡ g.H.Host.view l.fn.host;
  later : g.H.Host.count l.fn.host ≤ g.H.Host.count l.host;
  is : IsDir (shape_of l.self (g.H.Host.view l.fn.host).forest) l.at;
  same : names_up (4096 - l._i) (shape_of l.self (g.H.Host.view l.fn.host).forest) l.at (reverse l.names.items) ≡ names_up 4096 (shape_of l.self (g.H.Host.view l.fn.host).forest) l.dir [];
}
