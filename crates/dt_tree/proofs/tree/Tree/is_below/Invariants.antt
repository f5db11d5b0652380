use Rattle.std.proofs.Common.{◌≡◌, ◌-◌}
use Rattle.dt_host.specs.World.{IsDir}
use Rattle.dt_tree.specs.Above.{is_below_within}
use Rattle.dt_tree.specs.Table.{shape_of}
use Rattle.dt_tree.proofs.tree.Tree.is_below.Given as goal

abbrev pub invariant-loop-i : goal.invariant-loop-i
invariant-loop-i g l = record {
  is : IsDir (shape_of l.self (g.H.Host.view l.fn.host).forest) l.current;
  same : is_below_within (4096 - l._i) (shape_of l.self (g.H.Host.view l.fn.host).forest) l.current l.above ≡ is_below_within 4096 (shape_of l.self (g.H.Host.view l.fn.host).forest) l.dir l.above;
}
