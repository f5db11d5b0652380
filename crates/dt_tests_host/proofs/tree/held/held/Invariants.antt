use Rattle.std.proofs.Common.{◌≡◌, Some}
use Rattle.dt_host.specs.World.{IsLive}
use Rattle.dt_tree.specs.Table.{Stands, shape_of, real_of}
use Rattle.dt_tests_host.proofs.tree.held.held.Given as goal

abbrev pub invariant-loop-name : goal.invariant-loop-name
invariant-loop-name l = record {
  stands : Stands l.tree l.host.view.forest;
  live : IsLive (shape_of l.tree l.host.view.forest) l.inode;
  number : real_of l.tree l.inode ≡ Some l.real;
}
