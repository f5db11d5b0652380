use Rattle.std.proofs.Common.{◌≡◌, ◌≤◌, take}
use Rattle.std.specs.List.{count_by}
use Rattle.dt_host.specs.World.{Forest}
use Rattle.dt_tree.specs.Shape.{is_dir}
use Rattle.dt_tree.specs.Table.{Stands, vino_of, shape_of}
use Rattle.dt_tree.proofs.tree.Tree.count_dirs.Given as goal

abbrev pub invariant-loop-entry : goal.invariant-loop-entry
invariant-loop-entry l = record {
  few : l.count ≤ l.entry-index;
  counted : (v : Forest) → Stands l.self v → l.count ≡ count_by (λ e. is_dir (shape_of l.self v) (vino_of l.self e.ino)) (take l.entry-index l.entries);
}
