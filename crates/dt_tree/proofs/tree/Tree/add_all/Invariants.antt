use Rattle.std.proofs.Common.{◌≡◌, ◌++◌, List, map, take}
use Rattle.std.specs.Prelude.{option_map}
use Rattle.dt_host.specs.World.{Forest}
use Rattle.dt_tree.specs.declared.list.Listed.{Listed}
use Rattle.dt_tree.specs.Listing.{next_of}
use Rattle.dt_tree.specs.Table.{Stands}
use Rattle.dt_tree.specs.inner.Lists.{listed_host_entry}
use Rattle.dt_tree.proofs.tree.Tree.add_all.Given as goal

abbrev pub invariant-loop-entry : goal.invariant-loop-entry
invariant-loop-entry l = (v : Forest) → Stands l.self v → (before : List Listed) → l.fn.list.items ≡ next_of (option_map (λ l. l.now) l.last) l.most before
    → l.list.items ≡ next_of (option_map (λ l. l.now) l.last) l.most (before ++ map (listed_host_entry l.self v) (take l.entry-index l.entries))
