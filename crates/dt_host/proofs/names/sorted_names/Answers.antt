use Rattle.std.proofs.lemmas.List.Sorted.{IsPermutation-map}
use Rattle.dt_host.specs.World.{names_at}
use Rattle.dt_host.specs.Legal.{pair_of}
use Rattle.dt_tables.proofs.InOrder.{sorted_entries}
use Rattle.dt_host.proofs.names.sorted_names.Goals as goal

pub returns-clause-sorted : goal.returns-clause-sorted
returns-clause-sorted g c =
    let sort = c.in_ok-sort.ensures in
    sorted_entries pair_of (names_at (g.H.Host.view c.args.host.now).forest c.args.dir) c.in_ok-found.found.items c.sort.new.self.items c.in_ok-found.ensures.ok (IsPermutation-map pair_of _ _ sort.permutation) sort.sorted
