use Rattle.std.proofs.Common.{◌≡◌, map, subst, sym, rules}
use Rattle.std.specs.List.Sorted.{IsStrictlySortedBy}
use Rattle.dt_image.specs.inner.IndexView.{entry_at, path_cmp}
use Rattle.dt_image.proofs.Sorting.{rising-entries}
use Rattle.dt_image.proofs.order.in_order.Goals as goal

pub returns-clause-rising : goal.returns-clause-rising
returns-clause-rising c =
    let same : c.in_ok-entries.entries.items ≡ map entry_at c.args.sources.entries = search rules in
    subst (IsStrictlySortedBy path_cmp) (sym same) (rising-entries c.args.sources.entries c.into_iter.ensures.into_iter_gives.5)
