use Rattle.std.proofs.Common.{map, ap, ◌∙◌}
use Rattle.dt_image.specs.inner.IndexView.{entry_in}
use Rattle.dt_image.proofs.Sorting.{entries_shown}
use Rattle.dt_image.proofs.order.sorted.Goals as goal

pub returns-in_ok-in_order-in-Some-clause-sorted : goal.returns-in_ok-in_order-in-Some-clause-sorted
returns-in_ok-in_order-in-Some-clause-sorted c =
    ap (map entry_in) c.in_ok-in_order-in-Some.ensures.entries
    ∙ entries_shown c.in-Some.sources.entries
    ∙ rw c.in-Some.is at c.in_ok-sources.ensures.sorted
