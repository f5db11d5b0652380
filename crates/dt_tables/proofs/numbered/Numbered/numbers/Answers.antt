use Rattle.std.proofs.Common.{ap, ◌∙◌}
use Rattle.std.specs.FinMap.{keys}
use Rattle.dt_tables.proofs.Keyed.{keys-sorted}
use Rattle.dt_tables.proofs.numbered.Numbered.numbers.Goals as goal

pub returns : goal.returns
returns g c =
    keys-sorted c.self.inside.map _ _ c.unsorted_numbers.ensures.unique c.in_ok-numbers.ensures.numbers c.sort_unstable.ensures.permutation c.sort_unstable.ensures.sorted
    ∙ ap (λ m. keys m) c.self.view_is
