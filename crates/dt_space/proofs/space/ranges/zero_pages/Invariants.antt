use Rattle.std.proofs.Common.{◌≡◌, ◌-◌, ◌++◌, []}
use Rattle.dt_space.specs.Pages.{zero_padded, pages_from}
use Rattle.dt_space.proofs.space.ranges.zero_pages.Given as goal

abbrev pub invariant-loop-number : goal.invariant-loop-number
invariant-loop-number l = record {
  made : l.pages.items ++ pages_from l.number l.rights [] (l.number-end - l.number) ≡ pages_from l.first l.rights [] l.count;
  zeros : l.zeros ≡ record { number = l.first; rights = l.rights; bytes = zero_padded [] };
}
