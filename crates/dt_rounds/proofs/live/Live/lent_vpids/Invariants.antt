use Rattle.std.proofs.Common.{◌≡◌, take}
use Rattle.dt_rounds.specs.inner.Round.{lent_vpids}
use Rattle.dt_rounds.proofs.live.Live.lent_vpids.Given as goal

-- those so far
abbrev pub invariant-loop-index : goal.invariant-loop-index
invariant-loop-index l = l.vpids.items ≡ lent_vpids (take l.index l.self.lents.items)
