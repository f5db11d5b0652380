use Rattle.std.proofs.Common.{◌≡◌, ◌+◌, ◌-◌}
use Rattle.dt_memhost.specs.inner.Live.{has_number}
use Rattle.dt_memhost.specs.Number.{next_free}
use Rattle.dt_memhost.proofs.number.number_around.Given as goal

abbrev pub invariant-loop-step : goal.invariant-loop-step
invariant-loop-step g l = next_free (has_number l.live) l.limit l.word l.limit ≡ next_free (has_number l.live) l.limit (l.word + l.step) (l.limit - l.step)
