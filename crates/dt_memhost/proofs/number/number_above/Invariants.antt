use Rattle.std.proofs.Common.{◌≡◌, ℕ, ◌<◌, true}
use Rattle.dt_memhost.specs.inner.Live.{has_number}
use Rattle.dt_memhost.proofs.number.number_above.Given as goal

abbrev pub invariant-loop-number : goal.invariant-loop-number
invariant-loop-number g l = (q : ℕ) → l.limit < q → q < l.number-counter → has_number l.live q ≡ true
