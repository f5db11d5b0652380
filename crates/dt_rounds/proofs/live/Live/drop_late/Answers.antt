use Rattle.std.proofs.Common.{length, ap, arith}
use Rattle.dt_rounds.specs.declared.live.Live.{Live}
use Rattle.dt_rounds.proofs.live.Live.drop_late.Goals.{in-None, in-Some}
use Rattle.dt_rounds.proofs.live.Live.drop_late.Goals as goal

-- one old job fewer, or one place more that was looked at
pub loop-index-smaller : goal.loop-index-smaller
loop-index-smaller c = elim c.match-take.branch [
  | in-None w ↦ let same = ap (λ (live : Live). length live.lates.items) w.self-is in
      omega (arith, same, w.index-is, c.len.ensures, c.loop-index-test.true)
  | in-Some w ↦ let fewer = ap (λ (live : Live). length live.lates.items) w.self-is in
      omega (arith, fewer, w.index-is, w.swap_remove.ensures.len, c.len.ensures, c.loop-index-test.true)
]
