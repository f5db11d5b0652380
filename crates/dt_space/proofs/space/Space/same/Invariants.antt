use Rattle.std.proofs.Common.{◌≡◌, take}
use Rattle.dt_space.proofs.space.Space.same.Given as goal

-- the pages before the index are the same
abbrev pub invariant-loop-index : goal.invariant-loop-index
invariant-loop-index l = record {
  same : take l.index l.self ≡ take l.index l.other;
}
