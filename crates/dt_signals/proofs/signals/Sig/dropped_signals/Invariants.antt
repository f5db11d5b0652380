use Rattle.std.proofs.Common.{◌≡◌}
use Rattle.dt_signals.specs.Signals.{set_of, is_dropped}
use Rattle.dt_signals.proofs.signals.Sig.dropped_signals.Given as goal

abbrev pub invariant-loop-index : goal.invariant-loop-index
invariant-loop-index l = l.set ≡ set_of (is_dropped l.self) l.index
