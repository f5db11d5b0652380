use Rattle.std.proofs.Common.{◌≡◌, ◌+◌, ◌-◌}
use Rattle.std.specs.List.{find}
use Rattle.dt_signals.specs.Signals.{signals_from, is_deliverable, lowest_deliverable}
use Rattle.dt_signals.proofs.signals.Sig.deliverable.Given as goal

abbrev pub invariant-loop-index : goal.invariant-loop-index
invariant-loop-index l = find (is_deliverable l.self) (signals_from (l.index + 1) (64 - l.index)) ≡ lowest_deliverable l.self
