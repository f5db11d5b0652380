use Rattle.std.proofs.Common.{◌≡◌}
use Rattle.dt_signals.proofs.Actions.{kept-to}
use Rattle.dt_signals.proofs.signals.Sig.after_exec.Given as goal

abbrev pub invariant-loop-index : goal.invariant-loop-index
invariant-loop-index l = l.self ≡ kept-to l.index l.fn.self
