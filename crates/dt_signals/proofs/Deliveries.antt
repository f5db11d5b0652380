-- What a delivery comes to, case by case.
use Rattle.std.proofs.Common.{◌≡◌, ℕ, Some, None, refl}
use Rattle.dt_rv64.specs.declared.machine.Machine.{Machine}
use Rattle.dt_signals.specs.declared.delivery.CallState.{CallState}
use Rattle.dt_signals.specs.declared.signals.Sig.{Sig}
use Rattle.dt_signals.specs.Signals.{action_of, lowest_deliverable, without_pending, without_ignored}
use Rattle.dt_signals.specs.Delivery.{action_result, delivery_of}

-- the lowest signal that can be delivered acts
pub delivered-lowest : (g left : Sig) (signal : ℕ) (call : CallState) (m : Machine) → left ≡ without_ignored g → lowest_deliverable left ≡ Some signal → delivery_of None call g m ≡ action_result (without_pending signal left) signal (action_of left signal) call m
unfolding delivery_of
delivered-lowest g left signal call m is found = rw (← is, found) refl
