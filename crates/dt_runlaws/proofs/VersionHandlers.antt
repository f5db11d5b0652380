-- A handler that is entered, and the return from one, leave whether a machine has atomics.
use Rattle.std.proofs.Common.{◌≡◌, ℕ, ◌||◌, ◌==◌, not, List, Bool, true, false, cond, Option, None, Some, refl, ◌∙◌}
use Rattle.std.specs.Prelude.{Result, Ok, Err}
use Rattle.dt_base.specs.Abi.{has_flag}
use Rattle.dt_base.specs.declared.abi.TheConstants.{SP, SA_RESTART}
use Rattle.dt_rv64.specs.declared.machine.Machine.{Machine}
use Rattle.dt_rv64.specs.Effects.{register, machine_after_answer}
use Rattle.dt_signals.specs.declared.action.Action.{Action}
use Rattle.dt_signals.specs.declared.signals.Sig.{Sig}
use Rattle.dt_signals.specs.declared.delivery.CallState.{CallState}
use Rattle.dt_signals.specs.declared.delivery.CallState.TheVariants.{Plain, Waits, Polls}
use Rattle.dt_signals.specs.Delivery.{DeliveryResult, refused_by_interrupt, after_interrupt, entry_by_store, handler_entry, action_result, forced_delivery, lowest_delivery, delivery_of}
use Rattle.dt_signals.specs.Frame.{frame_address, frame_of}
use Rattle.dt_signals.specs.Return.{sigreturn_by_frame, sigreturn_of}
use Rattle.dt_signals.specs.Signals.{action_of, lowest_deliverable, has_handler, is_in, is_signal, without_ignored, without_pending}
use Rattle.dt_space.specs.declared.access.Miss.{Miss}
use Rattle.dt_space.specs.Space.{PageView}
use Rattle.dt_space.specs.Write.{pages_after_store}
use Rattle.dt_calls.specs.SignalCalls.{after_sigreturn, after_sigreturn_by}

-- a delivery's machine has atomics just where another has
Kept : Machine → DeliveryResult → Type 0
Kept m d = d.machine.atomics ≡ m.atomics

either : (m : Machine) (b : Bool) (x y : DeliveryResult) → Kept m x → Kept m y → Kept m (cond b x y)
either m true x y first second = first
either m false x y first second = second

machines : (b : Bool) (m x y : Machine) → x.atomics ≡ m.atomics → y.atomics ≡ m.atomics → (let n = cond b x y in n.atomics) ≡ m.atomics
machines true m x y first second = first
machines false m x y first second = second

interrupted : (call : CallState) (action : Action) (m : Machine) → (after_interrupt call action m).atomics ≡ m.atomics
interrupted Plain action m = refl
interrupted (Waits done) action m =
    machines (not (done == 0)) m (machine_after_answer m done) _ refl (machines (has_flag action.flags SA_RESTART) m m (refused_by_interrupt m) refl refl)
interrupted Polls action m = refl

stored : (g : Sig) (signal : ℕ) (action : Action) (m : Machine) (pages : Result (List PageView) Miss) → Kept m (entry_by_store g signal action m pages)
unfolding Kept
stored g signal action m (Err miss) = refl
stored g signal action m (Ok pages) = refl

entered : (g : Sig) (signal : ℕ) (action : Action) (m : Machine) → Kept m (handler_entry g signal action m)
entered g signal action m = stored g signal action m (pages_after_store m.space (frame_address (register m SP)) (frame_of signal m g.mask))

acted : (g : Sig) (signal : ℕ) (action : Action) (call : CallState) (m : Machine) → Kept m (action_result g signal action call m)
unfolding Kept
acted g signal action call m =
    either m (has_handler action) _ _ (entered g signal action (after_interrupt call action m) ∙ interrupted call action m) refl

forced-keeps : (g : Sig) (signal : ℕ) (call : CallState) (m : Machine) → Kept m (forced_delivery g signal call m)
unfolding Kept
forced-keeps g signal call m = either m (not (is_signal signal) || is_in signal g.mask) _ _ refl (acted g signal (action_of g signal) call m)

lowest-keeps : (g : Sig) (found : Option ℕ) (call : CallState) (m : Machine) → Kept m (lowest_delivery g found call m)
unfolding Kept
lowest-keeps g None call m = refl
lowest-keeps g (Some signal) call m = acted (without_pending signal g) signal (action_of g signal) call m

pub delivered-keeps : (forced : Option ℕ) (call : CallState) (g : Sig) (m : Machine) → (let d = delivery_of forced call g m in d.machine.atomics) ≡ m.atomics
unfolding delivery_of Kept
delivered-keeps (Some signal) call g m = forced-keeps g signal call m
delivered-keeps None call g m = let left = without_ignored g in lowest-keeps left (lowest_deliverable left) call m

-- a return
framed : (g : Sig) (m : Machine) (frame : Result (List ℕ) Miss) → (let b = after_sigreturn_by g m (sigreturn_by_frame g m frame) in b.machine.atomics) ≡ m.atomics
framed g m (Err miss) = refl
framed g m (Ok frame) = refl

pub returned-keeps : (g : Sig) (m : Machine) → (let b = after_sigreturn g m in b.machine.atomics) ≡ m.atomics
unfolding sigreturn_of
returned-keeps g m = framed g m _
