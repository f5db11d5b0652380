-- Delivery of a signal at the end of a process's turn: that of a fault, or the lowest that is pending and neither masked nor
-- ignored (signal(7)).
use Rattle.std.specs.Prelude.{ℕ, ◌-◌, ◌^◌, ◌==◌, ◌||◌, not, bit_or, List, Option, None, Some, Result, Ok, Err, if◌then◌else◌}
use Rattle.dt_base.specs.declared.abi.TheConstants.{A0, A1, A2, SP, SIGSEGV, RA, SA_RESTART}
use Rattle.dt_base.specs.declared.errno.Errno.TheVariants.{Intr}
use Rattle.dt_base.specs.Abi.{has_flag}
use Rattle.dt_base.specs.Errno.{errno_number}
use Rattle.dt_elf.specs.declared.layout.TheConstants.{TRAMPOLINE}
use Rattle.dt_rv64.specs.declared.machine.Machine.{Machine}
use Rattle.dt_rv64.specs.Atomics.{with_reserved}
use Rattle.dt_rv64.specs.Effects.{register, with_register, machine_after_answer}
use Rattle.dt_space.specs.declared.access.Miss.{Miss}
use Rattle.dt_space.specs.Space.{PageView}
use Rattle.dt_space.specs.Write.{pages_after_store}
use Rattle.dt_signals.specs.declared.action.Action.{Action}
use Rattle.dt_signals.specs.declared.signals.Sig.{Sig}
use Rattle.dt_signals.specs.declared.delivery.Delivery.{Delivery}
use Rattle.dt_signals.specs.declared.delivery.Delivery.TheVariants.{Nothing, Handler, Ends}
use Rattle.dt_signals.specs.declared.delivery.CallState.{CallState}
use Rattle.dt_signals.specs.declared.delivery.CallState.TheVariants.{Plain, Waits, Polls}
use Rattle.dt_signals.specs.Signals.{action_of, bit_of, lowest_deliverable, has_handler, is_in, is_signal, without_pending, with_mask, without_ignored}
use Rattle.dt_signals.specs.Frame.{frame_address, frame_of}

-- what delivery came to, with the signal state and the machine after it
pub record DeliveryResult : Type 0 where
  pub delivery : Delivery
  pub signals : Sig
  pub machine : Machine

-- the signal state and the machine are these, and the delivery came to this
abbrev pub delivery_result : Delivery → Sig → Machine → DeliveryResult
delivery_result delivery g m = record { delivery = delivery; signals = g; machine = m }

-- a call is refused with EINTR
abbrev pub refused_by_interrupt : Machine → Machine
refused_by_interrupt m = machine_after_answer m (2 ^ 64 - errno_number Intr)

-- a call that waits is over before a handler runs: it answers how many bytes it has moved; where it has moved none it is
-- made again after the handler, if the action asks for that, and is else refused with EINTR; a ppoll(2) is refused whatever
-- the action asks for
abbrev pub after_interrupt : CallState → Action → Machine → Machine
after_interrupt Plain action m = m
after_interrupt (Waits done) action m =
    if not (done == 0) then machine_after_answer m done
    else if has_flag action.flags SA_RESTART then m
    else refused_by_interrupt m
after_interrupt Polls action m = refused_by_interrupt m

-- a handler's registers: it is handed the signal's number and where the frame stands, and returns to the trampoline
abbrev pub with_handler_registers : ℕ → ℕ → Machine → Machine
with_handler_registers signal at m =
    with_register (with_register (with_register (with_register (with_register m SP at) RA TRAMPOLINE) A0 signal) A1 at) A2 0

-- a machine at the start of a handler; it has nothing reserved
abbrev pub at_handler : ℕ → Action → ℕ → Machine → List PageView → Machine
at_handler signal action at m pages =
    with_reserved None (record (with_handler_registers signal at m) { pc = action.handler; space = pages })

-- a handler is entered where its frame could be written, and else the process ends by SIGSEGV, whatever it does about
-- that
abbrev pub entry_by_store : Sig → ℕ → Action → Machine → Result (List PageView) Miss → DeliveryResult
entry_by_store g signal action m (Err miss) = delivery_result (Ends SIGSEGV) g m
entry_by_store g signal action m (Ok pages) =
    delivery_result Handler (with_mask (bit_or (bit_or g.mask action.mask) (bit_of signal)) g)
    (at_handler signal action (frame_address (register m SP)) m pages)

-- a handler is entered with this machine, whose state the frame keeps
abbrev pub handler_entry : Sig → ℕ → Action → Machine → DeliveryResult
handler_entry g signal action m =
    entry_by_store g signal action m
    (pages_after_store m.space (frame_address (register m SP)) (frame_of signal m g.mask))

-- a signal acts: its handler runs, or it ends the process
abbrev pub action_result : Sig → ℕ → Action → CallState → Machine → DeliveryResult
action_result g signal action call m =
    if has_handler action then handler_entry g signal action (after_interrupt call action m)
    else delivery_result (Ends signal) g m

-- a fault's signal ends the process where it is masked, ignored or has the default action, and so does a number that is no
-- signal's; else its handler is entered
abbrev pub forced_delivery : Sig → ℕ → CallState → Machine → DeliveryResult
forced_delivery g signal call m =
    if not (is_signal signal) || is_in signal g.mask then delivery_result (Ends signal) g m
    else action_result g signal (action_of g signal) call m

-- the lowest signal that can be delivered, if there is one, is pending no longer and acts
abbrev pub lowest_delivery : Sig → Option ℕ → CallState → Machine → DeliveryResult
lowest_delivery g None call m = delivery_result Nothing g m
lowest_delivery g (Some signal) call m = action_result (without_pending signal g) signal (action_of g signal) call m

-- the signal of a fault; else the pending signals that would do nothing are forgotten, and the lowest left is delivered
unfoldable pub delivery_of : Option ℕ → CallState → Sig → Machine → DeliveryResult
delivery_of (Some signal) call g m = forced_delivery g signal call m
delivery_of None call g m = let left = without_ignored g in lowest_delivery left (lowest_deliverable left) call m
