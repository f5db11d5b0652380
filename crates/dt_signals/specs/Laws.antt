-- Laws of handlers.
use Rattle.std.specs.Prelude.{◌≡◌, ℕ, ◌<◌, ◌^◌, None, Ok}
use Rattle.dt_base.specs.declared.abi.TheConstants.{SP}
use Rattle.dt_rv64.specs.declared.machine.Machine.{Machine}
use Rattle.dt_rv64.specs.Effects.{register}
use Rattle.dt_rv64.specs.Valid.{IsMachine}
use Rattle.dt_space.specs.declared.access.TheConstants.{READ}
use Rattle.dt_space.specs.Space.{load}
use Rattle.dt_signals.specs.declared.numbers.TheConstants.{FRAME_SIZE}
use Rattle.dt_signals.specs.declared.action.Action.{Action}
use Rattle.dt_signals.specs.declared.delivery.Delivery.TheVariants.{Handler}
use Rattle.dt_signals.specs.declared.signals.Sig.{Sig}
use Rattle.dt_signals.specs.Signals.{with_mask}
use Rattle.dt_signals.specs.Delivery.{delivery_result, handler_entry}
use Rattle.dt_signals.specs.Frame.{frame_of}
use Rattle.dt_signals.specs.Return.{sigreturn_of, sigreturn_state}

-- where a handler was entered, its frame stands at the stack pointer and can be read
abbrev pub EntryLeavesItsFrame : Type 0
EntryLeavesItsFrame =
    (g kept : Sig) (signal : ℕ) (action : Action) (m handler : Machine) → IsMachine m
    → handler_entry g signal action m ≡ delivery_result Handler kept handler
    → load handler.space READ (register handler SP) FRAME_SIZE ≡ Ok (frame_of signal m g.mask)

-- whatever a handler did, it returns to the program counter, the registers and the mask that its entry kept, if the
-- frame at the stack pointer is still the one that its entry wrote; nothing is reserved then
abbrev pub ReturnGivesBack : Type 0
ReturnGivesBack =
    (signal : ℕ) (m : Machine) (mask : ℕ) (g : Sig) (handler : Machine) → IsMachine m → mask < 2 ^ 64
    → load handler.space READ (register handler SP) FRAME_SIZE ≡ Ok (frame_of signal m mask)
    → sigreturn_of g handler ≡ Ok (sigreturn_state (with_mask mask g) (record m { space = handler.space; reserved = None; atomics = handler.atomics }))
