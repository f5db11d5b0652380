-- The return from a handler (sigreturn(2)): the frame at the stack pointer gives back what the handler's entry kept.
use Rattle.std.specs.Prelude.{ℕ, List, Result, Ok, Err}
use Rattle.dt_base.specs.declared.abi.TheConstants.{SP}
use Rattle.dt_rv64.specs.declared.machine.Machine.{Machine}
use Rattle.dt_rv64.specs.Effects.{register}
use Rattle.dt_space.specs.declared.access.Miss.{Miss}
use Rattle.dt_space.specs.declared.access.TheConstants.{READ}
use Rattle.dt_space.specs.Space.{load}
use Rattle.dt_signals.specs.declared.numbers.TheConstants.{FRAME_SIZE, FRAME_MASK}
use Rattle.dt_signals.specs.declared.signals.Sig.{Sig}
use Rattle.dt_signals.specs.Signals.{with_mask}
use Rattle.dt_signals.specs.Frame.{machine_of_frame, word_in}

-- the signal state and the machine after a return
pub record SigreturnState : Type 0 where
  pub signals : Sig
  pub machine : Machine

-- the signal state and the machine are these
abbrev pub sigreturn_state : Sig → Machine → SigreturnState
sigreturn_state g m = record { signals = g; machine = m }

-- by the frame's bytes: all of them must be readable
abbrev pub sigreturn_by_frame : Sig → Machine → Result (List ℕ) Miss → Result SigreturnState Miss
sigreturn_by_frame g m (Err miss) = Err miss
sigreturn_by_frame g m (Ok frame) =
    Ok (sigreturn_state (with_mask (word_in frame FRAME_MASK) g) (machine_of_frame frame m))

-- what the frame at the stack pointer gives back; a miss where a byte of it cannot be read (sigreturn(2))
unfoldable pub sigreturn_of : Sig → Machine → Result SigreturnState Miss
sigreturn_of g m = sigreturn_by_frame g m (load m.space READ (register m SP) FRAME_SIZE)
