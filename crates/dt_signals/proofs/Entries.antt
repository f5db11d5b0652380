-- What a handler's entry wrote can be read.
use Rattle.std.proofs.Common.{◌≡◌, ◌≢◌, ℕ, ◌%◌, ◌<◌, ◌^◌, List, length, get_or, set, Result, Ok, Err, refl, sym, ap, subst, ◌∙◌, arith}
use Rattle.std.proofs.lemmas.List.{get_or-set_same, get_or-set_other}
use Rattle.dt_base.specs.declared.abi.TheConstants.{A0, A1, A2, SP, RA}
use Rattle.dt_elf.specs.declared.layout.TheConstants.{TRAMPOLINE}
use Rattle.dt_rv64.specs.declared.machine.Machine.{Machine}
use Rattle.dt_rv64.specs.Effects.{register}
use Rattle.dt_rv64.specs.Valid.{IsMachine}
use Rattle.dt_space.specs.declared.access.Miss.{Miss}
use Rattle.dt_space.specs.declared.access.TheConstants.{READ}
use Rattle.dt_space.specs.Space.{PageView, load}
use Rattle.dt_space.specs.Write.{pages_after_store}
use Rattle.dt_signals.specs.declared.numbers.TheConstants.{FRAME_SIZE}
use Rattle.dt_signals.specs.declared.action.Action.{Action}
use Rattle.dt_signals.specs.declared.delivery.Delivery.TheVariants.{Handler}
use Rattle.dt_signals.specs.declared.signals.Sig.{Sig}
use Rattle.dt_signals.specs.Frame.{frame_of, frame_address}
use Rattle.dt_signals.specs.Delivery.{DeliveryResult, delivery_result, at_handler, entry_by_store, handler_entry}
use Rattle.dt_signals.proofs.GivenBack.{length-frame}
use Rattle.dt_signals.proofs.Readback.{stored-read}

others : (regs : List ℕ) (index value : ℕ) → SP ≢ index → get_or (set regs index value) SP 0 ≡ get_or regs SP 0
others regs index value other = get_or-set_other regs index SP value 0 other

pointer-at : (signal at : ℕ) (action : Action) (m : Machine) (pages : List PageView) → length m.regs ≡ 32 → at < 2 ^ 64 → register (at_handler signal action at m pages) SP ≡ at
pointer-at signal at action m pages long fits =
    let sp = set m.regs SP (at % 2 ^ 64) in
    let ra = set sp RA TRAMPOLINE in
    let a0 = set ra A0 (signal % 2 ^ 64) in
    let a1 = set a0 A1 (at % 2 ^ 64) in
    let apart : (SP ≢ A2) × (SP ≢ A1) × (SP ≢ A0) × (SP ≢ RA) = (omega arith, omega arith, omega arith, omega arith) in
    let written : get_or sp SP 0 ≡ at % 2 ^ 64 = get_or-set_same m.regs SP (at % 2 ^ 64) 0 (omega (arith, long)) in
    others a1 A2 0 apart.0 ∙ others a0 A1 (at % 2 ^ 64) apart.1 ∙ others ra A0 (signal % 2 ^ 64) apart.2 ∙ others sp RA TRAMPOLINE apart.3 ∙ written ∙ omega arith

module _ (g kept : Sig) (signal : ℕ) (action : Action) (m handler : Machine) (is : IsMachine m) where
  abbrev at : ℕ
  at = frame_address (register m SP)

  abbrev frame : List ℕ
  frame = frame_of signal m g.mask

  by-store : (r : Result (List PageView) Miss) → pages_after_store m.space at frame ≡ r → entry_by_store g signal action m r ≡ delivery_result Handler kept handler → load handler.space READ (register handler SP) FRAME_SIZE ≡ Ok frame
  by-store (Ok pages) stores gives =
      let same : at_handler signal action at m pages ≡ handler = ap (λ (d : DeliveryResult). d.machine) gives in
      let long : length frame ≡ FRAME_SIZE = length-frame signal g.mask m is in
      let read : load pages READ at (length frame) ≡ Ok frame = stored-read m.space pages at frame is.space (omega arith) (omega (arith, long)) stores in
      let here : load pages READ at FRAME_SIZE ≡ Ok frame = ap (load pages READ at) (sym long) ∙ read in
      let pointer = pointer-at signal at action m pages is.registers (omega arith) in
      subst (λ (h : Machine). load h.space READ (register h SP) FRAME_SIZE ≡ Ok frame) same (ap (λ (a : ℕ). load pages READ a FRAME_SIZE) pointer ∙ here)
  by-store (Err miss) stores gives = let clash = ap (λ (d : DeliveryResult). d.delivery) gives in absurd cc

  -- the frame that an entry wrote stands at the handler's stack pointer
  pub entry-read : handler_entry g signal action m ≡ delivery_result Handler kept handler → load handler.space READ (register handler SP) FRAME_SIZE ≡ Ok frame
  entry-read gives = by-store (pages_after_store m.space at frame) refl gives
