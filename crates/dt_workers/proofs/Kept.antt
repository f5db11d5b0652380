-- Each segment leaves the machine of its slot well formed, also one that was cut short.
use Rattle.std.proofs.Common.{◌<◌, List, Option, None, Some, Result, Ok, Err, length, subst, arith}
use Rattle.std.specs.Prelude.{All}
use Rattle.std.specs.List.{AllZip}
use Rattle.std.proofs.lemmas.List.Elements.{length_all_zip, AllZip-get_or}
use Rattle.dt_base.specs.declared.memory.NoMemory.{NoMemory}
use Rattle.dt_rv64.specs.declared.machine.Machine.{Machine}
use Rattle.dt_rv64.specs.declared.segments.Seg.{Seg}
use Rattle.dt_rv64.specs.Segment.{SegmentRun}
use Rattle.dt_rv64.specs.Valid.{IsMachine}
use Rattle.dt_rv64.proofs.Kept.{segment-keeps, cut-keeps}
use Rattle.dt_workers.specs.declared.slot.Slot.{Slot}
use Rattle.dt_workers.specs.Slots.{IsOutcome, IsSlotAfter, HasMachine}

outcome-keeps : (old new : Machine) (result : Option (Result Seg NoMemory)) → IsOutcome old new result → IsMachine old → IsMachine new
outcome-keeps old new None none is = absurd none
outcome-keeps old new (Some (Ok seg)) ran is = subst (λ (run : SegmentRun). IsMachine run.machine) ran (segment-keeps old is)
outcome-keeps old new (Some (Err wanting)) cut is = cut-keeps old new cut is

slot-keeps : (old new : Slot) → IsSlotAfter old new → HasMachine old → HasMachine new
slot-keeps old new after is = outcome-keeps old.machine new.machine new.result after.outcome is

pub slots-keep : (old new : List Slot) → AllZip IsSlotAfter old new → All HasMachine old → All HasMachine new
slots-keep old new ran are = λ k d within.
    let same = length_all_zip IsSlotAfter old new ran in
    let inside : k < length old = omega (arith, same, within) in
    slot-keeps _ _ (AllZip-get_or IsSlotAfter old new k d d ran inside) (are k d inside)
