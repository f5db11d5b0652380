-- A slot before its segment and after it.
use Rattle.std.specs.Prelude.{◌≡◌, Option, None, Some, Result, Ok, Err}
use Rattle.dt_base.specs.declared.memory.NoMemory.{NoMemory}
use Rattle.dt_rv64.specs.declared.machine.Machine.{Machine}
use Rattle.dt_rv64.specs.declared.segments.Seg.{Seg}
use Rattle.dt_rv64.specs.Segment.{segment_of, IsCutShort}
use Rattle.dt_rv64.specs.Valid.{IsMachine}
use Rattle.dt_workers.specs.declared.slot.Slot.{Slot}

-- what a slot tells after a segment of the machine `old`: its count and stop, with the machine `new` after it; or want of
-- memory, which cut it short; never nothing
abbrev pub IsOutcome : Machine → Machine → Option (Result Seg NoMemory) → Type 0
IsOutcome old new None = ⊥
IsOutcome old new (Some (Ok seg)) = segment_of old ≡ record { count = seg.count; stop = seg.stop; machine = new }
IsOutcome old new (Some (Err wanting)) = IsCutShort old new

-- a slot after its segment; the virtual pid stays
pub record IsSlotAfter (old new : Slot) : Type 0 where
  pub vpid : new.vpid ≡ old.vpid
  pub outcome : IsOutcome old.machine new.machine new.result

-- the machine of a slot is well formed
abbrev pub HasMachine : Slot → Type 0
HasMachine slot = IsMachine slot.machine
