-- What contracts see of a job.
use Rattle.std.specs.Prelude.{◌≡◌, Bool, is_some, Option, None, Some, Result}
use Rattle.dt_base.specs.declared.memory.NoMemory.{NoMemory}
use Rattle.dt_rv64.specs.declared.machine.Machine.{Machine}
use Rattle.dt_rv64.specs.declared.segments.Seg.{Seg}
use Rattle.dt_workers.specs.Slots.{IsOutcome}

-- the machine that the job started as, its machine now, and what its segment came to, once it was run
pub record JobView : Type 0 where
  pub start : Machine
  pub machine : Machine
  pub outcome : Option (Result Seg NoMemory)

-- the job was run
abbrev pub finished : JobView → Bool
finished job = is_some job.outcome

-- the machine of an open job is its start; that of a finished one is what the segment of its start left, or what a part
-- of it left where memory was wanting
abbrev pub IsJob : Machine → Machine → Option (Result Seg NoMemory) → Type 0
IsJob start machine None = machine ≡ start
IsJob start machine (Some outcome) = IsOutcome start machine (Some outcome)
