use Rattle.std.proofs.Common.{◌≡◌, ◌≤◌, length, drop}
use Rattle.dt_elf.specs.Executable.{table_address}
use Rattle.dt_elf.proofs.elf.table_address.Given as goal

abbrev pub invariant-loop-index : goal.invariant-loop-index
invariant-loop-index l = (l.index ≤ length l.segments) × (l.address ≡ table_address l.bytes (drop l.index l.segments))

abbrev pub decreases-loop-index : goal.decreases-loop-index
decreases-loop-index l = l.index
