use Rattle.std.proofs.Common.{◌≡◌, ◌≤◌, ◌++◌, length, take}
use Rattle.dt_elf.specs.Header.{load_segments}
use Rattle.dt_elf.proofs.Headers.{loads_after}
use Rattle.dt_elf.proofs.elf.read_segments.Given as goal

abbrev pub invariant-loop-index : goal.invariant-loop-index
invariant-loop-index l = (length l.table ≡ 64) × (l.count ≤ l.index) × (take l.count l.table ++ loads_after l.bytes l.index ≡ load_segments l.bytes)
