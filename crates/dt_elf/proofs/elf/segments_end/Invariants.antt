use Rattle.std.proofs.Common.{◌≡◌, ◌≤◌, length, drop}
use Rattle.dt_base.specs.declared.limits.TheConstants.{MMAP_START}
use Rattle.dt_elf.specs.ProgramBreak.{segments_end}
use Rattle.dt_elf.proofs.elf.segments_end.Given as goal

abbrev pub invariant-loop-index : goal.invariant-loop-index
invariant-loop-index l = (l.index ≤ length l.segments) × (l.end ≡ segments_end (drop l.index l.segments)) × (l.end ≤ MMAP_START)

abbrev pub decreases-loop-index : goal.decreases-loop-index
decreases-loop-index l = l.index
