use Rattle.std.proofs.Common.{◌≡◌, ◌≤◌, length, drop}
use Rattle.dt_elf.specs.Executable.{has_overlap}
use Rattle.dt_elf.proofs.elf.has_overlap.Given as goal

abbrev pub invariant-loop-index : goal.invariant-loop-index
invariant-loop-index l = (l.index ≤ length l.segments) × (l.found ≡ has_overlap (drop l.index l.segments))

abbrev pub decreases-loop-index : goal.decreases-loop-index
decreases-loop-index l = l.index
