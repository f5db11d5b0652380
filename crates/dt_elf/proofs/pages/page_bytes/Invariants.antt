use Rattle.std.proofs.Common.{◌≡◌, ◌≤◌, ◌*◌, length, drop}
use Rattle.dt_base.specs.declared.limits.TheConstants.{PAGE_SIZE}
use Rattle.dt_elf.specs.SegmentPages.{loaded_bytes}
use Rattle.dt_elf.proofs.pages.page_bytes.Given as goal

abbrev pub invariant-loop-index : goal.invariant-loop-index
invariant-loop-index l = (l.index ≤ length l.segments) × (l.page ≡ loaded_bytes (drop l.index l.segments) l.bytes (PAGE_SIZE * l.number) PAGE_SIZE)

abbrev pub decreases-loop-index : goal.decreases-loop-index
decreases-loop-index l = l.index
