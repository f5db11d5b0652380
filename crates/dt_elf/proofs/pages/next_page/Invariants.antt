use Rattle.std.proofs.Common.{◌≤◌, length, drop}
use Rattle.dt_elf.specs.SegmentPages.{is_segment_page}
use Rattle.dt_elf.specs.inner.Next.{IsNext}
use Rattle.dt_elf.proofs.pages.next_page.Given as goal

abbrev pub invariant-loop-index : goal.invariant-loop-index
invariant-loop-index l = (l.index ≤ length l.segments) × IsNext (is_segment_page (drop l.index l.segments)) l.from l.next

abbrev pub decreases-loop-index : goal.decreases-loop-index
decreases-loop-index l = l.index
