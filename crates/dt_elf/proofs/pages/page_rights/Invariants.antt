use Rattle.std.proofs.Common.{◌≡◌, ◌≤◌, length, drop}
use Rattle.dt_elf.specs.SegmentPages.{page_rights}
use Rattle.dt_elf.proofs.pages.page_rights.Given as goal

abbrev pub invariant-loop-index : goal.invariant-loop-index
invariant-loop-index l = (l.index ≤ length l.segments) × (l.rights ≡ page_rights (drop l.index l.segments) l.number)

abbrev pub decreases-loop-index : goal.decreases-loop-index
decreases-loop-index l = l.index
