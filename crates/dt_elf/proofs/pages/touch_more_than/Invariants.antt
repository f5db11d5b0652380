use Rattle.std.proofs.Common.{◌≡◌, ◌≤◌, ◌<◌, ◌+◌, ◌-◌, length, true}
use Rattle.dt_elf.specs.declared.layout.TheConstants.{SEGMENT_PAGES_END}
use Rattle.dt_elf.specs.SegmentPages.{numbers_below, is_segment_page}
use Rattle.dt_elf.proofs.pages.touch_more_than.Given as goal

abbrev pub invariant-loop-number : goal.invariant-loop-number
invariant-loop-number l = (l.number ≤ SEGMENT_PAGES_END) × (l.number < SEGMENT_PAGES_END → is_segment_page l.segments l.number ≡ true) × (l.left + length (numbers_below l.number (is_segment_page l.segments)) ≡ l.fn.pages)

abbrev pub decreases-loop-number : goal.decreases-loop-number
decreases-loop-number l = SEGMENT_PAGES_END - l.number
