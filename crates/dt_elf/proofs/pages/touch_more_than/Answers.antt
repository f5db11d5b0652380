use Rattle.std.proofs.Common.{◌∙◌, ap, length, arith}
use Rattle.std.proofs.lemmas.Bool.Decides.{nat_tests}
use Rattle.dt_elf.specs.declared.layout.TheConstants.{SEGMENT_PAGES_END}
use Rattle.dt_elf.specs.SegmentPages.{is_segment_page}
use Rattle.dt_elf.proofs.Numbers.{numbers-zero, numbers-next, numbers-room, numbers-grown}
use Rattle.dt_elf.proofs.pages.touch_more_than.Goals as goal

pub loop-number-init : goal.loop-number-init
loop-number-init c =
    let first = c.next_page-number.ensures in
    let none = ap length (numbers-next _ 0 c.next_page-number.result first ∙ numbers-zero (is_segment_page c.args.segments.now)) in
    (first.within, first.here, omega (arith, none))

pub returns-then-left-eq0 : goal.returns-then-left-eq0
returns-then-left-eq0 c =
    let more = numbers-room (is_segment_page c.args.segments.now) c.loop-number.number SEGMENT_PAGES_END (c.loop-number.invariant.1 c.loop-number-test.true) c.loop-number-test.true in
    let empty = c.if-left-eq0.true in
    let sofar = c.loop-number.invariant.2 in
    grind (arith, nat_tests, more, empty, sofar)

pub loop-number-preserved : goal.loop-number-preserved
loop-number-preserved c =
    let next = c.next_page-number-in-loop-number.ensures in
    let grown = numbers-grown (is_segment_page c.args.segments.now) c.loop-number.number c.next_page-number-in-loop-number.result (c.loop-number.invariant.1 c.loop-number-test.true) next in
    let sofar = c.loop-number.invariant.2 in
    (next.within, next.here, omega (arith, grown, sofar))
