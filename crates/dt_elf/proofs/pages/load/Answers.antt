use Rattle.std.proofs.Common.{◌∙◌, ap, map, sym, arith}
use Rattle.dt_elf.specs.declared.layout.TheConstants.{SEGMENT_PAGES_END}
use Rattle.dt_elf.specs.SegmentPages.{is_segment_page, loaded_page}
use Rattle.dt_elf.proofs.Numbers.{numbers-zero, numbers-next, numbers-room}
use Rattle.dt_elf.proofs.Touched.{pages-on, pages-ends, pages-length}
use Rattle.dt_elf.proofs.pages.load.Goals as goal

pub loop-number-init : goal.loop-number-init
loop-number-init c =
    let first = c.next_page-number.ensures in
    (first.within, first.here, c.new-space.ensures ∙ sym (ap (map (loaded_page c.args.segments.now c.args.bytes.now)) (numbers-next _ 0 c.next_page-number.result first ∙ numbers-zero (is_segment_page c.args.segments.now))))

pub with_pages-requires-clause-above : goal.with_pages-requires-clause-above
with_pages-requires-clause-above c = pages-ends c.args.segments.now c.args.bytes.now c.loop-number.space c.loop-number.number c.loop-number.invariant.2

pub with_pages-requires-clause-few : goal.with_pages-requires-clause-few
with_pages-requires-clause-few c =
    let long = pages-length c.args.segments.now c.args.bytes.now c.loop-number.space c.loop-number.number c.loop-number.invariant.2 in
    let room = numbers-room (is_segment_page c.args.segments.now) c.loop-number.number SEGMENT_PAGES_END (c.loop-number.invariant.1 c.loop-number-test.true) c.loop-number-test.true in
    let few = c.requires.few in
    omega (arith, long, room, few)

pub loop-number-preserved : goal.loop-number-preserved
loop-number-preserved c =
    let next = c.next_page-number-in-loop-number.ensures in
    (next.within, next.here, pages-on c.args.segments.now c.args.bytes.now c.page_bytes-page.result c.loop-number.space c.in_ok-space.space c.loop-number.number c.next_page-number-in-loop-number.result c.page_rights.result (c.loop-number.invariant.1 c.loop-number-test.true) next c.loop-number.invariant.2 c.page_rights.ensures c.page_bytes-page.ensures c.in_ok-space.ensures.pages)
