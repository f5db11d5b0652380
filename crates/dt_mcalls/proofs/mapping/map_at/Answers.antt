use Rattle.std.proofs.Common.{◌≡◌, ◌+◌, ◌/◌, ◌≤◌, length, true, false, rules, arith}
use Rattle.dt_base.specs.declared.limits.TheConstants.{PAGE_SIZE, PAGE_LIMIT}
use Rattle.dt_space.specs.Ranges.{pages_after_unmap}
use Rattle.dt_mcalls.specs.Lengths.{is_page_start, is_past_end}
use Rattle.dt_mcalls.proofs.Others.{others-length, unmapped-free, at-full, at-free}
use Rattle.dt_mcalls.proofs.mapping.map_at.Goals as goal

-- the pages of the range are some of all
pub overflow_sub-others : goal.overflow_sub-others
overflow_sub-others c = omega (arith, others-length c.args.space.now (c.args.address / PAGE_SIZE) c.args.count, c.pages_in.ensures, c.pages-pages.ensures.count)

pub returns-then-others-count-gt-PAGE_LIMIT-clause-called : goal.returns-then-others-count-gt-PAGE_LIMIT-clause-called
returns-then-others-count-gt-PAGE_LIMIT-clause-called c =
    let start : is_page_start c.args.address ≡ true = search rules in
    let low : is_past_end (c.args.address / PAGE_SIZE) c.args.count ≡ false = search rules in
    at-full c.args.space.now c.args.address c.args.count c.args.rights start low (omega (arith, others-length c.args.space.now (c.args.address / PAGE_SIZE) c.args.count, c.pages_in.ensures, c.pages-pages.ensures.count))

pub map_free-requires-clause-free : goal.map_free-requires-clause-free
map_free-requires-clause-free c = rw c.unmap.ensures.unmapped (unmapped-free c.args.space.now (c.args.address / PAGE_SIZE) c.args.count)

-- what is mapped where the range was unmapped
pub returns-clause-called : goal.returns-clause-called
returns-clause-called c =
    let start : is_page_start c.args.address ≡ true = search rules in
    let low : is_past_end (c.args.address / PAGE_SIZE) c.args.count ≡ false = search rules in
    let few : length (pages_after_unmap c.args.space.now (c.args.address / PAGE_SIZE) c.args.count) + c.args.count ≤ PAGE_LIMIT = omega (arith, others-length c.args.space.now (c.args.address / PAGE_SIZE) c.args.count, c.pages_in.ensures, c.pages-pages.ensures.count) in
    rw (at-free c.args.space.now c.args.address c.args.count c.args.rights start low few, ← c.unmap.ensures.unmapped) c.map_free.ensures.called

pub returns-clause-memory : goal.returns-clause-memory
returns-clause-memory c =
    let start : is_page_start c.args.address ≡ true = search rules in
    let low : is_past_end (c.args.address / PAGE_SIZE) c.args.count ≡ false = search rules in
    let few : length (pages_after_unmap c.args.space.now (c.args.address / PAGE_SIZE) c.args.count) + c.args.count ≤ PAGE_LIMIT = omega (arith, others-length c.args.space.now (c.args.address / PAGE_SIZE) c.args.count, c.pages_in.ensures, c.pages-pages.ensures.count) in
    rw (at-free c.args.space.now c.args.address c.args.count c.args.rights start low few, ← c.unmap.ensures.unmapped) c.map_free.ensures.memory
