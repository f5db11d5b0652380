use Rattle.std.proofs.Common.{◌≡◌, ◌+◌, ◌*◌, ◌/◌, ◌++◌, replicate, arith}
use Rattle.dt_base.specs.declared.limits.TheConstants.{PAGE_SIZE}
use Rattle.dt_space.specs.declared.access.TheConstants.{READ, WRITE}
use Rattle.dt_space.specs.Space.{granted_rights}
use Rattle.dt_space.specs.Pages.{pages_from}
use Rattle.dt_elf.specs.declared.layout.TheConstants.{STACK_START, STACK_PAGES}
use Rattle.dt_elf.proofs.Starts.{ends-more, length-more}
use Rattle.dt_elf.proofs.ZeroPages.{zeros-joined}
use Rattle.dt_elf.proofs.first_machine.with_stack.Goals as goal

pub with_pages-requires-clause-above : goal.with_pages-requires-clause-above
with_pages-requires-clause-above c = ends-more c.args.segments c.in_ok-space.space _ _ _ _ _ c.requires.below (omega arith) c.in_ok-space.ensures

pub with_pages-requires-clause-few : goal.with_pages-requires-clause-few
with_pages-requires-clause-few c = let long = length-more c.args.segments c.in_ok-space.space _ _ _ _ c.in_ok-space.ensures in let few = c.requires.few in let within = c.requires.within in omega (arith, long, few, within)

pub with_pages-requires-2-clause-above : goal.with_pages-requires-2-clause-above
with_pages-requires-2-clause-above c =
    let whole : c.in_ok-space-2.space ≡ c.args.segments ++ pages_from (STACK_START / PAGE_SIZE) (granted_rights (READ + WRITE)) (replicate (PAGE_SIZE * c.args.stack.now.zero_pages) 0 ++ c.args.stack.now.contents.items) STACK_PAGES = zeros-joined c.args.segments c.in_ok-space.space c.in_ok-space-2.space (STACK_START / PAGE_SIZE) (granted_rights (READ + WRITE)) c.args.stack.now.zero_pages STACK_PAGES c.args.stack.now.contents.items c.deref.result.now c.requires.within c.in_ok-space.ensures c.deref.ensures.value c.in_ok-space-2.ensures.pages in
    ends-more c.args.segments c.in_ok-space-2.space _ _ _ _ _ c.requires.below (omega arith) whole

pub with_pages-requires-2-clause-few : goal.with_pages-requires-2-clause-few
with_pages-requires-2-clause-few c =
    let whole : c.in_ok-space-2.space ≡ c.args.segments ++ pages_from (STACK_START / PAGE_SIZE) (granted_rights (READ + WRITE)) (replicate (PAGE_SIZE * c.args.stack.now.zero_pages) 0 ++ c.args.stack.now.contents.items) STACK_PAGES = zeros-joined c.args.segments c.in_ok-space.space c.in_ok-space-2.space (STACK_START / PAGE_SIZE) (granted_rights (READ + WRITE)) c.args.stack.now.zero_pages STACK_PAGES c.args.stack.now.contents.items c.deref.result.now c.requires.within c.in_ok-space.ensures c.deref.ensures.value c.in_ok-space-2.ensures.pages in
    let long = length-more c.args.segments c.in_ok-space-2.space _ _ _ _ whole in
    let few = c.requires.few in
    omega (arith, long, few)

pub returns-clause-pages : goal.returns-clause-pages
returns-clause-pages c =
    let whole : c.in_ok-space-2.space ≡ c.args.segments ++ pages_from (STACK_START / PAGE_SIZE) (granted_rights (READ + WRITE)) (replicate (PAGE_SIZE * c.args.stack.now.zero_pages) 0 ++ c.args.stack.now.contents.items) STACK_PAGES = zeros-joined c.args.segments c.in_ok-space.space c.in_ok-space-2.space (STACK_START / PAGE_SIZE) (granted_rights (READ + WRITE)) c.args.stack.now.zero_pages STACK_PAGES c.args.stack.now.contents.items c.deref.result.now c.requires.within c.in_ok-space.ensures c.deref.ensures.value c.in_ok-space-2.ensures.pages in
    rw (← whole) c.with_pages-2.ensures.pages
