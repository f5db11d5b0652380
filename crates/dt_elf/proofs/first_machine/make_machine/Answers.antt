use Rattle.std.proofs.Common.{◌<◌, ◌^◌, arith}
use Rattle.dt_elf.specs.declared.layout.TheConstants.{SEGMENT_PAGES_END}
use Rattle.dt_space.specs.Pages.{EndsBelow}
use Rattle.dt_elf.proofs.Starts.{is_machine}
use Rattle.dt_elf.proofs.Touched.{pages-ends}
use Rattle.dt_elf.proofs.first_machine.make_machine.Goals as goal

pub with_stack-requires-clause-below : goal.with_stack-requires-clause-below
with_stack-requires-clause-below c =
    let low : EndsBelow c.in_ok-segments.segments SEGMENT_PAGES_END = pages-ends c.deref.result.now c.args.bytes.now c.in_ok-segments.segments SEGMENT_PAGES_END c.in_ok-segments.ensures in
    λ i d within. omega (arith, low i d within)

pub returns-clause-sound : goal.returns-clause-sound
returns-clause-sound c =
    let pointer = c.in_ok-stack.ensures.pointer in
    let low : c.in_ok-stack.stack.pointer < 2 ^ 64 = omega (arith, pointer) in
    rw c.from.ensures (is_machine c.in_ok-stack.stack.pointer c.args.elf.now.entry c.in_ok-space.space c.args.atomics low c.requires.entry c.in_ok-space.ensures.sound)
