use Rattle.std.proofs.Common.{◌≡◌, ◌+◌, ◌-◌, get_or, max, arith}
use Rattle.std.proofs.lemmas.Bool.Decides.{nat_tests}
use Rattle.dt_elf.specs.declared.elf.Segment.{Segment}
use Rattle.dt_elf.proofs.Segments.{end-none, end-more}
use Rattle.dt_elf.proofs.elf.segments_end.Goals as goal

pub loop-index-init : goal.loop-index-init
loop-index-init c = (omega arith, end-none c.args.segments.now, omega arith)

pub loop-index-preserved : goal.loop-index-preserved
loop-index-preserved c =
    let none : Segment = record { vaddr = 0; memsz = 0; offset = 0; filesz = 0; rights = 0 } in
    let segment = get_or c.args.segments.now (c.loop-index.index - 1) none in
    let greater : c.max-end.result ≡ max c.loop-index.end (segment.vaddr + segment.memsz) = grind (arith, nat_tests, c.max-end.ensures) in
    let low = c.requires (c.loop-index.index - 1) none (omega arith) in
    (omega arith, end-more c.args.segments.now c.loop-index.index (c.loop-index.index - 1) c.loop-index.end c.max-end.result none (omega arith) c.loop-index.invariant.0 c.loop-index.invariant.1 greater, omega (arith, greater, low, c.loop-index.invariant.2))
