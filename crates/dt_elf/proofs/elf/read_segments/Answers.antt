use Rattle.std.proofs.Common.{◌<◌, ◌≤◌, ◌∙◌, sym, append-nil, arith}
use Rattle.dt_elf.specs.Header.{e_phnum}
use Rattle.dt_elf.proofs.Headers.{load_segments-start, load_segments-next, load_segments-passed, load_segments-end, table-keep}
use Rattle.dt_elf.proofs.elf.read_segments.Goals as goal
use Rattle.dt_elf.proofs.elf.read_segments.Goals.{then-is_load, else-is_load}

pub loop-index-init : goal.loop-index-init
loop-index-init c = (omega arith, omega arith, load_segments-start c.args.bytes.now)

pub loop-index-preserved : goal.loop-index-preserved
loop-index-preserved c =
    let lt : c.loop-index.index < e_phnum c.args.bytes.now = rw (← c.phnum-index-end.ensures) c.loop-index-test.true in
    let bytes = c.args.bytes.now in
    elim c.if-is_load.branch [
      | then-is_load w ↦
          let next = load_segments-next bytes c.loop-index.index c.read_header-header.result lt c.read_header-header.ensures (sym c.is_load.ensures ∙ w.if-is_load.true) in
          (c.if-is_load.array_long, omega (arith, w.count-is), rw (w.table-is, w.count-is, w.segment.ensures) (table-keep c.loop-index.table c.loop-index.count _ _ _ _ (omega arith) c.loop-index.invariant.2 next))
      | else-is_load w ↦
          let next = load_segments-passed bytes c.loop-index.index c.read_header-header.result lt c.read_header-header.ensures (sym c.is_load.ensures ∙ w.if-is_load.false) in
          (c.if-is_load.array_long, omega (arith, w.count-is), rw (w.table-is, w.count-is) (rw next at c.loop-index.invariant.2))
    ]

pub returns-clause-segments : goal.returns-clause-segments
returns-clause-segments c =
    let all : e_phnum c.args.bytes.now ≤ c.loop-index.index = rw (← c.phnum-index-end.ensures) c.loop-index-test.false in
    sym (append-nil _) ∙ (rw (load_segments-end c.args.bytes.now c.loop-index.index all) at c.loop-index.invariant.2)
