use Rattle.std.proofs.Common.{ap, ◌∙◌, List, ℕ, get_or, refl, arith}
use Rattle.dt_elf.proofs.Touched.{put-part}
use Rattle.dt_elf.proofs.elf.Segment.put_in.Goals as goal

pub returns-then-low-high : goal.returns-then-low-high
returns-then-low-high c i within =
    ap (λ (page : List ℕ). get_or page i 0) c.overwrite.ensures ∙ put-part c.args.self.now c.args.bytes.now c.args.page.now c.args.start c.max-low.result c.min-high.result _ _ (omega arith) c.requires.placed.in_file c.max-low.ensures (rw c.file_part_end.ensures at c.min-high.ensures) c.if-low-high.true refl (omega arith) i within
