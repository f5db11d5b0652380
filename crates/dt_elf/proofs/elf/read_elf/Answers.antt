use Rattle.std.proofs.Common.{◌∙◌, sym, subst, List}
use Rattle.dt_elf.specs.declared.elf.Segment.{Segment}
use Rattle.dt_elf.specs.Header.{load_segments}
use Rattle.dt_elf.proofs.Refusals.{IsFit, refusal-is, fit, are-placed, ends-low}
use Rattle.dt_elf.specs.Placed.{ArePlaced}
use Rattle.dt_elf.proofs.elf.read_elf.Goals as goal

pub returns-in-Some-clause-exact : goal.returns-in-Some-clause-exact
returns-in-Some-clause-exact c = refusal-is c.args.bytes.now c.in-Some.refusal (sym c.refusal.ensures ∙ c.in-Some.is)

pub read_segments-count-requires-clause-few : goal.read_segments-count-requires-clause-few
read_segments-count-requires-clause-few c = let good : IsFit c.args.bytes.now = fit c.args.bytes.now (sym c.refusal.ensures ∙ c.in_default.is) in good.few

pub table_address-requires-clause-placed : goal.table_address-requires-clause-placed
table_address-requires-clause-placed c =
    let good : IsFit c.args.bytes.now = fit c.args.bytes.now (sym c.refusal.ensures ∙ c.in_default.is) in
    subst (λ (segments : List Segment). ArePlaced c.args.bytes.now segments) (sym c.read_segments-count.ensures.segments) (are-placed c.args.bytes.now (load_segments c.args.bytes.now) good.placed)

pub returns-clause-low : goal.returns-clause-low
returns-clause-low c =
    let good : IsFit c.args.bytes.now = fit c.args.bytes.now (sym c.refusal.ensures ∙ c.in_default.is) in
    rw (c.in_ok-extend_from_slice.ensures.items, c.new-segments.ensures.items, c.read_segments-count.ensures.segments) (ends-low c.args.bytes.now (load_segments c.args.bytes.now) good.placed)
