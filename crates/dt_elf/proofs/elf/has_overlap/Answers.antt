use Rattle.std.proofs.Common.{◌≡◌, ◌-◌, ◌∙◌, true, false, arith}
use Rattle.dt_elf.proofs.Segments.{overlap-end, overlap-next}
use Rattle.dt_elf.proofs.elf.has_overlap.Goals as goal

pub loop-index-init : goal.loop-index-init
loop-index-init c = (omega arith, overlap-end c.args.segments.now)

pub loop-index-preserved-then-shares_any : goal.loop-index-preserved-then-shares_any
loop-index-preserved-then-shares_any c =
    let whole = overlap-next c.args.segments.now _ c.loop-index.index (c.loop-index.index - 1) _ _ c.loop-index.found (omega arith) c.loop-index.invariant.0 c.loop-index.invariant.1 c.split_at.ensures.back c.shares_any.ensures in
    let any : c.shares_any.result ≡ true = c.if-shares_any.true in
    (omega arith, any ∙ (rw any at whole))

pub loop-index-preserved : goal.loop-index-preserved
loop-index-preserved c =
    let whole = overlap-next c.args.segments.now _ c.loop-index.index (c.loop-index.index - 1) _ _ c.loop-index.found (omega arith) c.loop-index.invariant.0 c.loop-index.invariant.1 c.split_at.ensures.back c.shares_any.ensures in
    let any : c.shares_any.result ≡ false = c.if-shares_any.false in
    (omega arith, (rw any at whole))
