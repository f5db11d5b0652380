use Rattle.std.proofs.Common.{◌≡◌, arith}
use Rattle.dt_base.specs.declared.refusal.Refusal.TheVariants.{BadIndex}
use Rattle.dt_image.proofs.Images.{too_long}
use Rattle.dt_image.proofs.image.index_bytes.Goals as goal

pub returns-in-Some-clause-refused : goal.returns-in-Some-clause-refused
returns-in-Some-clause-refused g c = λ r e.
    let same : BadIndex ≡ r = cc in
    rw (← same) (too_long (g.S.Store.told c.args.store.now) c.args.name.now c.in-Some.size (rw c.in-Some.is at c.in_ok-size_in.ensures.ok) (omega arith))
