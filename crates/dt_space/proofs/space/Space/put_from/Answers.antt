use Rattle.std.proofs.Common.{◌≡◌, ◌/◌, ◌∙◌, length, IsOk, refl}
use Rattle.dt_base.specs.declared.limits.TheConstants.{PAGE_SIZE}
use Rattle.dt_space.specs.declared.access.TheConstants.{WRITE}
use Rattle.dt_space.specs.Space.{load}
use Rattle.dt_space.specs.Write.{pages_after_write}
use Rattle.dt_space.specs.inner.Index.{IsIndex}
use Rattle.dt_space.proofs.Spaces.{IsBytes-slice, IsSpace-write}
use Rattle.dt_space.proofs.Through.{write-from}
use Rattle.dt_space.proofs.space.Space.put_from.Goals as goal

-- the bytes, one page after another
pub returns-clause-put : goal.returns-clause-put
returns-clause-put c =
    let is : IsIndex c.self.inside.pages.items (c.args.at / PAGE_SIZE) c.args.index = rw c.self.view_is c.requires.index in
    let allowed : IsOk (load c.self.inside.pages.items WRITE c.args.at (length c.args.bytes.now)) = rw c.self.view_is c.requires.allowed in
    rw (c.in_ok-put_behind.ensures.put, ← c.self.view_is) (write-from _ _ _ _ c.self.invariant c.ranges.at.fits is allowed)

pub invariant_of-self-2 : goal.invariant_of-self-2
invariant_of-self-2 c =
    let new : c.put_behind.new.pages.items ≡ pages_after_write c.self.inside.pages.items c.args.at c.args.bytes.now = returns-clause-put c ∙ rw c.self.view_is refl in
    rw new (IsSpace-write c.args.bytes.now c.self.inside.pages.items c.args.at (IsBytes-slice c.args.bytes.now (λ i. (c.type_inv.bytes i).fits)) c.self.invariant)
