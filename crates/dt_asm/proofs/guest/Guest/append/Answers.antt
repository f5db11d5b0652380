use Rattle.std.proofs.Common.{subst}
use Rattle.dt_asm.specs.inner.Sized.{IsGrown}
use Rattle.dt_asm.proofs.Codes.{sized_more}
use Rattle.dt_asm.proofs.guest.Guest.append.Goals as goal

pub invariant_of-self-2 : goal.invariant_of-self-2
invariant_of-self-2 c =
    sized_more _ _ _ _ _ c.in_ok-append.ensures.items c.self.invariant
    (subst (λ xs. IsGrown c.self.inside.size xs c.in_ok-size.size) c.deref.ensures.value c.in_ok-size.ensures)
