use Rattle.dt_asm.proofs.Codes.{sized_more}
use Rattle.dt_asm.proofs.guest.Guest.push.Goals as goal

pub invariant_of-self-2 : goal.invariant_of-self-2
invariant_of-self-2 c = sized_more _ _ _ _ _ c.in_ok-push.ensures.items c.self.invariant c.in_ok-size.ensures
