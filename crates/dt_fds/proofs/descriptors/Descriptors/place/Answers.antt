use Rattle.std.proofs.Common.{◌≡◌, None, refl, sym, subst}
use Rattle.std.specs.Prelude.{IsSome}
use Rattle.std.specs.FinMap.{get}
use Rattle.dt_fds.specs.Descriptions.{slot_at}
use Rattle.dt_fds.proofs.Counting.{counts-with_slot, counts-alike}
use Rattle.dt_fds.proofs.descriptors.Descriptors.place.Goals as goal

pub invariant_of-self-2 : goal.invariant_of-self-2
unfolding slot_at
invariant_of-self-2 c =
    let at = sym c.self.view_is in
    let next = counts-with_slot _ c.self.inside.counts _ _ c.args.pid c.args.fd c.args.slot c.self.invariant
    (subst (λ f. IsSome (get f.tables c.args.pid)) at c.requires.table) c.requires.within
    (subst (λ f. slot_at f c.args.pid c.args.fd ≡ None) at c.requires.free)
    (subst (λ f. IsSome (get f.descs c.args.slot.number)) at c.requires.living) in
    counts-alike _ _ _ _ _ _ c.self.inside.next refl c.in_ok-raise.ensures.ok c.put_slot.ensures next
