use Rattle.std.proofs.Common.{◌≡◌, ◌+◌, None, refl, sym, ap, subst, ◌∙◌}
use Rattle.std.specs.Prelude.{IsSome}
use Rattle.std.specs.FinMap.{get, remove}
use Rattle.dt_fds.specs.Descriptions.{slot_at}
use Rattle.dt_fds.proofs.Counting.{counts-entered, put_taken, next-free, counts-alike}
use Rattle.dt_fds.proofs.descriptors.Descriptors.enter.Goals as goal

pub invariant_of-self-in-Ok : goal.invariant_of-self-in-Ok
unfolding slot_at
invariant_of-self-in-Ok c =
    let at = sym c.self.view_is in
    let next = counts-entered _ c.self.inside.counts _ _ c.args.pid c.args.fd c.args.desc (record { number = c.self.inside.next; cloexec = c.args.cloexec }) c.self.invariant
    (subst (λ f. IsSome (get f.tables c.args.pid)) at c.requires.table) c.requires.within
    (subst (λ f. slot_at f c.args.pid c.args.fd ≡ None) at c.requires.free) refl c.requires.good in
    counts-alike _ _ _ _ _ _ (c.self.inside.next + 1) c.in_ok-put.ensures.ok c.in-Ok.ensures.ok c.put_slot.ensures next

pub invariant_of-self-in-Err : goal.invariant_of-self-in-Err
invariant_of-self-in-Err c =
    let n = c.self.inside.next in
    counts-alike _ _ _ _ _ _ n
    (c.take.ensures.map ∙ ap (λ m. remove m n) c.in_ok-put.ensures.ok ∙ put_taken c.self.inside.descs n c.args.desc (next-free _ c.self.inside.counts _ n c.self.invariant))
    c.in-Err.ensures.err refl c.self.invariant
