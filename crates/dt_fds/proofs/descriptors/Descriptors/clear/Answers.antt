use Rattle.std.proofs.Common.{◌≡◌, Some, None, cond, sym, ap, subst, ◌∙◌, arith}
use Rattle.std.specs.FinMap.{get}
use Rattle.dt_fds.specs.Descriptions.{Descriptions, slot_at, with_slot, without_slot, unreferenced}
use Rattle.dt_fds.proofs.Counting.{open-there, open-limit, counts-freed, count-freed, refers_own, test-is, freed-is, counts-alike}
use Rattle.dt_fds.proofs.descriptors.Descriptors.clear.Goals as goal

pub put_slot-requires-clause-table : goal.put_slot-requires-clause-table
unfolding slot_at
put_slot-requires-clause-table c = open-there _ c.args.pid c.args.fd c.args.slot (subst (λ f. slot_at f c.args.pid c.args.fd ≡ Some c.args.slot) (sym c.self.view_is) c.requires.here)

pub put_slot-requires-clause-within : goal.put_slot-requires-clause-within
unfolding slot_at
put_slot-requires-clause-within c = open-limit _ c.args.pid c.args.fd c.args.slot c.self.invariant.sized (subst (λ f. slot_at f c.args.pid c.args.fd ≡ Some c.args.slot) (sym c.self.view_is) c.requires.here)

pub lower-requires : goal.lower-requires
unfolding slot_at
lower-requires c =
    let at = sym c.self.view_is in
    let fell = count-freed _ c.args.pid c.args.fd c.args.slot c.self.invariant.sized
    (subst (λ f. slot_at f c.args.pid c.args.fd ≡ Some c.args.slot) at c.requires.here) c.args.slot.number in
    omega (arith, c.self.invariant.counted c.args.slot.number, refers_own c.args.slot)

pub invariant_of-self : goal.invariant_of-self
unfolding slot_at
invariant_of-self c =
    let at = sym c.self.view_is in
    let next = counts-freed _ c.self.inside.counts _ _ c.args.pid c.args.fd c.args.slot c.self.invariant
    (subst (λ f. slot_at f c.args.pid c.args.fd ≡ Some c.args.slot) at c.requires.here) in
    counts-alike _ _ _ _ _ _ c.self.inside.next c.lower.ensures.descs c.lower.ensures.counts c.put_slot.ensures next

pub returns-clause-files : goal.returns-clause-files
unfolding slot_at
returns-clause-files c =
    let at = sym c.self.view_is in
    let old : Descriptions = record { descs = c.self.inside.descs; tables = c.self.inside.tables; next = c.self.inside.next } in
    let test = test-is _ c.self.inside.counts old c.self.inside.next c.args.pid c.args.fd c.args.slot c.self.invariant
    (subst (λ f. slot_at f c.args.pid c.args.fd ≡ Some c.args.slot) at c.requires.here) in
    (λ i. record { descs = c.lower.ensures.descs i; tables = c.put_slot.ensures i; next = c.self.inside.next })
    ∙ freed-is old c.args.pid c.args.fd c.args.slot.number _ test
    ∙ ap (λ f. without_slot f c.args.pid c.args.fd c.args.slot.number) c.self.view_is

pub returns-clause-gone : goal.returns-clause-gone
unfolding slot_at unreferenced with_slot
returns-clause-gone c =
    let at = sym c.self.view_is in
    let old : Descriptions = record { descs = c.self.inside.descs; tables = c.self.inside.tables; next = c.self.inside.next } in
    let test = test-is _ c.self.inside.counts old c.self.inside.next c.args.pid c.args.fd c.args.slot c.self.invariant
    (subst (λ f. slot_at f c.args.pid c.args.fd ≡ Some c.args.slot) at c.requires.here) in
    c.lower.ensures.gone ∙ ap (λ b. cond b (get old.descs c.args.slot.number) None) test
    ∙ ap (λ f. unreferenced (with_slot f c.args.pid c.args.fd None) c.args.slot.number) c.self.view_is
