use Rattle.std.proofs.Common.{◌≡◌, Some, refl, sym, ap, subst, ◌∙◌}
use Rattle.dt_fds.specs.Descriptions.{slot_at, with_duplicate, with_slot}
use Rattle.dt_fds.specs.Backs.{KeepsNodes}
use Rattle.dt_fds.proofs.Counting.{open-there, open-limit, counts-marked, counts-alike, tables-same}
use Rattle.dt_fds.proofs.Backing.{KeepsNodes-with_slot}
use Rattle.dt_fds.proofs.descriptors.Descriptors.mark.Goals as goal

pub put_slot-requires-clause-table : goal.put_slot-requires-clause-table
unfolding slot_at
put_slot-requires-clause-table c = open-there _ c.args.pid c.args.fd c.args.slot (subst (λ f. slot_at f c.args.pid c.args.fd ≡ Some c.args.slot) (sym c.self.view_is) c.requires.here)

pub put_slot-requires-clause-within : goal.put_slot-requires-clause-within
unfolding slot_at
put_slot-requires-clause-within c = open-limit _ c.args.pid c.args.fd c.args.slot c.self.invariant.sized (subst (λ f. slot_at f c.args.pid c.args.fd ≡ Some c.args.slot) (sym c.self.view_is) c.requires.here)

pub invariant_of-self : goal.invariant_of-self
unfolding slot_at
invariant_of-self c =
    counts-alike _ _ _ _ _ _ c.self.inside.next refl refl c.put_slot.ensures
    (counts-marked _ c.self.inside.counts _ _ c.args.pid c.args.fd c.args.slot (record { number = c.args.slot.number; cloexec = c.args.cloexec }) c.self.invariant
    (subst (λ f. slot_at f c.args.pid c.args.fd ≡ Some c.args.slot) (sym c.self.view_is) c.requires.here) refl)

pub returns-clause-files : goal.returns-clause-files
unfolding with_slot
returns-clause-files c = tables-same _ _ _ _ c.put_slot.ensures ∙ ap (λ f. with_duplicate f c.args.pid c.args.fd c.args.slot c.args.cloexec) c.self.view_is

pub returns-clause-nodes : goal.returns-clause-nodes
returns-clause-nodes c = subst (KeepsNodes c.args.pid c.args.self.now) (sym (returns-clause-files c)) (KeepsNodes-with_slot c.args.self.now c.args.pid c.args.fd _)
