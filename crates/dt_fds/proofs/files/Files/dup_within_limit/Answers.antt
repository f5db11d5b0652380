use Rattle.std.proofs.Common.{sym, ap, subst, ◌∙◌}
use Rattle.std.specs.Prelude.{Ok}
use Rattle.dt_tree.specs.Table.{tree_of}
use Rattle.dt_fds.specs.Descriptions.{slot_at, with_duplicate}
use Rattle.dt_fds.specs.Holding.{Holding, dup_over_answer, dup_within_limit}
use Rattle.dt_fds.specs.Backs.{KeepsNodes, at, holding_at}
use Rattle.dt_fds.proofs.Ending.{counted-kept}
use Rattle.dt_fds.proofs.Backing.{KeepsNodes-with_slot, backs-kept, others-kept, KeepsOthers-then}
use Rattle.dt_fds.proofs.Counting.{open-there}
use Rattle.dt_fds.proofs.Slots.{slot-without, slot-without_other}
use Rattle.dt_fds.proofs.files.Files.dup_within_limit.Goals as goal

pub living-requires : goal.living-requires
living-requires g c =
    let h : Holding = holding_at (at c.args.self.now c.args.tree.now (g.H.Host.view c.args.host.now)) in
    record {
      here = ap (λ h. slot_at h.files c.args.pid c.args.old) c.in_ok-free_slot-in-Some.ensures.made
          ∙ slot-without_other h c.args.pid c.args.new c.args.old (slot_at c.args.self.now.descriptors c.args.pid c.args.new) c.requires.apart
          ∙ sym c.in-Some.ensures.slot;
    }

pub share-requires-clause-table : goal.share-requires-clause-table
unfolding slot_at
share-requires-clause-table g c =
    let h : Holding = holding_at (at c.args.self.now c.args.tree.now (g.H.Host.view c.args.host.now)) in
    let here = ap (λ h. slot_at h.files c.args.pid c.args.old) c.in_ok-free_slot-in-Some.ensures.made
    ∙ slot-without_other h c.args.pid c.args.new c.args.old (slot_at c.args.self.now.descriptors c.args.pid c.args.new) c.requires.apart
    ∙ sym c.in-Some.ensures.slot in
    open-there _ c.args.pid c.args.old c.in-Some.slot here

pub share-requires-clause-free : goal.share-requires-clause-free
share-requires-clause-free g c =
    let h : Holding = holding_at (at c.args.self.now c.args.tree.now (g.H.Host.view c.args.host.now)) in
    ap (λ h. slot_at h.files c.args.pid c.args.new) c.in_ok-free_slot-in-Some.ensures.made ∙ slot-without h c.args.pid c.args.new

pub returns-in_ok-share-in-Some : goal.returns-in_ok-share-in-Some
unfolding dup_within_limit
returns-in_ok-share-in-Some g c =
    let p = c.args.pid in
    let new = c.args.new in
    let h : Holding = holding_at (at c.args.self.now c.args.tree.now (g.H.Host.view c.args.host.now)) in
    let free = c.in_ok-free_slot-in-Some.ensures in
    let shared = c.in_ok-share-in-Some.ensures.files in
    let files = sym (shared ∙ ap (λ h. with_duplicate h.files p new c.in-Some.slot c.args.cloexec) free.made) in
    let tree = sym (ap (λ h. h.tree) free.made) in
    let pipes = sym (ap (λ h. h.pipes) free.made) in
    let left = tree_of c.free_slot.new.tree (g.H.Host.view c.free_slot.new.host).forest in
    let kept = subst (KeepsNodes p c.free_slot.new.self.descriptors) (sym shared) (KeepsNodes-with_slot c.free_slot.new.self.descriptors p new _) in
    record {
      made = ap (dup_over_answer h p new c.args.cloexec) (sym c.in-Some.ensures.slot) ∙ (λ i. record { answer = Ok tt; next = record { files = files i; pipes = pipes i; tree = tree i } });
      backed = record {
        stands = free.backed.stands;
        pipes = free.backed.pipes;
        ends = counted-kept p c.free_slot.new.self.descriptors _ _ kept free.backed.ends;
        backs = backs-kept p c.free_slot.new.self.descriptors _ left kept free.backed.backs;
      };
      others = KeepsOthers-then p h (holding_at (at c.free_slot.new.self c.free_slot.new.tree (g.H.Host.view c.free_slot.new.host))) _ free.others (others-kept p c.free_slot.new.self.descriptors _ left kept);
      rest = free.rest;
      cause = record { later = free.cause.later; rose = λ never. absurd never };
    }
