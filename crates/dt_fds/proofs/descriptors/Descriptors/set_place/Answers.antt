use Rattle.std.proofs.Common.{◌≡◌, sym, subst}
use Rattle.std.specs.Prelude.{IfSome}
use Rattle.std.specs.Option.{option_and_then}
use Rattle.dt_fds.specs.Descriptions.{slot_description, description_at, is_after, is_of_dir}
use Rattle.dt_fds.proofs.descriptors.Descriptors.set_place.Goals as goal

pub move_to-requires-clause-kind : goal.move_to-requires-clause-kind
unfolding description_at
move_to-requires-clause-kind c =
    subst (λ found. IfSome (option_and_then (slot_description c.args.self.now) found) (λ desc. is_after c.args.spot ≡ is_of_dir desc.kind)) (sym c.in-Some.ensures.slot) c.requires

pub returns-in-Some-clause-nodes : goal.returns-in-Some-clause-nodes
returns-in-Some-clause-nodes c = c.move_to.ensures.nodes c.args.pid
