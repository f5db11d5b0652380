use Rattle.std.proofs.Common.{sym, subst, refl}
use Rattle.std.specs.Prelude.{IsSome}
use Rattle.std.specs.Cmp.{nat_cmp_total}
use Rattle.std.specs.FinMap.{get, nat_cmp-IsAntisymmetric}
use Rattle.dt_tables.proofs.Maps.{get-insert_same}
use Rattle.dt_base.specs.declared.limits.TheConstants.{FIRST_PID}
use Rattle.dt_calls.specs.InCode.{ContainerView, machines_at_home}
use Rattle.dt_engine.proofs.Ending.{launched-home}
use Rattle.dt_tests_parts.proofs.container.first_segment.Goals as goal

pub take_machine-machine-requires : goal.take_machine-machine-requires
take_machine-machine-requires g c =
    launched-home _ _ c.launch.new.self (g.H.Host.view c.launch.new.host) _ c.in_ok-launch.ensures.ok c.in-Started.is

pub give_machine-requires : goal.give_machine-requires
give_machine-requires g c =
    subst (λ (v : ContainerView). IsSome (get v.places FIRST_PID)) (sym c.take_machine-machine.ensures.rest)
    (subst IsSome (sym (get-insert_same nat_cmp_total nat_cmp-IsAntisymmetric c.launch.new.self.places FIRST_PID _)) refl)

pub run_segment-requires : goal.run_segment-requires
run_segment-requires g c =
    subst (λ home. IsSome (get home FIRST_PID)) (sym c.give_machine.ensures.home)
    (subst IsSome (sym (get-insert_same nat_cmp_total nat_cmp-IsAntisymmetric (machines_at_home c.take_machine-machine.new.self.places) FIRST_PID _)) refl)
