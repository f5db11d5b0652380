use Rattle.std.proofs.Common.{sym, subst}
use Rattle.std.specs.Prelude.{IsSome}
use Rattle.std.specs.FinMap.{get}
use Rattle.dt_base.specs.declared.limits.TheConstants.{FIRST_PID}
use Rattle.dt_calls.specs.InCode.{ContainerView}
use Rattle.dt_calls.specs.Sound.{IsSoundContainer}
use Rattle.dt_calls.proofs.Serving.{launches}
use Rattle.dt_calls.proofs.container.Container.launch.Goals as goal

pub start_task-requires : goal.start_task-requires
start_task-requires g c = subst (λ (v : ContainerView). IsSome (get v.shared.tasks FIRST_PID)) (sym c.self.view_is) c.requires.lives.task

pub counted-requires-clause-paired : goal.counted-requires-clause-paired
counted-requires-clause-paired g c =
    let new = launches _ c.args.self.now (g.H.Host.view c.args.host.now) c.in-Ok.program.machine c.in-Ok.program.break_start c.start_task.new.tasks _ _
    c.requires.sound c.self.view_is c.requires.lives.task c.start_task.ensures c.give_machine.ensures.rest in
    new.paired

pub counted-requires-clause-live : goal.counted-requires-clause-live
counted-requires-clause-live g c =
    let new = launches _ c.args.self.now (g.H.Host.view c.args.host.now) c.in-Ok.program.machine c.in-Ok.program.break_start c.start_task.new.tasks _ _
    c.requires.sound c.self.view_is c.requires.lives.task c.start_task.ensures c.give_machine.ensures.rest in
    new.shared.lives

pub returns-in-Ok-clause-sound : goal.returns-in-Ok-clause-sound
returns-in-Ok-clause-sound g c =
    let new = launches _ c.args.self.now (g.H.Host.view c.args.host.now) c.in-Ok.program.machine c.in-Ok.program.break_start c.start_task.new.tasks _ _
    c.requires.sound c.self.view_is c.requires.lives.task c.start_task.ensures c.give_machine.ensures.rest in
    subst (IsSoundContainer c.give_machine.new.self) (sym c.start_program.ensures.asks.stays)
    (record { shared = new.shared; paired = new.paired; few = c.counted.ensures })
