use Rattle.dt_procs.specs.Members.{vpids_of}
use Rattle.dt_procs.specs.Table.{members_of}
use Rattle.dt_calls.proofs.Fired.{changes-timers}
use Rattle.dt_calls.proofs.shared.Shared.fire.Goals as goal

pub returns-clause-kept : goal.returns-clause-kept
returns-clause-kept c =
    let vpids = vpids_of (members_of c.args.self.now.pids) in
    changes-timers c.args.self.now c.fire_each.new.tasks c.ticks.result vpids c.fire_each.ensures
