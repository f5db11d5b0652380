use Rattle.std.proofs.Common.{sym, ◌∙◌}
use Rattle.dt_procs.specs.Table.{members_of}
use Rattle.dt_procs.proofs.Lowest.{found-there}
use Rattle.dt_procs.proofs.pids.Pids.wait_for.Goals as goal

pub reap-requires-clause-there : goal.reap-requires-clause-there
reap-requires-clause-there g c =
    found-there (members_of c.args.self.now) c.args.parent c.args.which c.in-Got.vpid c.in-Got.field-1
    (sym c.look_for-found.ensures ∙ c.in-Got.is)
