use Rattle.dt_calls.proofs.Tasks.{changes-raised}
use Rattle.dt_calls.proofs.shared.Shared.raise.Goals as goal

pub returns-clause-kept : goal.returns-clause-kept
returns-clause-kept c = changes-raised c.args.self.now c.raise_at.new.tasks c.args.vpid c.args.signal c.raise_at.ensures
