use Rattle.std.proofs.Common.{rules}
use Rattle.dt_pipes.proofs.Held.{held_in-pipes_of}
use Rattle.dt_pipes.proofs.pipes.Pipes.get.Goals as goal

pub returns-clause-bytes : goal.returns-clause-bytes
returns-clause-bytes c = λ host. held_in-pipes_of c.args.self.now host c.args.q c.in-Some.pipe (search rules)
