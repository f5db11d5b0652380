use Rattle.dt_tests_host.proofs.Piped.{IsPipe-puts, length-puts}
use Rattle.dt_tests_host.proofs.host.pipe.put.Goals as goal

pub returns-clause-pipe : goal.returns-clause-pipe
returns-clause-pipe c = IsPipe-puts c.args.host.now.view c.pipe_put.new.self.view c.args.pipe c.args.bytes.now c.pipe_put.result c.pipe_put.ensures.legal

pub returns-clause-most : goal.returns-clause-most
returns-clause-most c = length-puts c.args.host.now.view c.pipe_put.new.self.view c.args.pipe c.args.bytes.now c.pipe_put.result c.pipe_put.ensures.legal
