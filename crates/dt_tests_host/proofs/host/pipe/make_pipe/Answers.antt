use Rattle.dt_tests_host.proofs.Piped.{IsPipe-makes, length-makes}
use Rattle.dt_tests_host.proofs.host.pipe.make_pipe.Goals as goal

pub returns-clause-pipe : goal.returns-clause-pipe
returns-clause-pipe c = IsPipe-makes c.args.host.now.view c.make.new.self.view c.make.result c.make.ensures.legal

pub returns-clause-empty : goal.returns-clause-empty
returns-clause-empty c = length-makes c.args.host.now.view c.make.new.self.view c.make.result c.make.ensures.legal
