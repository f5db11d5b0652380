use Rattle.dt_tests_host.proofs.Piped.{IsPipe-takes, length-takes}
use Rattle.dt_tests_host.proofs.host.pipe.take.Goals as goal

pub returns-in_err-count-clause-pipe : goal.returns-in_err-count-clause-pipe
returns-in_err-count-clause-pipe c = IsPipe-takes c.args.host.now.view c.pipe_take.new.self.view c.args.pipe _ _ c.pipe_take.result c.requires c.pipe_take.ensures.legal

pub returns-in_err-count-clause-most : goal.returns-in_err-count-clause-most
returns-in_err-count-clause-most c = length-takes c.args.host.now.view c.pipe_take.new.self.view c.args.pipe _ _ c.pipe_take.result c.pipe_take.ensures.legal

pub returns-clause-pipe : goal.returns-clause-pipe
returns-clause-pipe c = IsPipe-takes c.args.host.now.view c.pipe_take.new.self.view c.args.pipe _ _ c.pipe_take.result c.requires c.pipe_take.ensures.legal

pub returns-clause-most : goal.returns-clause-most
returns-clause-most c = length-takes c.args.host.now.view c.pipe_take.new.self.view c.args.pipe _ _ c.pipe_take.result c.pipe_take.ensures.legal
