use Rattle.dt_tests_host.proofs.Piped.{IsPipe-takes_all, length-takes_all}
use Rattle.dt_tests_host.proofs.host.pipe.take_all.Goals as goal

pub returns-in_err-count-clause-pipe : goal.returns-in_err-count-clause-pipe
returns-in_err-count-clause-pipe c = IsPipe-takes_all c.args.host.now.view c.take_whole.new.host.view c.args.pipe _ _ c.take_whole.result c.take_whole.ensures.legal

pub returns-in_err-count-clause-most : goal.returns-in_err-count-clause-most
returns-in_err-count-clause-most c = length-takes_all c.args.host.now.view c.take_whole.new.host.view c.args.pipe _ _ c.take_whole.result c.take_whole.ensures.legal

pub returns-clause-pipe : goal.returns-clause-pipe
returns-clause-pipe c = IsPipe-takes_all c.args.host.now.view c.take_whole.new.host.view c.args.pipe _ _ c.take_whole.result c.take_whole.ensures.legal

pub returns-clause-most : goal.returns-clause-most
returns-clause-most c = length-takes_all c.args.host.now.view c.take_whole.new.host.view c.args.pipe _ _ c.take_whole.result c.take_whole.ensures.legal
