use Rattle.dt_tests_host.proofs.Piped.{IsPipe-puts_all, length-puts_all}
use Rattle.dt_tests_host.proofs.host.pipe.put_all.Goals as goal

pub returns-clause-pipe : goal.returns-clause-pipe
returns-clause-pipe c = IsPipe-puts_all c.args.host.now.view c.put_whole.new.host.view c.args.pipe c.args.bytes.now c.put_whole.result c.put_whole.ensures.legal

pub returns-clause-most : goal.returns-clause-most
returns-clause-most c = length-puts_all c.args.host.now.view c.put_whole.new.host.view c.args.pipe c.args.bytes.now c.put_whole.result c.put_whole.ensures.legal
