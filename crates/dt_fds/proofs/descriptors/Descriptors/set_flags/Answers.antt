use Rattle.dt_fds.proofs.descriptors.Descriptors.set_flags.Goals as goal

pub returns-in-Some-clause-nodes : goal.returns-in-Some-clause-nodes
returns-in-Some-clause-nodes c = c.flag.ensures.nodes c.args.pid
