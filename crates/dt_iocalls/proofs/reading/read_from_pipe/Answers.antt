use Rattle.dt_fds.proofs.Moving.{has_ends}
use Rattle.dt_iocalls.proofs.reading.read_from_pipe.Goals as goal

pub held-held-requires : goal.held-held-requires
held-held-requires g c = has_ends c.args.fs.now.files (g.H.Host.view c.args.host.now).pipes c.requires.sound.piped
