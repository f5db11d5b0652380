use Rattle.std.proofs.Common.{refl}
use Rattle.dt_fds.proofs.Moving.{has_ends, piece-cut}
use Rattle.dt_fds.proofs.files.Files.pipe_write.Goals as goal

pub pipe_transfer_count-moved-requires-clause-ends : goal.pipe_transfer_count-moved-requires-clause-ends
pipe_transfer_count-moved-requires-clause-ends g c = has_ends c.args.self.now (g.H.Host.view c.args.host.now).pipes c.requires.piped

pub returns-clause-makes : goal.returns-clause-makes
returns-clause-makes g c = λ table backed.
    c.pipe_write_part.ensures.makes table c.args.bytes.now backed refl
    (piece-cut c.args.done c.pipe_transfer_count-moved.result c.args.bytes.now _ _ c.split_at.ensures.back c.split_at-2.ensures.front c.split_at-2.ensures.front_len)

pub returns-clause-call : goal.returns-clause-call
returns-clause-call g c = λ t.
    c.pipe_write_part.ensures.call t c.args.bytes.now refl
    (piece-cut c.args.done c.pipe_transfer_count-moved.result c.args.bytes.now _ _ c.split_at.ensures.back c.split_at-2.ensures.front c.split_at-2.ensures.front_len)
