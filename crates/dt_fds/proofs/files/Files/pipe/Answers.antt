use Rattle.std.proofs.Common.{sym, ap, ◌∙◌}
use Rattle.dt_fds.specs.OpenFiles.{pipes_at}
use Rattle.dt_fds.specs.Holding.{holding_of, files_answer, pipe_ends_reply, pipe_call}
use Rattle.dt_fds.proofs.files.Files.pipe.Goals as goal

pub returns-clause-call : goal.returns-clause-call
unfolding pipe_call
returns-clause-call g c = λ t.
    let f = c.args.self.now in
    let h = holding_of t (pipes_at f (g.H.Host.view c.args.host.now).pipes) f.descriptors in
    ap (pipe_ends_reply h c.args.pid c.args.flags) (sym c.in-Some.ensures.value)
    ∙ ap (λ next. files_answer next (c.in-Some.read, c.in-Some.write)) (sym (c.in_ok-open_pipe.ensures.opened t))
