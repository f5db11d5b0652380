use Rattle.std.proofs.Common.{sym, ap, ◌∙◌}
use Rattle.std.specs.Prelude.{IsSome}
use Rattle.std.specs.FinMap.{get}
use Rattle.dt_fds.specs.Descriptions.{description_at}
use Rattle.dt_fds.specs.Pipes.{transfer_count}
use Rattle.dt_fds.proofs.Ending.{of-described, write-there}
use Rattle.dt_fds.proofs.Moving.{moves-nowhere, moves-read, moves-unread}
use Rattle.dt_fds.proofs.files.Files.pipe_transfer_count.Goals as goal

pub held-requires : goal.held-requires
held-requires c =
    let f = c.args.self.now in
    let found = description_at f.descriptors c.args.pid c.args.fd in
    write-there found c.in-Some.q _ (λ q. IsSome (get f.pipes.pipes q))
    (of-described f.descriptors c.args.pid c.args.fd (λ q. IsSome (get f.pipes.pipes q)) c.requires.ends) (sym c.in-Some.ensures)

pub returns-in_default-clause-value : goal.returns-in_default-clause-value
returns-in_default-clause-value c = λ pipes piped.
    sym (moves-nowhere c.args.self.now pipes c.args.pid c.args.fd c.args.whole c.args.done (sym c.writes_to.ensures ∙ c.in_default.is))

pub returns-then-not-is_read-clause-value : goal.returns-then-not-is_read-clause-value
returns-then-not-is_read-clause-value c = λ pipes piped.
    sym (moves-unread c.args.self.now pipes c.args.pid c.args.fd c.args.whole c.args.done c.in-Some.q _ piped (sym c.in-Some.ensures) (sym c.is_read.ensures ∙ c.if-not-is_read.true))

pub returns-clause-value : goal.returns-clause-value
returns-clause-value c = λ pipes piped.
    c.transfer_count.ensures.value ∙ ap (λ n. transfer_count n c.args.whole c.args.done) (c.held.ensures.count pipes piped.stands)
    ∙ sym (moves-read c.args.self.now pipes c.args.pid c.args.fd c.args.whole c.args.done c.in-Some.q _ piped (sym c.in-Some.ensures) (sym c.is_read.ensures ∙ c.if-not-is_read.false))
