use Rattle.std.proofs.Common.{◌≡◌, ◌==◌, false, ◌++◌, arith, sym, ap, subst, ◌∙◌, length, take, drop}
use Rattle.std.proofs.lemmas.Bool.Decides.{nat_tests}
use Rattle.std.specs.Prelude.{IsSome, Ok, min, if◌then◌else◌}
use Rattle.std.specs.FinMap.{get, insert}
use Rattle.dt_tree.specs.Table.{tree_of}
use Rattle.dt_pipes.specs.Table.{pipes_of}
use Rattle.dt_pipes.proofs.Held.{has-pipes_of}
use Rattle.dt_fds.specs.Descriptions.{description_at, writers}
use Rattle.dt_fds.specs.OpenFiles.{pipes_at}
use Rattle.dt_fds.specs.Pipes.{pipe_content, with_pipe_content, empty_read_flow}
use Rattle.dt_fds.specs.Holding.{holding_of, files_answer, pipe_read_call, bytes_read}
use Rattle.dt_fds.specs.declared.flow.Flow.TheVariants.{Moved}
use Rattle.dt_fds.specs.Backs.{at, holding_at}
use Rattle.dt_fds.proofs.Ending.{of-described, read-there, read-by, held-by}
use Rattle.dt_fds.proofs.Piped.{no_zero, backed-piped, others-piped, does-piped, if_ok, nothing-came, came}
use Rattle.dt_fds.proofs.files.Files.pipe_read.Goals as goal

pub held-requires : goal.held-requires
held-requires g c =
    let f = c.args.self.now in
    let host = (g.H.Host.view c.args.host.now).pipes in
    let found = description_at f.descriptors c.args.pid c.args.fd in
    sym (has-pipes_of f.pipes host c.in-Some.q)
    ∙ read-there found c.in-Some.q c.in-Some.nonblock (λ q. IsSome (get (pipes_of f.pipes host) q)) (of-described f.descriptors c.args.pid c.args.fd (λ q. IsSome (get (pipes_of f.pipes host) q)) c.requires.there) (sym c.in-Some.ensures)

pub take-requires-clause-there : goal.take-requires-clause-there
take-requires-clause-there g c =
    let f = c.args.self.now in
    let host = (g.H.Host.view c.args.host.now).pipes in
    let found = description_at f.descriptors c.args.pid c.args.fd in
    sym (has-pipes_of f.pipes host c.in-Some.q)
    ∙ read-there found c.in-Some.q c.in-Some.nonblock (λ q. IsSome (get (pipes_of f.pipes host) q)) (of-described f.descriptors c.args.pid c.args.fd (λ q. IsSome (get (pipes_of f.pipes host) q)) c.requires.there) (sym c.in-Some.ensures)

pub returns-then-held-eq0-clause-bytes : goal.returns-then-held-eq0-clause-bytes
unfolding bytes_read
returns-then-held-eq0-clause-bytes g c = λ table.
    let f = c.args.self.now in
    let world = g.H.Host.view c.args.host.now in
    let h = holding_at (at f table world) in
    let found = description_at f.descriptors c.args.pid c.args.fd in
    let held = held-by h found c.in-Some.q c.in-Some.nonblock (sym c.in-Some.ensures) in
    let count = c.held.ensures.count world.pipes c.requires.stands in
    let none : c.held.result ≡ 0 = grind (arith, nat_tests) in
    if_ok c.empty_read_flow.result (nothing-came (length c.args.buf.now) _ c.args.buf.now (ap length held ∙ sym count ∙ none))

pub returns-clause-bytes : goal.returns-clause-bytes
unfolding bytes_read
returns-clause-bytes g c = λ table.
    let f = c.args.self.now in
    let world = g.H.Host.view c.args.host.now in
    let h = holding_at (at f table world) in
    let found = description_at f.descriptors c.args.pid c.args.fd in
    let held = held-by h found c.in-Some.q c.in-Some.nonblock (sym c.in-Some.ensures) in
    let takes = c.in_ok-count.ensures.takes in
    subst (λ bytes. c.take.new.buf ≡ take (length c.args.buf.now) bytes ++ drop (length (take (length c.args.buf.now) bytes)) c.args.buf.now) (sym held)
    (came (length c.args.buf.now) c.in_ok-count.count (pipe_content h.pipes c.in-Some.q) c.args.buf.now c.take.new.buf takes.most takes.prefix)

pub returns-clause-call : goal.returns-clause-call
unfolding pipe_read_call
returns-clause-call g c = λ t.
    let f = c.args.self.now in
    let world = g.H.Host.view c.args.host.now in
    let h = holding_of t (pipes_at f world.pipes) f.descriptors in
    let found = description_at f.descriptors c.args.pid c.args.fd in
    let q = c.in-Some.q in
    let bytes = pipe_content h.pipes q in
    let takes = c.in_ok-count.ensures.takes in
    let took = c.in_ok-count.ensures in
    let count = c.held.ensures.count world.pipes c.requires.stands in
    let some : (length bytes == 0) ≡ false = no_zero (length bytes) (λ none. c.if-held-eq0.false (count ∙ none)) in
    let most = min (length c.args.buf.now) (length bytes) in
    let contents = takes.left ∙ ap (λ n. insert (pipes_of f.pipes world.pipes) q (drop n bytes)) takes.most in
    read-by h (length c.args.buf.now) found q c.in-Some.nonblock (sym c.in-Some.ensures)
    ∙ ap (λ b. if b then record { answer = empty_read_flow (writers f.descriptors q) c.in-Some.nonblock; next = h } else files_answer (record h { pipes = with_pipe_content h.pipes q (drop most bytes) }) (Moved most)) some
    ∙ (λ i. record { answer = Ok (Moved (sym takes.most i)); next = holding_of t (record { contents = sym contents i; next = sym took.next i }) f.descriptors })

pub returns-clause-makes : goal.returns-clause-makes
returns-clause-makes g c = λ table backed.
    let f = c.args.self.now in
    let world = g.H.Host.view c.args.host.now in
    let now = g.H.Host.view c.take.new.host in
    let took = c.in_ok-count.ensures in
    record {
      made = does-piped f c.take.new.self world now table backed took.stands took.there took.rest (Ok (Moved c.in_ok-count.count)) _ (returns-clause-call g c (tree_of table world.forest));
      backed = backed-piped f c.take.new.self world now table backed took.stands took.there took.rest;
      others = others-piped f c.take.new.self world now table backed took.stands took.there took.rest c.args.pid;
      rest = took.rest.pids;
      cause = record { later = took.cause.later; rose = λ never. absurd never };
    }
