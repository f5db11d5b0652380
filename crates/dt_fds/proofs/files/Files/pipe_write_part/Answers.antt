use Rattle.std.proofs.Common.{◌≡◌, ◌==◌, ◌+◌, ◌≤◌, ◌++◌, false, sym, ap, subst, ◌∙◌, length, take, drop}
use Rattle.std.specs.Prelude.{IsSome, not, if◌then◌else◌}
use Rattle.std.specs.FinMap.{get, insert}
use Rattle.dt_base.specs.declared.limits.TheConstants.{PIPE_LIMIT}
use Rattle.dt_tree.specs.Table.{tree_of}
use Rattle.dt_pipes.specs.Table.{pipes_of}
use Rattle.dt_pipes.proofs.Held.{has-pipes_of}
use Rattle.dt_fds.specs.Descriptions.{description_at, readers}
use Rattle.dt_fds.specs.OpenFiles.{pipes_at}
use Rattle.dt_fds.specs.Pipes.{pipe_content, transfer_count, write_flow}
use Rattle.dt_fds.specs.Holding.{holding_of, files_answer, write_to_read_pipe, pipe_write_call}
use Rattle.dt_fds.specs.declared.flow.Flow.TheVariants.{Broken}
use Rattle.dt_fds.proofs.Ending.{of-described, write-there, write-by, none-if}
use Rattle.dt_fds.proofs.Moving.{goes-left, goes-room, held-within, moves-read}
use Rattle.dt_fds.proofs.Piped.{backed-piped, others-piped, does-piped, does-as, unless-as, never-as}
use Rattle.dt_fds.proofs.files.Files.pipe_write_part.Goals as goal

pub put-requires-clause-there : goal.put-requires-clause-there
put-requires-clause-there g c =
    let f = c.args.self.now in
    let host = (g.H.Host.view c.args.host.now).pipes in
    let found = description_at f.descriptors c.args.pid c.args.fd in
    sym (has-pipes_of f.pipes host c.in-Some.q)
    ∙ write-there found c.in-Some.q c.in-Some.nonblock (λ q. IsSome (get (pipes_of f.pipes host) q)) (of-described f.descriptors c.args.pid c.args.fd (λ q. IsSome (get (pipes_of f.pipes host) q)) c.requires.piped.there) (sym c.in-Some.ensures)

pub put-requires-clause-fits : goal.put-requires-clause-fits
put-requires-clause-fits g c =
    let f = c.args.self.now in
    let host = (g.H.Host.view c.args.host.now).pipes in
    let old = pipe_content (pipes_at f host) c.in-Some.q in
    let moved = c.requires.moves ∙ moves-read f host c.args.pid c.args.fd c.args.whole c.args.done c.in-Some.q c.in-Some.nonblock c.requires.piped (sym c.in-Some.ensures) (sym c.is_read.ensures ∙ c.if-not-is_read.false) in
    subst (λ n. length old + n ≤ PIPE_LIMIT) (sym moved) (goes-room (length old) c.args.whole c.args.done (held-within f.pipes host c.in-Some.q c.requires.piped.stands))

pub write_flow-requires : goal.write_flow-requires
write_flow-requires g c =
    let f = c.args.self.now in
    let host = (g.H.Host.view c.args.host.now).pipes in
    let old = pipe_content (pipes_at f host) c.in-Some.q in
    let moved = c.requires.moves ∙ moves-read f host c.args.pid c.args.fd c.args.whole c.args.done c.in-Some.q c.in-Some.nonblock c.requires.piped (sym c.in-Some.ensures) (sym c.is_read.ensures ∙ c.if-not-is_read.false) in
    subst (λ n. c.args.done + n ≤ c.args.whole) (sym moved) (goes-left (length old) c.args.whole c.args.done c.requires.within)

pub returns-clause-call : goal.returns-clause-call
unfolding pipe_write_call
returns-clause-call g c = λ t bytes sized part.
    let f = c.args.self.now in
    let world = g.H.Host.view c.args.host.now in
    let h = holding_of t (pipes_at f world.pipes) f.descriptors in
    let found = description_at f.descriptors c.args.pid c.args.fd in
    let q = c.in-Some.q in
    let nonblock = c.in-Some.nonblock in
    let piece = c.args.piece.now in
    let old = pipe_content h.pipes q in
    let whole = c.args.whole in
    let put = c.in_ok-put.ensures in
    let answer = write_flow whole c.args.done (length piece) nonblock in
    let read : (readers f.descriptors q == 0) ≡ false = none-if (readers f.descriptors q) _ (c.requires.piped.counted.reading q) ∙ ap not (sym c.is_read.ensures ∙ c.if-not-is_read.false) in
    let moved = c.requires.moves ∙ moves-read f world.pipes c.args.pid c.args.fd whole c.args.done q nonblock c.requires.piped (sym c.in-Some.ensures) (sym c.is_read.ensures ∙ c.if-not-is_read.false) in
    does-as answer c.write_flow.result _ _ c.write_flow.ensures (write-by h bytes c.args.done found q nonblock (sym c.in-Some.ensures)
    ∙ ap (λ b. if b then files_answer h (Broken c.args.done) else write_to_read_pipe h nonblock bytes c.args.done q) read
    ∙ ap (λ n. record {
      answer = write_flow n c.args.done (transfer_count (length old) n c.args.done) nonblock;
      next = record h { pipes = record h.pipes { contents = insert (pipes_of f.pipes world.pipes) q (old ++ take (transfer_count (length old) n c.args.done) (drop c.args.done bytes)) } };
    }) sized
    ∙ ap (λ n. record {
      answer = write_flow whole c.args.done n nonblock;
      next = record h { pipes = record h.pipes { contents = insert (pipes_of f.pipes world.pipes) q (old ++ take n (drop c.args.done bytes)) } };
    }) (sym moved)
    ∙ (λ i. record {
      answer = answer;
      next = record h { pipes = record h.pipes { contents = insert (pipes_of f.pipes world.pipes) q (old ++ part i) } };
    })
    ∙ (λ i. record { answer = answer; next = holding_of t (record { contents = sym put.pipes i; next = sym put.next i }) f.descriptors }))

pub returns-clause-makes : goal.returns-clause-makes
returns-clause-makes g c = λ table bytes backed sized part.
    let f = c.args.self.now in
    let world = g.H.Host.view c.args.host.now in
    let now = g.H.Host.view c.put.new.host in
    let put = c.in_ok-put.ensures in
    let answer = write_flow c.args.whole c.args.done (length c.args.piece.now) c.in-Some.nonblock in
    record {
      made = does-piped f c.put.new.self world now table backed put.stands put.there put.rest c.write_flow.result _ (returns-clause-call g c (tree_of table world.forest) bytes sized part);
      backed = unless-as answer c.write_flow.result _ c.write_flow.ensures (backed-piped f c.put.new.self world now table backed put.stands put.there put.rest);
      others = unless-as answer c.write_flow.result _ c.write_flow.ensures (others-piped f c.put.new.self world now table backed put.stands put.there put.rest c.args.pid);
      rest = put.rest.pids;
      cause = record { later = put.cause.later; rose = λ failed. absurd (never-as answer c.write_flow.result c.write_flow.ensures failed) };
    }
