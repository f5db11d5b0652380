use Rattle.std.proofs.Common.{length, take, ap, sym, subst, ◌∙◌, arith, length-take-le, length-append}
use Rattle.std.proofs.lemmas.Result.{MatchResult-from_err}
use Rattle.dt_host.specs.World.{IsPipe, pipe_bytes}
use Rattle.dt_host.specs.Legal.{with_put}
use Rattle.dt_host.proofs.Pipes.{IsPipe-with_pipe, held-with_pipe, with_put-nil, put_more, part_put}
use Rattle.dt_host.proofs.pipe.put_whole.Goals as goal

pub loop-done-init : goal.loop-done-init
loop-done-init g c = record {
  within = omega arith;
  later = omega arith;
  prefix = sym (with_put-nil (g.H.Host.view c.args.host.now) c.args.ino c.requires.pipe);
}

pub pipe_put-requires-clause-pipe : goal.pipe_put-requires-clause-pipe
pipe_put-requires-clause-pipe g c =
    let old = g.H.Host.view c.args.host.now in
    let prefix = take c.loop-done.done c.args.bytes.now in
    subst (λ w. IsPipe w c.args.ino) (sym {b = with_put old c.args.ino prefix} c.loop-done.invariant.prefix) (IsPipe-with_pipe old c.args.ino _)

pub pipe_put-requires-clause-fits : goal.pipe_put-requires-clause-fits
pipe_put-requires-clause-fits g c =
    let kept = c.loop-done.invariant in
    let old = g.H.Host.view c.args.host.now in
    let prefix = take c.loop-done.done c.args.bytes.now in
    let holds = ap length (ap (λ w. pipe_bytes w c.args.ino) kept.prefix ∙ held-with_pipe old c.args.ino _) in
    omega (arith, c.requires.fits, holds, length-append (pipe_bytes old c.args.ino) prefix, length-take-le c.loop-done.done c.args.bytes.now kept.within, c.split_at.ensures.back_len)

pub returns-in_err-done-clause-legal : goal.returns-in_err-done-clause-legal
returns-in_err-done-clause-legal g c =
    let kept = c.loop-done.invariant in
    let parts = c.split_at.ensures in
    MatchResult-from_err c.from_residual.result _ _ c.from_residual.ensures.0 (λ _.
    part_put _ _ _ c.args.ino c.args.bytes.now _ c.loop-done.done (omega (arith, parts.back_len)) kept.prefix parts.back c.in_err-done.ensures.legal)

pub loop-done-preserved : goal.loop-done-preserved
loop-done-preserved g c =
    let kept = c.loop-done.invariant in
    let answer = c.in_ok-done.ensures in
    record {
      within = omega (arith, answer.legal.moved.within);
      later = omega (arith, answer.cause.later);
      prefix = put_more _ _ _ c.args.ino c.args.bytes.now _ c.loop-done.done _ kept.prefix c.split_at.ensures.back answer.legal.prefix;
    }
