use Rattle.std.proofs.Common.{◌≡◌, ◌+◌, ◌++◌, take, drop, length, refl, ap, sym, subst, ◌∙◌, arith, length-append, length-drop}
use Rattle.std.proofs.lemmas.Bool.Decides.{nat_tests}
use Rattle.dt_host.specs.World.{IsPipe, pipe_bytes, with_pipe}
use Rattle.dt_host.proofs.Pipes.{IsPipe-with_pipe, with_pipe-held, take_more, none_moved, took_more, held_left}
use Rattle.dt_host.proofs.pipe.take_whole.Goals as goal

pub pipe_take-requires : goal.pipe_take-requires
pipe_take-requires g c =
    let old = g.H.Host.view c.args.host.now in
    subst (λ w. IsPipe w c.args.ino) (sym {b = with_pipe old c.args.ino (drop c.loop-done.done (pipe_bytes old c.args.ino))} c.loop-done.invariant.left) (IsPipe-with_pipe old c.args.ino _)

pub loop-done-init : goal.loop-done-init
loop-done-init g c = record {
  room = omega arith;
  there = omega arith;
  later = omega arith;
  left = sym (with_pipe-held (g.H.Host.view c.args.host.now) c.args.ino c.requires);
  prefix = refl;
}

pub returns-then-moved-eq0-clause-legal : goal.returns-then-moved-eq0-clause-legal
returns-then-moved-eq0-clause-legal g c =
    let old = g.H.Host.view c.args.host.now in
    let kept = c.loop-done.invariant in
    let parts = c.split_at_mut-rest.ensures in
    let taken = c.in_ok-moved.ensures.legal in
    let n = c.in_ok-moved.moved in
    let none : n ≡ 0 = grind (arith, nat_tests) in
    let left = ap length (held_left old _ c.args.ino c.loop-done.done kept.left) ∙ length-drop c.loop-done.done (pipe_bytes old c.args.ino) in
    let sum : c.loop-done.done + n ≡ c.loop-done.done = omega arith in
    record {
      most = omega (arith, none_moved _ n taken.moved none, left, parts.back_len, kept.there, kept.room);
      prefix = subst (λ k. c.split_at_mut-rest.result.0.now ++ c.pipe_take.new.buf ≡ take k (pipe_bytes old c.args.ino) ++ drop k c.args.buf.now) sum
          (took_more old _ c.args.ino c.args.buf.now c.loop-done.buf _ _ _ c.loop-done.done n kept.there kept.left kept.prefix parts.front parts.back taken.prefix);
      left = subst (λ k. g.H.Host.view c.pipe_take.new.self ≡ with_pipe old c.args.ino (drop k (pipe_bytes old c.args.ino))) sum
          (take_more old _ _ c.args.ino c.loop-done.done n kept.left taken.left);
    }

pub loop-done-preserved : goal.loop-done-preserved
loop-done-preserved g c =
    let old = g.H.Host.view c.args.host.now in
    let kept = c.loop-done.invariant in
    let parts = c.split_at_mut-rest.ensures in
    let answer = c.in_ok-moved.ensures in
    let taken = answer.legal in
    let n = c.in_ok-moved.moved in
    let left = ap length (held_left old _ c.args.ino c.loop-done.done kept.left) ∙ length-drop c.loop-done.done (pipe_bytes old c.args.ino) in
    record {
      room = omega (arith, taken.moved.within, c.pipe_take.auto.buf, length-append c.split_at_mut-rest.result.0.now c.pipe_take.new.buf);
      there = omega (arith, taken.moved.within, left, kept.there);
      later = omega (arith, answer.cause.later);
      left = take_more old _ _ c.args.ino c.loop-done.done n kept.left taken.left;
      prefix = took_more old _ c.args.ino c.args.buf.now c.loop-done.buf _ _ _ c.loop-done.done n kept.there kept.left kept.prefix parts.front parts.back taken.prefix;
    }
