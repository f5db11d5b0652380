use Rattle.std.proofs.Common.{ap, ◌∙◌, arith}
use Rattle.dt_engine.specs.InPlay.{playing_of}
use Rattle.dt_rounds.proofs.Beside.{on-admitted, part-admission}
use Rattle.dt_rounds.proofs.Taking.{on-then, on-kept, on-part, on-part-then}
use Rattle.dt_rounds.proofs.live.Live.admit_some.Goals as goal

pub returns-in_err-fetch_head-clause-part : goal.returns-in_err-fetch_head-clause-part
returns-in_err-fetch_head-clause-part g c = let l = c.loop in on-part _ _ _ _ _ _ _ _ l.invariant.on

pub returns-in_err-admit-clause-part : goal.returns-in_err-admit-clause-part
returns-in_err-admit-clause-part g c =
    let l = c.loop in
    let kept = c.in_ok-fetch_head.ensures.keeps (g.H.Host.view l.host) l.invariant.on.live in
    let on = on-kept _ _ _ _ _ _ _ _ l.invariant.on c.fetch_head.new.self.engine c.fetch_head.new.self.lents.items kept in
    on-part-then _ _ _ _ _ _ _ _ on _
    (part-admission c.fetch_head.new.self.engine c.fetch_head.new.self.lents.items (g.H.Host.view l.host) (g.O.Sink.told l.out) kept.live
    c.owing_queue-queue.ensures.core.each_once _ c.admit.ensures.part)

-- it may answer that its segment has not arrived
pub returns-in-NotArrived-clause-on : goal.returns-in-NotArrived-clause-on
returns-in-NotArrived-clause-on g c =
    let l = c.loop in
    let next = c.in_ok-admit.ensures in
    let kept = c.in_ok-fetch_head.ensures.keeps (g.H.Host.view l.host) l.invariant.on.live in
    let here = on-kept _ _ _ _ _ _ _ _ l.invariant.on c.fetch_head.new.self.engine c.fetch_head.new.self.lents.items kept in
    on-then _ _ _ _ _ _ _ _ here c.admit.new.self c.fetch_head.new.self.lents.items (g.H.Host.view c.admit.new.host)
    (g.O.Sink.told c.admit.new.out)
    (on-admitted c.fetch_head.new.self.engine c.fetch_head.new.self.lents.items (g.H.Host.view l.host) (g.O.Sink.told l.out) kept.live
    c.owing_queue-queue.ensures.core.each_once c.admit.new.self (g.H.Host.view c.admit.new.host) (g.O.Sink.told c.admit.new.out)
    next.whole next.sound next.no_farther next.run next.wrote)

pub returns-in-NotArrived-clause-part : goal.returns-in-NotArrived-clause-part
returns-in-NotArrived-clause-part g c =
    let l = c.loop in
    let next = c.in_ok-admit.ensures in
    let kept = c.in_ok-fetch_head.ensures.keeps (g.H.Host.view l.host) l.invariant.on.live in
    let here = on-kept _ _ _ _ _ _ _ _ l.invariant.on c.fetch_head.new.self.engine c.fetch_head.new.self.lents.items kept in
    let on = on-then _ _ _ _ _ _ _ _ here c.admit.new.self c.fetch_head.new.self.lents.items (g.H.Host.view c.admit.new.host)
    (g.O.Sink.told c.admit.new.out)
    (on-admitted c.fetch_head.new.self.engine c.fetch_head.new.self.lents.items (g.H.Host.view l.host) (g.O.Sink.told l.out) kept.live
    c.owing_queue-queue.ensures.core.each_once c.admit.new.self (g.H.Host.view c.admit.new.host) (g.O.Sink.told c.admit.new.out)
    next.whole next.sound next.no_farther next.run next.wrote) in
    on-part _ _ _ _ _ _ _ _ on

pub loop-preserved : goal.loop-preserved
loop-preserved g c =
    let l = c.loop in
    let next = c.in_ok-admit.ensures in
    let kept = c.in_ok-fetch_head.ensures.keeps (g.H.Host.view l.host) l.invariant.on.live in
    let here = on-kept _ _ _ _ _ _ _ _ l.invariant.on c.fetch_head.new.self.engine c.fetch_head.new.self.lents.items kept in
    record {
      on = on-then _ _ _ _ _ _ _ _ here c.admit.new.self c.fetch_head.new.self.lents.items (g.H.Host.view c.admit.new.host)
          (g.O.Sink.told c.admit.new.out)
          (on-admitted c.fetch_head.new.self.engine c.fetch_head.new.self.lents.items (g.H.Host.view l.host) (g.O.Sink.told l.out) kept.live
          c.owing_queue-queue.ensures.core.each_once c.admit.new.self (g.H.Host.view c.admit.new.host) (g.O.Sink.told c.admit.new.out)
          next.whole next.sound next.no_farther next.run next.wrote);
      board = c.in_ok-fetch_head.ensures.board ∙ l.invariant.board;
      open_still = c.admit.ensures.open ∙ c.fetch_head.ensures.open ∙ l.invariant.open_still;
      host = omega (arith, l.invariant.host, c.admit.ensures.host.later);
      sink = omega (arith, l.invariant.sink, c.admit.ensures.sink.later);
    }

pub returns-clause-part : goal.returns-clause-part
returns-clause-part g c = on-part _ _ _ _ _ _ _ _ c.loop.invariant.on
