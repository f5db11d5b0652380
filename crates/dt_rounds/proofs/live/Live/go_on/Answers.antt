use Rattle.std.proofs.Common.{[], refl, ◌∙◌, arith}
use Rattle.dt_engine.specs.InPlay.{playing_of}
use Rattle.dt_engine.proofs.Going.{goes-first, goes-part, goes-over}
use Rattle.dt_rounds.proofs.Taking.{none-by, the-verdict, fewer-ahead, goes-take, part-take}
use Rattle.dt_rounds.proofs.live.Live.go_on.Goals as goal

pub loop-self-init : goal.loop-self-init
loop-self-init g c = record {
  goes = goes-first _ _;
  rest = c.requires.rest;
  home = λ _. c.requires.home;
  board = refl;
  runner = refl;
  crew = c.requires.crew;
  open_still = refl;
  host = omega arith;
  sink = omega arith;
}

pub take_on-requires-clause-running : goal.take_on-requires-clause-running
take_on-requires-clause-running g c = λ _ _. none-by c.loop-self.self.engine.verdict c.is_over.ensures c.if-is_over.false

pub returns-in_err-take_on-clause-part : goal.returns-in_err-take_on-clause-part
returns-in_err-take_on-clause-part g c =
    let l = c.loop-self in
    part-take _ _ _ (playing_of l.self.engine (g.H.Host.view l.host)) _ l.invariant.goes c.take_on.ensures.part

pub loop-self-preserved : goal.loop-self-preserved
loop-self-preserved g c =
    let l = c.loop-self in
    record {
      goes = goes-take _ _ _ (playing_of l.self.engine (g.H.Host.view l.host)) _ _ l.invariant.goes c.in_ok-take_on.ensures.on.goes;
      rest = c.in_ok-take_on.ensures.on.rest;
      home = c.in_ok-take_on.ensures.home;
      board = c.in_ok-take_on.ensures.board ∙ l.invariant.board;
      runner = c.take_on.ensures.runner ∙ l.invariant.runner;
      crew = c.take_on.ensures.crew;
      open_still = c.take_on.ensures.open ∙ l.invariant.open_still;
      host = omega (arith, l.invariant.host, c.take_on.ensures.host.later);
      sink = omega (arith, l.invariant.sink, c.take_on.ensures.sink.later);
    }

pub loop-self-smaller : goal.loop-self-smaller
loop-self-smaller g c =
    let l = c.loop-self in
    fewer-ahead l.self.engine (g.H.Host.view l.host) _ c.take_on.new.self.engine (g.H.Host.view c.take_on.new.host) _
    (none-by l.self.engine.verdict c.is_over.ensures c.if-is_over.false) c.in_ok-take_on.ensures.on

pub returns-then-is_over-clause-done : goal.returns-then-is_over-clause-done
returns-then-is_over-clause-done g c =
    let l = c.loop-self in
    let v = the-verdict l.self.engine.verdict c.is_over.ensures c.if-is_over.true in
    goes-over _ _ _ l.self.engine (g.H.Host.view l.host) v.0 v.1 l.invariant.goes

pub returns-then-is_over-clause-part : goal.returns-then-is_over-clause-part
returns-then-is_over-clause-part g c =
    let l = c.loop-self in goes-part _ _ _ (playing_of l.self.engine (g.H.Host.view l.host)) [] l.invariant.goes
