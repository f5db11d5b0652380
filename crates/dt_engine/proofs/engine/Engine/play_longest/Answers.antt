use Rattle.std.proofs.Common.{◌+◌, sym, ap, ◌∙◌, arith}
use Rattle.dt_host.specs.Sink.{added}
use Rattle.dt_host.proofs.Growth.{adds_all}
use Rattle.dt_image.specs.Report.{events_text}
use Rattle.dt_engine.specs.Played.{Played}
use Rattle.dt_engine.specs.InPlay.{playing_of}
use Rattle.dt_engine.proofs.Happened.{part-more, stopped, stays, unwritten, one-more, ended}
use Rattle.dt_engine.proofs.engine.Engine.play_longest.Goals as goal

pub returns-in_err-happen-clause-part : goal.returns-in_err-happen-clause-part
returns-in_err-happen-clause-part g c =
    let l = c.loop-happening in
    let first = playing_of c.args.self.now (g.H.Host.view c.args.host.now) in
    let hs = c.args.happenings.now in
    let start = g.O.Sink.told c.args.out.now in
    let e = playing_of l.self (g.H.Host.view l.host) in
    let told = g.O.Sink.told l.out in
    part-more first hs start l.happening-index e told l.invariant.plays _ c.loop-happening-test.true
    (g.O.Sink.told c.happen.new.out) c.happen.ensures.part

-- one that may not happen
pub returns-then-not-branch-clause-count : goal.returns-then-not-branch-clause-count
returns-then-not-branch-clause-count g c =
    let l = c.loop-happening in
    let first = playing_of c.args.self.now (g.H.Host.view c.args.host.now) in
    let hs = c.args.happenings.now in
    let start = g.O.Sink.told c.args.out.now in
    let e = playing_of l.self (g.H.Host.view l.host) in
    let told = g.O.Sink.told l.out in
    let may = c.in_ok-happen.ensures.may ∙ c.if-not-branch.true in
    ap (λ (d : Played). d.count) (stopped first hs start l.happening-index e told l.invariant.plays _ c.loop-happening-test.true may)
    ∙ sym l.invariant.place

pub returns-then-not-branch-clause-run : goal.returns-then-not-branch-clause-run
returns-then-not-branch-clause-run g c =
    let l = c.loop-happening in
    let first = playing_of c.args.self.now (g.H.Host.view c.args.host.now) in
    let hs = c.args.happenings.now in
    let start = g.O.Sink.told c.args.out.now in
    let e = playing_of l.self (g.H.Host.view l.host) in
    let told = g.O.Sink.told l.out in
    let may = c.in_ok-happen.ensures.may ∙ c.if-not-branch.true in
    ap (λ (d : Played). d.step.next) (stopped first hs start l.happening-index e told l.invariant.plays _ c.loop-happening-test.true may)
    ∙ stays e _ _ may c.in_ok-happen.ensures.run

pub returns-then-not-branch-clause-wrote : goal.returns-then-not-branch-clause-wrote
returns-then-not-branch-clause-wrote g c =
    let l = c.loop-happening in
    let first = playing_of c.args.self.now (g.H.Host.view c.args.host.now) in
    let hs = c.args.happenings.now in
    let start = g.O.Sink.told c.args.out.now in
    let e = playing_of l.self (g.H.Host.view l.host) in
    let told = g.O.Sink.told l.out in
    let may = c.in_ok-happen.ensures.may ∙ c.if-not-branch.true in
    unwritten e _ told (g.O.Sink.told c.happen.new.out) may c.in_ok-happen.ensures.wrote
    ∙ l.invariant.plays.wrote
    ∙ ap (λ (d : Played). added start (events_text d.step.events))
    (sym (stopped first hs start l.happening-index e told l.invariant.plays _ c.loop-happening-test.true may))

pub returns-then-not-branch-clause-part : goal.returns-then-not-branch-clause-part
returns-then-not-branch-clause-part g c =
    adds_all (g.O.Sink.told c.args.out.now) (g.O.Sink.told c.happen.new.out) _ (returns-then-not-branch-clause-wrote g c)

-- one that may
pub loop-happening-preserved : goal.loop-happening-preserved
loop-happening-preserved g c =
    let l = c.loop-happening in
    let first = playing_of c.args.self.now (g.H.Host.view c.args.host.now) in
    let hs = c.args.happenings.now in
    let start = g.O.Sink.told c.args.out.now in
    let e = playing_of l.self (g.H.Host.view l.host) in
    let told = g.O.Sink.told l.out in
    let did = c.in_ok-happen.ensures in
    let may = did.may ∙ c.if-not-branch.false in
    record {
      plays = one-more first hs start l.happening-index e told l.invariant.plays _ c.loop-happening-test.true
          (playing_of c.happen.new.self (g.H.Host.view c.happen.new.host)) (g.O.Sink.told c.happen.new.out) may did.run did.wrote;
      place = ap (λ n. n + 1) l.invariant.place;
      whole = did.whole;
      sound = did.sound;
      full = did.full;
      open_still = c.happen.ensures.open ∙ l.invariant.open_still;
      host = omega (arith, l.invariant.host, c.happen.ensures.host.later);
      sink = omega (arith, l.invariant.sink, c.happen.ensures.sink.later);
    }

-- the end
pub returns-clause-count : goal.returns-clause-count
returns-clause-count g c =
    let l = c.loop-happening in
    let first = playing_of c.args.self.now (g.H.Host.view c.args.host.now) in
    let hs = c.args.happenings.now in
    let start = g.O.Sink.told c.args.out.now in
    let e = playing_of l.self (g.H.Host.view l.host) in
    let told = g.O.Sink.told l.out in
    ap (λ (d : Played). d.count) (ended first hs start l.happening-index e told l.invariant.plays c.loop-happening-test.false)
    ∙ sym l.invariant.place

pub returns-clause-run : goal.returns-clause-run
returns-clause-run g c =
    let l = c.loop-happening in
    let first = playing_of c.args.self.now (g.H.Host.view c.args.host.now) in
    let hs = c.args.happenings.now in
    let start = g.O.Sink.told c.args.out.now in
    let e = playing_of l.self (g.H.Host.view l.host) in
    let told = g.O.Sink.told l.out in
    ap (λ (d : Played). d.step.next) (ended first hs start l.happening-index e told l.invariant.plays c.loop-happening-test.false)

pub returns-clause-wrote : goal.returns-clause-wrote
returns-clause-wrote g c =
    let l = c.loop-happening in
    let first = playing_of c.args.self.now (g.H.Host.view c.args.host.now) in
    let hs = c.args.happenings.now in
    let start = g.O.Sink.told c.args.out.now in
    let e = playing_of l.self (g.H.Host.view l.host) in
    let told = g.O.Sink.told l.out in
    l.invariant.plays.wrote
    ∙ ap (λ (d : Played). added start (events_text d.step.events))
    (sym (ended first hs start l.happening-index e told l.invariant.plays c.loop-happening-test.false))

pub returns-clause-part : goal.returns-clause-part
returns-clause-part g c =
    adds_all (g.O.Sink.told c.args.out.now) (g.O.Sink.told c.loop-happening.out) _ (returns-clause-wrote g c)
