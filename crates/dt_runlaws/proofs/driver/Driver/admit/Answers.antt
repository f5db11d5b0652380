use Rattle.std.proofs.Common.{refl}
use Rattle.dt_engine.specs.InPlay.{playing_of}
use Rattle.dt_runlaws.specs.Driver.{lent_of}
use Rattle.dt_runlaws.proofs.Writes.{admission-writes}
use Rattle.dt_runlaws.proofs.Points.{admit-at}
use Rattle.dt_runlaws.proofs.Steps.{driving-admitted, reported-admitted, over-admitted}
use Rattle.dt_runlaws.proofs.driver.Driver.admit.Goals as goal

pub returns-clause-driving : goal.returns-clause-driving
returns-clause-driving g c =
    let done = c.admit.ensures in
    driving-admitted c.admit.result c.args.self.now _ (g.H.Host.view c.args.host.now) (g.H.Host.view c.admit.new.host) c.requires refl
    done.open done.whole done.sound done.run

pub returns-clause-reported : goal.returns-clause-reported
returns-clause-reported g c = λ version all shown start h.
    let done = c.admit.ensures in
    reported-admitted c.admit.result version all shown start c.args.self.now _ (g.H.Host.view c.args.host.now) (g.H.Host.view c.admit.new.host)
    (g.O.Sink.told c.args.out.now) (g.O.Sink.told c.admit.new.out) h refl done.run done.wrote

pub returns-clause-part : goal.returns-clause-part
returns-clause-part g c = λ version all shown start h.
    let f = c.args.self.now in
    admission-writes version all shown (playing_of f.engine (g.H.Host.view c.args.host.now)) (lent_of f.lent.items) start
    (g.O.Sink.told c.args.out.now) (g.O.Sink.told c.admit.new.out) h.shows h.wrote c.admit.ensures.part

pub returns-clause-over : goal.returns-clause-over
returns-clause-over g c =
    over-admitted c.admit.result (playing_of c.args.self.now.engine (g.H.Host.view c.args.host.now))
    (playing_of c.admit.new.self (g.H.Host.view c.admit.new.host)) c.admit.ensures.answer c.admit.ensures.run

pub returns-clause-at : goal.returns-clause-at
returns-clause-at g c = λ shown.
    admit-at c.admit.result c.args.self.now c.admit.new.self c.args.self.now.lent.items (g.H.Host.view c.args.host.now) (g.H.Host.view c.admit.new.host) shown refl
    c.admit.ensures.run
