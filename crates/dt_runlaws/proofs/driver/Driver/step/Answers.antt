use Rattle.std.proofs.Common.{sym, subst}
use Rattle.std.specs.Prelude.{OnOk}
use Rattle.dt_runlaws.specs.Driver.{point_of, point_after, IsAt, HasReported}
use Rattle.dt_runlaws.proofs.Points.{lend-shows-none, return-shows-none}
use Rattle.dt_runlaws.proofs.Steps.{reported-still, part-still}
use Rattle.dt_runlaws.proofs.driver.Driver.step.Goals as goal

pub returns-in_ok-lend-in-Lend-clause-driving : goal.returns-in_ok-lend-in-Lend-clause-driving
returns-in_ok-lend-in-Lend-clause-driving g c =
    let done = c.in_ok-lend-in-Lend.ensures in
    record { driving = done.driving; sound = done.sound (g.H.Host.view c.args.host.now) c.requires.sound }

pub returns-in_ok-lend-in-Lend-clause-at : goal.returns-in_ok-lend-in-Lend-clause-at
returns-in_ok-lend-in-Lend-clause-at g c = λ shown.
    let w = g.H.Host.view c.args.host.now in
    let d = point_of c.args.self.now w shown in
    subst (λ action. IsAt (point_after action d) c.lend.new.self w) (sym c.in-Lend.is) (c.in_ok-lend-in-Lend.ensures.at w shown)

pub returns-in_ok-lend-in-Lend-clause-reported : goal.returns-in_ok-lend-in-Lend-clause-reported
returns-in_ok-lend-in-Lend-clause-reported g c = λ version all shown start h.
    let w = g.H.Host.view c.args.host.now in
    let d = point_of c.args.self.now w shown in
    subst (λ action. (let after = point_after action d in
    HasReported version all after.shown start c.lend.new.self w (g.O.Sink.told c.args.out.now)))
    (sym c.in-Lend.is)
    (reported-still version all shown _ start c.args.self.now _ w (g.O.Sink.told c.args.out.now) (lend-shows-none c.in-Lend.vpid d _) h
    (c.in_ok-lend-in-Lend.ensures.shows w all shown))

pub returns-in_ok-lend-in-Lend-clause-part : goal.returns-in_ok-lend-in-Lend-clause-part
returns-in_ok-lend-in-Lend-clause-part g c = λ version all shown start h. part-still version all shown start _ _ _ h

pub returns-in_err-lend-in-Lend-clause-part : goal.returns-in_err-lend-in-Lend-clause-part
returns-in_err-lend-in-Lend-clause-part g c = λ version all shown start h. part-still version all shown start _ _ _ h

pub returns-in_ok-bring_back-in-Return-clause-driving : goal.returns-in_ok-bring_back-in-Return-clause-driving
returns-in_ok-bring_back-in-Return-clause-driving g c =
    let done = c.in_ok-bring_back-in-Return.ensures in
    record { driving = done.driving; sound = done.sound (g.H.Host.view c.args.host.now) c.requires.sound }

pub returns-in_ok-bring_back-in-Return-clause-at : goal.returns-in_ok-bring_back-in-Return-clause-at
returns-in_ok-bring_back-in-Return-clause-at g c = λ shown.
    let w = g.H.Host.view c.args.host.now in
    let d = point_of c.args.self.now w shown in
    subst (λ action. IsAt (point_after action d) c.bring_back.new.self w) (sym c.in-Return.is) (c.in_ok-bring_back-in-Return.ensures.at w shown)

pub returns-in_ok-bring_back-in-Return-clause-reported : goal.returns-in_ok-bring_back-in-Return-clause-reported
returns-in_ok-bring_back-in-Return-clause-reported g c = λ version all shown start h.
    let w = g.H.Host.view c.args.host.now in
    let d = point_of c.args.self.now w shown in
    subst (λ action. (let after = point_after action d in
    HasReported version all after.shown start c.bring_back.new.self w (g.O.Sink.told c.args.out.now)))
    (sym c.in-Return.is)
    (reported-still version all shown _ start c.args.self.now _ w (g.O.Sink.told c.args.out.now) (return-shows-none c.in-Return.index _ d) h
    (c.in_ok-bring_back-in-Return.ensures.shows w all shown))

pub returns-in_ok-bring_back-in-Return-clause-part : goal.returns-in_ok-bring_back-in-Return-clause-part
returns-in_ok-bring_back-in-Return-clause-part g c = λ version all shown start h. part-still version all shown start _ _ _ h

pub returns-in_err-bring_back-in-Return-clause-part : goal.returns-in_err-bring_back-in-Return-clause-part
returns-in_err-bring_back-in-Return-clause-part g c = λ version all shown start h. part-still version all shown start _ _ _ h

pub returns-in_ok-admit-in-Admit-clause-at : goal.returns-in_ok-admit-in-Admit-clause-at
returns-in_ok-admit-in-Admit-clause-at g c = λ shown.
    let d = point_of c.args.self.now (g.H.Host.view c.args.host.now) shown in
    subst (λ action. IsAt (point_after action d) c.admit.new.self (g.H.Host.view c.admit.new.host)) (sym c.in-Admit.is)
    (c.in_ok-admit-in-Admit.ensures.at shown)

pub returns-in_ok-admit-in-Admit-clause-reported : goal.returns-in_ok-admit-in-Admit-clause-reported
returns-in_ok-admit-in-Admit-clause-reported g c = λ version all shown start h.
    let d = point_of c.args.self.now (g.H.Host.view c.args.host.now) shown in
    subst (λ action. (let after = point_after action d in
    HasReported version all after.shown start c.admit.new.self (g.H.Host.view c.admit.new.host) (g.O.Sink.told c.admit.new.out)))
    (sym c.in-Admit.is) (c.in_ok-admit-in-Admit.ensures.reported version all shown start h)

pub returns-in-Play-clause-at : goal.returns-in-Play-clause-at
returns-in-Play-clause-at g c = λ shown.
    let d = point_of c.args.self.now (g.H.Host.view c.args.host.now) shown in
    subst (λ action. OnOk c.play.result (IsAt (point_after action d) c.play.new.self (g.H.Host.view c.play.new.host))) (sym c.in-Play.is)
    (c.play.ensures.at shown)

pub returns-in-Play-clause-reported : goal.returns-in-Play-clause-reported
returns-in-Play-clause-reported g c = λ version all shown start h.
    let d = point_of c.args.self.now (g.H.Host.view c.args.host.now) shown in
    subst (λ action. OnOk c.play.result (let after = point_after action d in
    HasReported version all after.shown start c.play.new.self (g.H.Host.view c.play.new.host) (g.O.Sink.told c.play.new.out)))
    (sym c.in-Play.is) (c.play.ensures.reported version all shown start h)
