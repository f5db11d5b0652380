use Rattle.std.proofs.Common.{◌++◌, refl, sym, ap, subst, ◌∙◌}
use Rattle.std.specs.Prelude.{IsSome, is_some}
use Rattle.dt_engine.specs.Admission.{admission}
use Rattle.dt_engine.specs.InPlay.{playing_of}
use Rattle.dt_engine.proofs.Going.{over-stands}
use Rattle.dt_runlaws.specs.Driver.{lent_of}
use Rattle.dt_runlaws.proofs.Points.{going-on}
use Rattle.dt_runlaws.proofs.Steps.{finished-so, part-ended}
use Rattle.dt_runlaws.proofs.driver.Driver.end.Goals as goal

pub finish-requires-clause-over : goal.finish-requires-clause-over
finish-requires-clause-over g c = subst IsSome (sym (c.in_ok-admit.ensures.over _ c.in-Over.is)) refl

pub finish-requires-clause-open : goal.finish-requires-clause-open
finish-requires-clause-open g c = c.in_ok-admit.ensures.driving.driving.unfinished

pub finish-requires-clause-sound : goal.finish-requires-clause-sound
finish-requires-clause-sound g c = c.in_ok-admit.ensures.driving.sound

pub returns-in_ok-finish-in-Over-clause-completed : goal.returns-in_ok-finish-in-Over-clause-completed
returns-in_ok-finish-in-Over-clause-completed g c = λ version all shown start h.
    let k = c.in_ok-admit.ensures.reported version all shown start h in
    let a = admission (playing_of c.args.self.now.engine (g.H.Host.view c.args.host.now)) in
    let f = c.admit.new.self in
    let done = c.in_ok-finish-in-Over.ensures in
    finished-so version all (shown ++ a.events) f.engine (g.H.Host.view c.admit.new.host) (lent_of f.lent.items) _ start
    (g.O.Sink.told c.admit.new.out) k.shows k.wrote (c.in_ok-admit.ensures.over _ c.in-Over.is) _
    (g.H.Host.view c.finish.new.host) (g.O.Sink.told c.finish.new.out) c.finish.ensures.stays
    c.in_ok-admit.ensures.driving.sound done.status done.wrote

pub returns-in_ok-finish-in-Over-clause-part : goal.returns-in_ok-finish-in-Over-clause-part
returns-in_ok-finish-in-Over-clause-part g c = λ version all shown start h.
    let k = c.in_ok-admit.ensures.reported version all shown start h in
    let a = admission (playing_of c.args.self.now.engine (g.H.Host.view c.args.host.now)) in
    let f = c.admit.new.self in
    part-ended version all shown a.events f.engine (g.H.Host.view c.admit.new.host) (lent_of f.lent.items) _ start
    (g.O.Sink.told c.admit.new.out) (g.O.Sink.told c.finish.new.out) k.shows k.wrote
    (c.in_ok-admit.ensures.over _ c.in-Over.is) c.finish.ensures.part

pub returns-in_err-finish-in-Over-clause-part : goal.returns-in_err-finish-in-Over-clause-part
returns-in_err-finish-in-Over-clause-part g c = λ version all shown start h.
    let k = c.in_ok-admit.ensures.reported version all shown start h in
    let a = admission (playing_of c.args.self.now.engine (g.H.Host.view c.args.host.now)) in
    let f = c.admit.new.self in
    part-ended version all shown a.events f.engine (g.H.Host.view c.admit.new.host) (lent_of f.lent.items) _ start
    (g.O.Sink.told c.admit.new.out) (g.O.Sink.told c.finish.new.out) k.shows k.wrote
    (c.in_ok-admit.ensures.over _ c.in-Over.is) c.finish.ensures.part

pub returns-in_ok-finish-in-Over-clause-over : goal.returns-in_ok-finish-in-Over-clause-over
returns-in_ok-finish-in-Over-clause-over g c =
    let e = playing_of c.args.self.now.engine (g.H.Host.view c.args.host.now) in
    let a = admission e in
    sym (ap is_some (over-stands e a.next _ (c.in_ok-admit.ensures.answer ∙ c.in-Over.is) refl))

pub returns-in-NotArrived-clause-over : goal.returns-in-NotArrived-clause-over
returns-in-NotArrived-clause-over g c =
    let e = playing_of c.args.self.now.engine (g.H.Host.view c.args.host.now) in
    sym (ap is_some (going-on e _ c.in_ok-admit.ensures.answer c.in-NotArrived.is))

pub returns-in-NotArrived-clause-driving : goal.returns-in-NotArrived-clause-driving
returns-in-NotArrived-clause-driving g c = λ none. c.in_ok-admit.ensures.driving

pub returns-in-NotArrived-clause-at : goal.returns-in-NotArrived-clause-at
returns-in-NotArrived-clause-at g c = λ shown none. c.in_ok-admit.ensures.at shown

pub returns-in-NotArrived-clause-reported : goal.returns-in-NotArrived-clause-reported
returns-in-NotArrived-clause-reported g c = λ version all shown start h none. c.in_ok-admit.ensures.reported version all shown start h
