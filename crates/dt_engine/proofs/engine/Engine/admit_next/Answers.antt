use Rattle.std.proofs.Common.{sym, ap, subst, ◌∙◌}
use Rattle.dt_host.specs.Sink.{added, AddsPart}
use Rattle.dt_image.specs.Report.{events_text}
use Rattle.dt_engine.specs.Happenings.{Step}
use Rattle.dt_engine.specs.InPlay.{EngineView, playing_of}
use Rattle.dt_engine.proofs.Happened.{next-step, next-may}
use Rattle.dt_engine.proofs.engine.Engine.admit_next.Goals as goal

pub returns-in_err-admit-in-None-clause-part : goal.returns-in_err-admit-in-None-clause-part
returns-in_err-admit-in-None-clause-part g c =
    let e = playing_of c.args.self.now (g.H.Host.view c.args.host.now) in
    let none = ap (λ (e : EngineView). e.verdict) (sym c.self.view_is) ∙ c.in-None.is in
    subst (λ (t : Step). AddsPart (g.O.Sink.told c.args.out.now) (g.O.Sink.told c.admit.new.out) (events_text t.events))
    (sym (next-step e none)) c.admit.ensures.part

pub returns-in_ok-admit-in-None-clause-may : goal.returns-in_ok-admit-in-None-clause-may
returns-in_ok-admit-in-None-clause-may g c =
    let e = playing_of c.args.self.now (g.H.Host.view c.args.host.now) in
    let none = ap (λ (e : EngineView). e.verdict) (sym c.self.view_is) ∙ c.in-None.is in
    next-may e c.in_ok-admit-in-None.field-0 none c.in_ok-admit-in-None.ensures.answer ∙ sym c.has_come.ensures

pub returns-in_ok-admit-in-None-clause-run : goal.returns-in_ok-admit-in-None-clause-run
returns-in_ok-admit-in-None-clause-run g c =
    let e = playing_of c.args.self.now (g.H.Host.view c.args.host.now) in
    let none = ap (λ (e : EngineView). e.verdict) (sym c.self.view_is) ∙ c.in-None.is in
    ap (λ (t : Step). t.next) (next-step e none) ∙ c.in_ok-admit-in-None.ensures.run

pub returns-in_ok-admit-in-None-clause-wrote : goal.returns-in_ok-admit-in-None-clause-wrote
returns-in_ok-admit-in-None-clause-wrote g c =
    let e = playing_of c.args.self.now (g.H.Host.view c.args.host.now) in
    let none = ap (λ (e : EngineView). e.verdict) (sym c.self.view_is) ∙ c.in-None.is in
    c.in_ok-admit-in-None.ensures.wrote
    ∙ ap (λ (t : Step). added (g.O.Sink.told c.args.out.now) (events_text t.events)) (sym (next-step e none))

pub returns-in_ok-admit-in-None-clause-part : goal.returns-in_ok-admit-in-None-clause-part
returns-in_ok-admit-in-None-clause-part g c =
    let e = playing_of c.args.self.now (g.H.Host.view c.args.host.now) in
    let none = ap (λ (e : EngineView). e.verdict) (sym c.self.view_is) ∙ c.in-None.is in
    subst (λ (t : Step). AddsPart (g.O.Sink.told c.args.out.now) (g.O.Sink.told c.admit.new.out) (events_text t.events))
    (sym (next-step e none)) c.admit.ensures.part
