use Rattle.std.proofs.Common.{◌≡◌, Some, arith, sym, ap, subst, ◌∙◌}
use Rattle.std.specs.Prelude.{IfOk, OnOk}
use Rattle.std.proofs.lemmas.Result.{on_ok_weaker}
use Rattle.dt_host.specs.Sink.{added, AddsPart}
use Rattle.dt_host.proofs.Growth.{added-nil}
use Rattle.dt_image.specs.Report.{events_text}
use Rattle.dt_sched.specs.Core.{IsCore, head}
use Rattle.dt_engine.specs.Admission.{Admission}
use Rattle.dt_engine.specs.InCode.{state_of}
use Rattle.dt_engine.specs.InPlay.{EngineView, playing_of}
use Rattle.dt_engine.proofs.Queueing.{full-good, good-full}
use Rattle.dt_engine.proofs.Engines.{not-idle, admission-over, admission-late, admission-ready, admission-spent}
use Rattle.dt_engine.proofs.Going.{if-answer}
use Rattle.dt_engine.proofs.Waited.{nobody-waits}
use Rattle.dt_engine.proofs.engine.Engine.admit.Goals as goal

-- where a verdict stands
pub returns-in-Some-clause-answer : goal.returns-in-Some-clause-answer
returns-in-Some-clause-answer g c =
    let stands = ap (λ (e : EngineView). e.verdict) (sym c.self.view_is) ∙ c.in-Some.is in
    ap (λ (a : Admission). a.answer) (admission-over c.args.self.now (g.H.Host.view c.args.host.now) c.in-Some.verdict stands)

pub returns-in-Some-clause-run : goal.returns-in-Some-clause-run
returns-in-Some-clause-run g c =
    let stands = ap (λ (e : EngineView). e.verdict) (sym c.self.view_is) ∙ c.in-Some.is in
    ap (λ (a : Admission). a.next) (admission-over c.args.self.now (g.H.Host.view c.args.host.now) c.in-Some.verdict stands)

pub returns-in-Some-clause-wrote : goal.returns-in-Some-clause-wrote
returns-in-Some-clause-wrote g c =
    let stands = ap (λ (e : EngineView). e.verdict) (sym c.self.view_is) ∙ c.in-Some.is in
    let told = g.O.Sink.told c.args.out.now in
    sym (ap (λ (a : Admission). added told (events_text a.events))
    (admission-over c.args.self.now (g.H.Host.view c.args.host.now) c.in-Some.verdict stands) ∙ added-nil told)

-- where the head's segment has not arrived
pub returns-in-NotArrived-clause-answer : goal.returns-in-NotArrived-clause-answer
returns-in-NotArrived-clause-answer g c =
    let none = ap (λ (e : EngineView). e.verdict) (sym c.self.view_is) ∙ c.in-None.is in
    let late = ap (λ (e : EngineView). head e.state.core) (sym c.self.view_is) ∙ sym c.head.ensures.head ∙ c.in-NotArrived.is in
    ap (λ (a : Admission). a.answer)
    (admission-late c.args.self.now (g.H.Host.view c.args.host.now) c.in-NotArrived.vpid c.requires.whole none late)

pub returns-in-NotArrived-clause-run : goal.returns-in-NotArrived-clause-run
returns-in-NotArrived-clause-run g c =
    let none = ap (λ (e : EngineView). e.verdict) (sym c.self.view_is) ∙ c.in-None.is in
    let late = ap (λ (e : EngineView). head e.state.core) (sym c.self.view_is) ∙ sym c.head.ensures.head ∙ c.in-NotArrived.is in
    ap (λ (a : Admission). a.next)
    (admission-late c.args.self.now (g.H.Host.view c.args.host.now) c.in-NotArrived.vpid c.requires.whole none late)

pub returns-in-NotArrived-clause-wrote : goal.returns-in-NotArrived-clause-wrote
returns-in-NotArrived-clause-wrote g c =
    let none = ap (λ (e : EngineView). e.verdict) (sym c.self.view_is) ∙ c.in-None.is in
    let late = ap (λ (e : EngineView). head e.state.core) (sym c.self.view_is) ∙ sym c.head.ensures.head ∙ c.in-NotArrived.is in
    let told = g.O.Sink.told c.args.out.now in
    sym (ap (λ (a : Admission). added told (events_text a.events))
    (admission-late c.args.self.now (g.H.Host.view c.args.host.now) c.in-NotArrived.vpid c.requires.whole none late) ∙ added-nil told)

-- where it has
pub returns-in-Ready-clause-answer : goal.returns-in-Ready-clause-answer
returns-in-Ready-clause-answer g c =
    let before = g.H.Host.view c.args.host.now in
    let none = ap (λ (e : EngineView). e.verdict) (sym c.self.view_is) ∙ c.in-None.is in
    let ready = ap (λ (e : EngineView). head e.state.core) (sym c.self.view_is) ∙ sym c.head.ensures.head ∙ c.in-Ready.is in
    let is = admission-ready c.args.self.now before c.in-Ready.vpid c.requires.whole none ready in
    subst (λ (a : Admission). IfOk c.take_turn.result (λ answer. a.answer ≡ answer)) (sym is) c.take_turn.ensures.answer

pub returns-in-Ready-clause-run : goal.returns-in-Ready-clause-run
returns-in-Ready-clause-run g c =
    let before = g.H.Host.view c.args.host.now in
    let none = ap (λ (e : EngineView). e.verdict) (sym c.self.view_is) ∙ c.in-None.is in
    let ready = ap (λ (e : EngineView). head e.state.core) (sym c.self.view_is) ∙ sym c.head.ensures.head ∙ c.in-Ready.is in
    let is = admission-ready c.args.self.now before c.in-Ready.vpid c.requires.whole none ready in
    subst (λ (a : Admission). OnOk c.take_turn.result (a.next ≡ playing_of c.take_turn.new.self (g.H.Host.view c.take_turn.new.host)))
    (sym is) c.take_turn.ensures.run

pub returns-in-Ready-clause-wrote : goal.returns-in-Ready-clause-wrote
returns-in-Ready-clause-wrote g c =
    let before = g.H.Host.view c.args.host.now in
    let none = ap (λ (e : EngineView). e.verdict) (sym c.self.view_is) ∙ c.in-None.is in
    let ready = ap (λ (e : EngineView). head e.state.core) (sym c.self.view_is) ∙ sym c.head.ensures.head ∙ c.in-Ready.is in
    let is = admission-ready c.args.self.now before c.in-Ready.vpid c.requires.whole none ready in
    subst (λ (a : Admission). OnOk c.take_turn.result
    (g.O.Sink.told c.take_turn.new.out ≡ added (g.O.Sink.told c.args.out.now) (events_text a.events))) (sym is) c.take_turn.ensures.wrote

pub returns-in-Ready-clause-part : goal.returns-in-Ready-clause-part
returns-in-Ready-clause-part g c =
    let before = g.H.Host.view c.args.host.now in
    let none = ap (λ (e : EngineView). e.verdict) (sym c.self.view_is) ∙ c.in-None.is in
    let ready = ap (λ (e : EngineView). head e.state.core) (sym c.self.view_is) ∙ sym c.head.ensures.head ∙ c.in-Ready.is in
    let is = admission-ready c.args.self.now before c.in-Ready.vpid c.requires.whole none ready in
    subst (λ (a : Admission). AddsPart (g.O.Sink.told c.args.out.now) (g.O.Sink.told c.take_turn.new.out) (events_text a.events))
    (sym is) c.take_turn.ensures.part

pub returns-in-Ready-clause-full : goal.returns-in-Ready-clause-full
returns-in-Ready-clause-full g c = λ full.
    let good = full-good c.args.self.now.state (g.H.Host.view c.args.host.now) c.requires.whole.kept full in
    on_ok_weaker c.take_turn.result (λ good. good-full c.take_turn.new.self.state (g.H.Host.view c.take_turn.new.host) good)
    (c.take_turn.ensures.good good)

-- where the budget doesn't pay for its turn
pub returns-in-Over-clause-answer : goal.returns-in-Over-clause-answer
returns-in-Over-clause-answer g c =
    let before = g.H.Host.view c.args.host.now in
    let none = ap (λ (e : EngineView). e.verdict) (sym c.self.view_is) ∙ c.in-None.is in
    let over = ap (λ (e : EngineView). head e.state.core) (sym c.self.view_is) ∙ sym c.head.ensures.head ∙ c.in-Over.is in
    let sound = subst (λ (e : EngineView). IsCore e.state.core) c.self.view_is c.head.ensures.sound in
    ap (λ (a : Admission). a.answer) (admission-spent c.args.self.now before c.in-Over.verdict c.requires.whole none sound over)

pub returns-in-Over-clause-run : goal.returns-in-Over-clause-run
returns-in-Over-clause-run g c =
    let before = g.H.Host.view c.args.host.now in
    let none = ap (λ (e : EngineView). e.verdict) (sym c.self.view_is) ∙ c.in-None.is in
    let over = ap (λ (e : EngineView). head e.state.core) (sym c.self.view_is) ∙ sym c.head.ensures.head ∙ c.in-Over.is in
    let sound = subst (λ (e : EngineView). IsCore e.state.core) c.self.view_is c.head.ensures.sound in
    ap (λ (a : Admission). a.next) (admission-spent c.args.self.now before c.in-Over.verdict c.requires.whole none sound over)
    ∙ ap (λ (e : EngineView). record { state = state_of e.state before; verdict = Some c.in-Over.verdict }) (sym c.self.view_is)

pub returns-in-Over-clause-wrote : goal.returns-in-Over-clause-wrote
returns-in-Over-clause-wrote g c =
    let before = g.H.Host.view c.args.host.now in
    let none = ap (λ (e : EngineView). e.verdict) (sym c.self.view_is) ∙ c.in-None.is in
    let over = ap (λ (e : EngineView). head e.state.core) (sym c.self.view_is) ∙ sym c.head.ensures.head ∙ c.in-Over.is in
    let sound = subst (λ (e : EngineView). IsCore e.state.core) c.self.view_is c.head.ensures.sound in
    let told = g.O.Sink.told c.args.out.now in
    sym (ap (λ (a : Admission). added told (events_text a.events))
    (admission-spent c.args.self.now before c.in-Over.verdict c.requires.whole none sound over) ∙ added-nil told)

pub returns-in-Ready-clause-no_farther : goal.returns-in-Ready-clause-no_farther
returns-in-Ready-clause-no_farther g c = on_ok_weaker c.take_turn.result (λ less. omega (arith, less)) c.take_turn.ensures.smaller

pub returns-in-Ready-clause-nearer : goal.returns-in-Ready-clause-nearer
returns-in-Ready-clause-nearer g c = if-answer c.take_turn.result _ _ c.take_turn.ensures.smaller

pub returns-in-Ready-clause-idle : goal.returns-in-Ready-clause-idle
returns-in-Ready-clause-idle g c = λ idle.
    let none = ap (λ (e : EngineView). e.verdict) (sym c.self.view_is) ∙ c.in-None.is in
    let ready = ap (λ (e : EngineView). head e.state.core) (sym c.self.view_is) ∙ sym c.head.ensures.head ∙ c.in-Ready.is in
    absurd (not-idle c.args.self.now (g.H.Host.view c.args.host.now) c.in-Ready.vpid c.requires.whole none ready idle)

pub returns-in-Ready-clause-idle_host : goal.returns-in-Ready-clause-idle_host
returns-in-Ready-clause-idle_host g c = λ idle.
    let none = ap (λ (e : EngineView). e.verdict) (sym c.self.view_is) ∙ c.in-None.is in
    let ready = ap (λ (e : EngineView). head e.state.core) (sym c.self.view_is) ∙ sym c.head.ensures.head ∙ c.in-Ready.is in
    absurd (not-idle c.args.self.now (g.H.Host.view c.args.host.now) c.in-Ready.vpid c.requires.whole none ready idle)

pub returns-in-Ready-clause-idle_sink : goal.returns-in-Ready-clause-idle_sink
returns-in-Ready-clause-idle_sink g c = λ idle.
    let none = ap (λ (e : EngineView). e.verdict) (sym c.self.view_is) ∙ c.in-None.is in
    let ready = ap (λ (e : EngineView). head e.state.core) (sym c.self.view_is) ∙ sym c.head.ensures.head ∙ c.in-Ready.is in
    absurd (not-idle c.args.self.now (g.H.Host.view c.args.host.now) c.in-Ready.vpid c.requires.whole none ready idle)

-- between two turns not all wait
pub unreachable-requires : goal.unreachable-requires
unreachable-requires g c =
    let none = ap (λ (e : EngineView). e.verdict) (sym c.self.view_is) ∙ c.in-None.is in
    let waits = ap (λ (e : EngineView). head e.state.core) (sym c.self.view_is) ∙ sym c.head.ensures.head ∙ c.in-AllWait.is in
    nobody-waits c.args.self.now.state.core c.requires.whole.awake waits
