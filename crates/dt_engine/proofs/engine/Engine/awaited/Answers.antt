use Rattle.std.proofs.Common.{sym, ap, subst, ◌∙◌}
use Rattle.dt_sched.specs.Core.{IsCore, head}
use Rattle.dt_engine.specs.InPlay.{EngineView}
use Rattle.dt_engine.proofs.Engines.{awaited-over}
use Rattle.dt_engine.proofs.Queueing.{awaited-late, awaited-ready}
use Rattle.dt_engine.proofs.Waited.{nobody-waits}
use Rattle.dt_engine.proofs.engine.Engine.awaited.Goals as goal

pub returns-in-Some-clause-head : goal.returns-in-Some-clause-head
returns-in-Some-clause-head c = λ none w.
    let stands = ap (λ (e : EngineView). e.verdict) (sym c.self.view_is) ∙ c.in-Some.is in
    let bad = sym none ∙ stands in
    cc

pub returns-in-NotArrived-clause-running : goal.returns-in-NotArrived-clause-running
returns-in-NotArrived-clause-running c = λ _. ap (λ (e : EngineView). e.verdict) (sym c.self.view_is) ∙ c.in-None.is

pub returns-in-NotArrived-clause-head : goal.returns-in-NotArrived-clause-head
returns-in-NotArrived-clause-head c = λ none w.
    let late = ap (λ (e : EngineView). head e.state.core) (sym c.self.view_is) ∙ sym c.head.ensures.head ∙ c.in-NotArrived.is in
    awaited-late c.args.self.now.state w c.in-NotArrived.vpid c.requires.kept late

pub returns-in-Ready-clause-head : goal.returns-in-Ready-clause-head
returns-in-Ready-clause-head c = λ none w.
    let ready = ap (λ (e : EngineView). head e.state.core) (sym c.self.view_is) ∙ sym c.head.ensures.head ∙ c.in-Ready.is in
    awaited-ready c.args.self.now.state w _ c.requires.kept ready

pub returns-in-Over-clause-head : goal.returns-in-Over-clause-head
returns-in-Over-clause-head c = λ none w.
    let over = ap (λ (e : EngineView). head e.state.core) (sym c.self.view_is) ∙ sym c.head.ensures.head ∙ c.in-Over.is in
    let sound = subst (λ (e : EngineView). IsCore e.state.core) c.self.view_is c.head.ensures.sound in
    awaited-over c.args.self.now w _ c.requires none sound over

-- between two turns not all wait
pub unreachable-requires : goal.unreachable-requires
unreachable-requires c =
    let waits = ap (λ (e : EngineView). head e.state.core) (sym c.self.view_is) ∙ sym c.head.ensures.head ∙ c.in-AllWait.is in
    nobody-waits c.args.self.now.state.core c.requires.awake waits
