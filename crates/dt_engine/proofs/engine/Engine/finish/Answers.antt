use Rattle.std.proofs.Common.{◌≡◌, sym, ap, subst, ◌∙◌}
use Rattle.std.specs.Prelude.{IfSome}
use Rattle.dt_calls.specs.InCode.{shared_of}
use Rattle.dt_host.specs.Sink.{added}
use Rattle.dt_engine.specs.Playing.{last_text}
use Rattle.dt_engine.specs.InPlay.{EngineView}
use Rattle.dt_engine.proofs.engine.Engine.finish.Goals as goal

pub returns-clause-wrote : goal.returns-clause-wrote
returns-clause-wrote g c =
    let before = g.H.Host.view c.args.host.now in
    let told = g.O.Sink.told c.args.out.now in
    subst (λ v. IfSome v (λ verdict. g.O.Sink.told c.sink_all.new.sink
    ≡ added told (last_text verdict (shared_of c.args.self.now.state.container.shared before))))
    (sym (ap (λ (e : EngineView). e.verdict) (sym c.self.view_is) ∙ c.in-Some.is))
    (c.in_ok-sink_all.ensures.ok
    ∙ ap (added told) (c.deref.ensures.value ∙ c.in_ok-text.ensures.ok
    ∙ ap (λ (e : EngineView). last_text c.in-Some.verdict (shared_of e.state.container.shared before)) c.self.view_is))
