use Rattle.std.proofs.Common.{sym, ap, subst, ◌∙◌}
use Rattle.std.specs.Prelude.{IsTrue}
use Rattle.dt_sched.specs.Core.{is_distinct, owing_vpids}
use Rattle.dt_engine.specs.declared.state.State.{State}
use Rattle.dt_engine.specs.InPlay.{EngineView}
use Rattle.dt_engine.proofs.Queueing.{owing-is}
use Rattle.dt_engine.proofs.engine.Engine.owing.Goals as goal

pub returns : goal.returns
returns c = λ w.
    let same = ap (λ (e : EngineView). e.state) c.self.view_is in
    c.owing.ensures.order
    ∙ ap (λ (s : State). owing_vpids s.core.queue) same
    ∙ sym (owing-is c.args.self.now.state w c.requires.kept
    (subst (λ (s : State). IsTrue (is_distinct s.core.queue)) same c.owing.ensures.sound.each_once))
