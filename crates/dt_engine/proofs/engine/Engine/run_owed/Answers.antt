use Rattle.std.proofs.Common.{◌==◌, sym, ap, subst, ◌∙◌}
use Rattle.std.specs.Prelude.{IsTrue}
use Rattle.std.specs.List.{list_any}
use Rattle.dt_sched.specs.Core.{is_distinct, owing_vpids}
use Rattle.dt_engine.specs.declared.state.State.{State}
use Rattle.dt_engine.specs.declared.happening.Happening.TheVariants.{Ran}
use Rattle.dt_engine.specs.Ahead.{with_segment_of}
use Rattle.dt_engine.specs.Happenings.{Step}
use Rattle.dt_engine.specs.InCode.{state_of}
use Rattle.dt_engine.specs.InPlay.{EngineView, playing_of, IsInPlay}
use Rattle.dt_engine.specs.inner.Good.{IsGood}
use Rattle.dt_engine.proofs.Kept.{kept-good}
use Rattle.dt_engine.proofs.Queueing.{owes-alive}
use Rattle.dt_engine.proofs.Happened.{no-step, a-step}
use Rattle.dt_engine.proofs.engine.Engine.run_owed.Goals as goal

pub returns-then-not-contains-clause-may : goal.returns-then-not-contains-clause-may
returns-then-not-contains-clause-may c = λ w.
    let same = ap (λ (e : EngineView). e.state) c.self.view_is in
    sym (owes-alive c.args.self.now.state w c.args.vpid c.requires.good
    (subst (λ (s : State). IsTrue (is_distinct s.core.queue)) same c.owing.ensures.sound.each_once))
    ∙ ap (λ ps. list_any (λ q. q == c.args.vpid) ps) (sym (c.owing.ensures.order ∙ ap (λ (s : State). owing_vpids s.core.queue) same))
    ∙ sym c.contains.ensures.value ∙ c.if-not-contains.true

pub returns-then-not-contains-clause-run : goal.returns-then-not-contains-clause-run
returns-then-not-contains-clause-run c = λ w.
    ap (λ (t : Step). t.next) (no-step (playing_of c.args.self.now w) (Ran c.args.vpid) (returns-then-not-contains-clause-may c w))

pub arrive-requires-clause-good : goal.arrive-requires-clause-good
arrive-requires-clause-good c = subst IsGood (sym (ap (λ (e : EngineView). e.state) c.self.view_is)) c.requires.good

pub returns-clause-may : goal.returns-clause-may
returns-clause-may c = λ w.
    let same = ap (λ (e : EngineView). e.state) c.self.view_is in
    sym (owes-alive c.args.self.now.state w c.args.vpid c.requires.good
    (subst (λ (s : State). IsTrue (is_distinct s.core.queue)) same c.owing.ensures.sound.each_once))
    ∙ ap (λ ps. list_any (λ q. q == c.args.vpid) ps) (sym (c.owing.ensures.order ∙ ap (λ (s : State). owing_vpids s.core.queue) same))
    ∙ sym c.contains.ensures.value ∙ c.if-not-contains.false

pub returns-clause-run : goal.returns-clause-run
returns-clause-run c = λ w.
    let verdict = c.self.inside.verdict in
    ap (λ (t : Step). t.next) (a-step (playing_of c.args.self.now w) (Ran c.args.vpid) (returns-clause-may c w))
    ∙ ap (λ (e : EngineView). record { state = with_segment_of c.args.vpid (state_of e.state w); verdict = e.verdict }) (sym c.self.view_is)
    ∙ ap (λ state. record { state = state; verdict = verdict }) (sym (c.in_ok-arrive.ensures.ran w))

pub returns-clause-whole : goal.returns-clause-whole
returns-clause-whole c =
    let whole = subst IsInPlay (sym c.self.view_is) c.requires.whole in
    record {
      kept = kept-good c.arrive.new.self c.in_ok-arrive.ensures.good;
      running = λ none. c.in_ok-arrive.ensures.verdict ∙ whole.running none;
      awake = c.in_ok-arrive.ensures.awake whole.awake;
    }
