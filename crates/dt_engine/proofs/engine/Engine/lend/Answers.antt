use Rattle.std.proofs.Common.{sym, ap, subst, ◌∙◌}
use Rattle.std.specs.Prelude.{IsTrue, None}
use Rattle.std.specs.FinMap.{get}
use Rattle.dt_calls.specs.InCode.{ContainerView}
use Rattle.dt_calls.specs.Sound.{IsSoundContainer}
use Rattle.dt_calls.proofs.Homes.{home-place}
use Rattle.dt_engine.specs.Happenings.{is_owing_work}
use Rattle.dt_engine.specs.Lent.{playing_without_work}
use Rattle.dt_engine.specs.InCode.{state_of}
use Rattle.dt_engine.specs.InPlay.{EngineView, playing_of, works_of, with_places, IsKept, IsInPlay}
use Rattle.dt_engine.proofs.Engines.{lent-home, lent-work, lent-run, lent-kept, sound-placed}
use Rattle.dt_engine.proofs.engine.Engine.lend.Goals as goal

pub take_machine-requires : goal.take_machine-requires
take_machine-requires c =
    lent-home c.self.inside.state c.args.vpid
    (subst (λ (e : EngineView). IsTrue (is_owing_work (get (works_of e) c.args.vpid))) (sym c.self.view_is) c.requires.owing)

pub returns-clause-work : goal.returns-clause-work
returns-clause-work c =
    ap (λ (e : EngineView). get (works_of e) c.args.vpid) (sym c.self.view_is)
    ∙ lent-work c.self.inside.state c.args.vpid
    (subst (λ (e : EngineView). IsTrue (is_owing_work (get (works_of e) c.args.vpid))) (sym c.self.view_is) c.requires.owing)
    c.take_machine.result c.take_machine.ensures.machine

pub returns-clause-run : goal.returns-clause-run
returns-clause-run c = λ w.
    let s = c.self.inside.state in
    let verdict = c.self.inside.verdict in
    ap (λ (container : ContainerView). record { state = state_of (record s { container = container }) w; verdict = verdict }) c.take_machine.ensures.rest
    ∙ ap (λ state. record { state = state; verdict = verdict }) (lent-run s c.args.vpid
    (subst (λ (e : EngineView). IsTrue (is_owing_work (get (works_of e) c.args.vpid))) (sym c.self.view_is) c.requires.owing) w)
    ∙ ap (λ (e : EngineView). playing_without_work c.args.vpid (playing_of e w)) c.self.view_is

pub returns-clause-whole : goal.returns-clause-whole
returns-clause-whole c =
    let s = c.self.inside.state in
    let whole = subst IsInPlay (sym c.self.view_is) c.requires.whole in
    record {
      kept = subst (λ (container : ContainerView). IsKept (record s { container = container })) (sym c.take_machine.ensures.rest)
          (lent-kept s c.args.vpid
          (subst (λ (e : EngineView). IsTrue (is_owing_work (get (works_of e) c.args.vpid))) (sym c.self.view_is) c.requires.owing)
          whole.kept c.owing-queue.ensures.sound.each_once);
      running = whole.running;
      awake = whole.awake;
    }

pub returns-clause-sound : goal.returns-clause-sound
returns-clause-sound c = λ w sound.
    let s = c.self.inside.state in
    let home = lent-home s c.args.vpid
    (subst (λ (e : EngineView). IsTrue (is_owing_work (get (works_of e) c.args.vpid))) (sym c.self.view_is) c.requires.owing) in
    subst (λ (container : ContainerView). IsSoundContainer container w) (sym c.take_machine.ensures.rest)
    (sound-placed s.container w c.args.vpid None (home-place s.container.places c.args.vpid home)
    (subst (λ (e : EngineView). IsSoundContainer e.state.container w) (sym c.self.view_is) sound))

pub returns-clause-rest : goal.returns-clause-rest
returns-clause-rest c =
    let s = c.self.inside.state in
    let verdict = c.self.inside.verdict in
    let finished = c.self.inside.finished in
    let rest = c.take_machine.ensures.rest in
    ap (λ (container : ContainerView). record { state = record s { container = container }; verdict = verdict; finished = finished })
    (rest ∙ ap (λ places. record s.container { places = places }) (sym (ap (λ (v : ContainerView). v.places) rest)))
    ∙ ap (λ (e : EngineView). with_places e c.take_machine.new.self.places) c.self.view_is
