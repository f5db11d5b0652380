use Rattle.std.proofs.Common.{◌<◌, ◌==◌, Some, sym, ap, subst, ◌∙◌}
use Rattle.std.specs.List.{list_any}
use Rattle.dt_sched.specs.Core.{owing_vpids}
use Rattle.dt_calls.specs.Sound.{IsSoundContainer}
use Rattle.dt_engine.specs.declared.state.State.{State}
use Rattle.dt_engine.specs.Lent.{playing_with_work, returned_work}
use Rattle.dt_engine.specs.InCode.{state_of}
use Rattle.dt_engine.specs.InPlay.{EngineView, playing_of, IsKept, IsInPlay, steps_left}
use Rattle.dt_engine.proofs.Arriving.{arrive-smaller}
use Rattle.dt_engine.proofs.Waited.{awake-arrived}
use Rattle.dt_engine.proofs.Queueing.{owing-there, found-contained, queued-live}
use Rattle.dt_engine.proofs.Engines.{back-run, back-kept, sound-placed, away-lives, with-work-live, with-work-dead}
use Rattle.dt_engine.proofs.engine.Engine.ran.Goals as goal

pub bring_home-requires-clause-place : goal.bring_home-requires-clause-place
bring_home-requires-clause-place c =
    let s = c.self.inside.state in
    let whole = subst IsInPlay (sym c.self.view_is) c.requires.whole in
    let found = ap (λ (e : EngineView). list_any (λ q. q == c.args.vpid) (owing_vpids e.state.core.queue)) c.self.view_is ∙ sym c.owes.ensures ∙ c.if-owes.true in
    let there = owing-there s c.args.vpid s.core.queue whole.kept.kept found in there.place

pub bring_home-requires-clause-noted : goal.bring_home-requires-clause-noted
bring_home-requires-clause-noted c =
    let s = c.self.inside.state in
    let whole = subst IsInPlay (sym c.self.view_is) c.requires.whole in
    let found = ap (λ (e : EngineView). list_any (λ q. q == c.args.vpid) (owing_vpids e.state.core.queue)) c.self.view_is ∙ sym c.owes.ensures ∙ c.if-owes.true in
    let there = owing-there s c.args.vpid s.core.queue whole.kept.kept found in there.noted

pub returns-then-owes-clause-run : goal.returns-then-owes-clause-run
returns-then-owes-clause-run c = λ w.
    let s = c.self.inside.state in
    let verdict = c.self.inside.verdict in
    let p = c.args.vpid in
    let work = returned_work c.args.machine c.args.seg in
    let whole = subst IsInPlay (sym c.self.view_is) c.requires.whole in
    let found = ap (λ (e : EngineView). list_any (λ q. q == p) (owing_vpids e.state.core.queue)) c.self.view_is ∙ sym c.owes.ensures ∙ c.if-owes.true in
    let there = owing-there s p s.core.queue whole.kept.kept found in
    ap (λ (s : State). record { state = state_of s w; verdict = verdict }) c.bring_home.ensures
    ∙ ap (λ state. record { state = state; verdict = verdict }) (back-run s p c.args.machine c.args.seg w there.queued)
    ∙ with-work-live p work (record { state = state_of s w; verdict = verdict }) (sym (queued-live p s.core.queue) ∙ there.queued)
    ∙ ap (λ (e : EngineView). playing_with_work p work (playing_of e w)) c.self.view_is

pub returns-then-owes-clause-whole : goal.returns-then-owes-clause-whole
returns-then-owes-clause-whole c =
    let s = c.self.inside.state in
    let whole = subst IsInPlay (sym c.self.view_is) c.requires.whole in
    record {
      kept = subst IsKept (sym c.bring_home.ensures) (back-kept s c.args.vpid c.args.machine c.args.seg whole.kept);
      running = λ none. ap (λ (s : State). s.core.verdict) c.bring_home.ensures ∙ whole.running none;
      awake = awake-arrived s.core c.bring_home.new.self.core c.args.vpid c.args.seg.count (ap (λ (s : State). s.core) c.bring_home.ensures) whole.awake;
    }

pub returns-then-owes-clause-sound : goal.returns-then-owes-clause-sound
returns-then-owes-clause-sound c = λ w sound.
    let s = c.self.inside.state in
    let whole = subst IsInPlay (sym c.self.view_is) c.requires.whole in
    let found = ap (λ (e : EngineView). list_any (λ q. q == c.args.vpid) (owing_vpids e.state.core.queue)) c.self.view_is ∙ sym c.owes.ensures ∙ c.if-owes.true in
    let there = owing-there s c.args.vpid s.core.queue whole.kept.kept found in
    subst (λ (s : State). IsSoundContainer s.container w) (sym c.bring_home.ensures)
    (sound-placed s.container w c.args.vpid (Some c.args.machine) there.place
    (subst (λ (e : EngineView). IsSoundContainer e.state.container w) (sym c.self.view_is) sound))

pub returns-else-owes-clause-run : goal.returns-else-owes-clause-run
returns-else-owes-clause-run c = λ w.
    with-work-dead c.args.vpid (returned_work c.args.machine c.args.seg) (playing_of c.args.self.now w)
    (away-lives c.args.self.now.state w c.args.vpid c.requires.whole.kept c.requires.away
    ∙ sym c.owes.ensures ∙ c.if-owes.false)

pub returns-else-owes-clause-nearer : goal.returns-else-owes-clause-nearer
returns-else-owes-clause-nearer c = λ w live.
    let dead = away-lives c.args.self.now.state w c.args.vpid c.requires.whole.kept c.requires.away
    ∙ sym c.owes.ensures ∙ c.if-owes.false in
    let bad = sym live ∙ dead in
    cc

pub returns-then-owes-clause-nearer : goal.returns-then-owes-clause-nearer
returns-then-owes-clause-nearer c = λ w live.
    let s = c.self.inside.state in
    subst (λ (e : EngineView). steps_left c.bring_home.new.self.core < steps_left e.state.core) c.self.view_is
    (arrive-smaller s.core c.bring_home.new.self.core c.args.vpid c.args.seg.count
    (found-contained c.args.vpid (owing_vpids s.core.queue)
    (ap (λ (e : EngineView). list_any (λ q. q == c.args.vpid) (owing_vpids e.state.core.queue)) c.self.view_is ∙ sym c.owes.ensures ∙ c.if-owes.true))
    (ap (λ (s : State). s.core) c.bring_home.ensures))

pub bring_home-requires-clause-owing : goal.bring_home-requires-clause-owing
bring_home-requires-clause-owing c =
    let s = c.self.inside.state in
    found-contained c.args.vpid (owing_vpids s.core.queue)
    (ap (λ (e : EngineView). list_any (λ q. q == c.args.vpid) (owing_vpids e.state.core.queue)) c.self.view_is ∙ sym c.owes.ensures ∙ c.if-owes.true)
