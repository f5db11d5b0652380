use Rattle.std.proofs.Common.{◌≡◌, ◌<◌, true, sym, ap, subst, ◌∙◌}
use Rattle.std.specs.FinMap.{get}
use Rattle.dt_calls.specs.Sound.{IsSoundContainer}
use Rattle.dt_engine.specs.Happenings.{is_live}
use Rattle.dt_engine.specs.Lent.{playing_with_work, returned_work}
use Rattle.dt_engine.specs.InPlay.{EngineView, playing_of, works_of, steps_left}
use Rattle.dt_engine.proofs.Arriving.{run-counts}
use Rattle.dt_rounds.proofs.Brought.{away-at, comes-home}
use Rattle.dt_rounds.proofs.live.Live.fetch.Goals as goal

pub ran-requires-clause-away : goal.ran-requires-clause-away
ran-requires-clause-away c =
    ap (λ (e : EngineView). get (works_of e) c.remove-lent.result.vpid) c.home_of.ensures.engine
    ∙ away-at c.args.self.now.engine c.args.self.now.lents.items c.args.index c.remove-lent.result c.remove-lent.ensures.value
    c.requires.index c.requires.running c.requires.away

pub ran-requires-clause-count : goal.ran-requires-clause-count
ran-requires-clause-count c =
    run-counts c.remove-lent.result.copy c.in_ok-machine.machine c.in_ok-machine.seg c.in_ok-machine.ensures.ran

pub returns-clause-keeps : goal.returns-clause-keeps
returns-clause-keeps c =
    let lent = c.remove-lent.result in
    let same = c.home_of.ensures.engine in
    comes-home c.args.self.now.engine c.args.self.now.lents.items c.args.index lent c.remove-lent.ensures.value
    c.requires.index c.requires.running c.in_ok-machine.machine c.in_ok-machine.seg c.in_ok-machine.ensures.ran
    c.ran.new.self c.home_of.new.self.lents.items (c.home_of.ensures.lents ∙ c.remove-lent.ensures.items)
    (λ w. c.ran.ensures.run w
    ∙ ap (λ (e : EngineView). playing_with_work lent.vpid (returned_work c.in_ok-machine.machine c.in_ok-machine.seg) (playing_of e w)) same)
    (λ w live. subst (λ (e : EngineView). steps_left c.ran.new.self.state.core < steps_left e.state.core) same
    (c.ran.ensures.nearer w
    (subst (λ (e : EngineView). let p = playing_of e w in is_live lent.vpid p.state ≡ true) (sym same) live)))
    c.ran.ensures.whole
    (λ w sound. c.ran.ensures.sound w (subst (λ (e : EngineView). IsSoundContainer e.state.container w) (sym same) sound))
