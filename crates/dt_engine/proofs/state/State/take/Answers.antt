use Rattle.std.proofs.Common.{◌<◌, sym, ap, subst, ◌∙◌}
use Rattle.std.specs.Prelude.{IsTrue}
use Rattle.dt_sched.specs.Core.{head, has_room, core_after_turn}
use Rattle.dt_calls.specs.AtHome.{KeepPlaces}
use Rattle.dt_engine.specs.declared.state.State.{State as StateInCode}
use Rattle.dt_engine.specs.Turn.{settled_of}
use Rattle.dt_engine.specs.inner.InCode.{stops_after}
use Rattle.dt_engine.proofs.Came.{came, ready-home, ready-noted, turn-has, good-has, kept-has, room-came, steps-came}
use Rattle.dt_engine.proofs.state.State.take.Goals as goal

pub serve-requires-clause-home : goal.serve-requires-clause-home
serve-requires-clause-home g c = ready-home c.args.self.now c.args.vpid c.requires.kept c.requires.ready

pub serve-requires-clause-noted : goal.serve-requires-clause-noted
serve-requires-clause-noted g c = ready-noted c.args.self.now c.args.vpid c.requires.kept c.requires.ready

pub settle-requires-clause-ready : goal.settle-requires-clause-ready
settle-requires-clause-ready g c = (c.args.vpid, ap (λ (s : StateInCode). head s.core) c.in_ok-served.ensures.rest ∙ c.requires.ready)

pub settle-requires-clause-room : goal.settle-requires-clause-room
settle-requires-clause-room g c =
    let before = g.H.Host.view c.args.host.now in
    let now = g.H.Host.view c.serve.new.host in
    let to = c.serve.new.self.container in
    let h = came c.args.self.now before c.args.vpid to now c.in_ok-served.served
    c.requires.kept c.requires.core c.requires.ready c.in_ok-served.ensures.ok in
    subst (λ t. IsTrue (has_room c.serve.new.self.core.queue t)) (sym c.settled_of.ensures)
    (subst (λ (s : StateInCode). IsTrue (has_room s.core.queue (settled_of c.in_ok-served.served))) (sym c.in_ok-served.ensures.rest)
    (room-came c.args.self.now before c.args.vpid to now c.in_ok-served.served h
    (subst (λ n. KeepPlaces n c.in_ok-served.served c.args.self.now.container.places to.places) (sym h.head.vpid)
    c.in_ok-served.ensures.places) c.in_ok-served.ensures.sound))

pub returns-clause-ok : goal.returns-clause-ok
returns-clause-ok g c =
    let before = g.H.Host.view c.args.host.now in
    let now = g.H.Host.view c.serve.new.host in
    let to = c.serve.new.self.container in
    let h = came c.args.self.now before c.args.vpid to now c.in_ok-served.served
    c.requires.kept c.requires.core c.requires.ready c.in_ok-served.ensures.ok in
    turn-has c.args.self.now before c.args.vpid to now c.in_ok-served.served h _
    (record {
      container = c.take_events.ensures.rest;
      told_so = c.settled_of.result;
      told_is = c.settled_of.ensures;
      core = c.settle.ensures.core ∙ ap (λ (s : StateInCode). core_after_turn s.core c.settled_of.result) c.in_ok-served.ensures.rest;
      stops = c.in_ok-note.ensures
          ∙ ap (λ (s : StateInCode). stops_after s.stops c.args.vpid c.in_ok-served.served) c.in_ok-served.ensures.rest;
    })
    _ c.take_events.ensures.events

pub returns-clause-good : goal.returns-clause-good
returns-clause-good g c = λ good.
    let before = g.H.Host.view c.args.host.now in
    let now = g.H.Host.view c.serve.new.host in
    let to = c.serve.new.self.container in
    let h = came c.args.self.now before c.args.vpid to now c.in_ok-served.served
    c.requires.kept c.requires.core c.requires.ready c.in_ok-served.ensures.ok in
    good-has c.args.self.now before c.args.vpid to now c.in_ok-served.served h _
    (record {
      container = c.take_events.ensures.rest;
      told_so = c.settled_of.result;
      told_is = c.settled_of.ensures;
      core = c.settle.ensures.core ∙ ap (λ (s : StateInCode). core_after_turn s.core c.settled_of.result) c.in_ok-served.ensures.rest;
      stops = c.in_ok-note.ensures
          ∙ ap (λ (s : StateInCode). stops_after s.stops c.args.vpid c.in_ok-served.served) c.in_ok-served.ensures.rest;
    }) good

pub returns-clause-kept : goal.returns-clause-kept
returns-clause-kept g c =
    let before = g.H.Host.view c.args.host.now in
    let now = g.H.Host.view c.serve.new.host in
    let to = c.serve.new.self.container in
    let h = came c.args.self.now before c.args.vpid to now c.in_ok-served.served
    c.requires.kept c.requires.core c.requires.ready c.in_ok-served.ensures.ok in
    kept-has c.args.self.now before c.args.vpid to now c.in_ok-served.served h _
    (record {
      container = c.take_events.ensures.rest;
      told_so = c.settled_of.result;
      told_is = c.settled_of.ensures;
      core = c.settle.ensures.core ∙ ap (λ (s : StateInCode). core_after_turn s.core c.settled_of.result) c.in_ok-served.ensures.rest;
      stops = c.in_ok-note.ensures
          ∙ ap (λ (s : StateInCode). stops_after s.stops c.args.vpid c.in_ok-served.served) c.in_ok-served.ensures.rest;
    }) c.in_ok-served.ensures.places

pub returns-clause-smaller : goal.returns-clause-smaller
returns-clause-smaller g c =
    steps-came c.args.self.now.core c.settle.new.self c.args.vpid c.settled_of.result
    c.requires.core c.requires.ready
    (c.settle.ensures.core ∙ ap (λ (s : StateInCode). core_after_turn s.core c.settled_of.result) c.in_ok-served.ensures.rest)
    (subst (λ (s : StateInCode). c.settle.new.self.left < s.core.left) c.in_ok-served.ensures.rest c.settle.ensures.falls)
