use Rattle.std.proofs.Common.{◌∙◌, arith}
use Rattle.dt_engine.proofs.state.State.turn.Goals as goal

pub returns-clause-ok : goal.returns-clause-ok
returns-clause-ok g c =
    c.in_ok-events.ensures.ok ∙ c.wake.ensures.turned (g.H.Host.view c.take.new.host) c.in_ok-events.events.items

pub returns-clause-sound : goal.returns-clause-sound
returns-clause-sound g c = c.wake.ensures.sound (g.H.Host.view c.take.new.host) c.in_ok-events.ensures.sound

pub returns-clause-good : goal.returns-clause-good
returns-clause-good g c = λ good. c.wake.ensures.good (c.in_ok-events.ensures.good good)

pub returns-clause-smaller : goal.returns-clause-smaller
returns-clause-smaller g c = omega (arith, c.wake.ensures.steps, c.in_ok-events.ensures.smaller)
