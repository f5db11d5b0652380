use Rattle.std.proofs.Common.{◌∙◌}
use Rattle.dt_engine.proofs.Waited.{turn-goes-on, awake-goes-on}
use Rattle.dt_engine.proofs.state.State.wake.Goals as goal

-- not all wait
pub returns-in_default-clause-turned : goal.returns-in_default-clause-turned
returns-in_default-clause-turned c = λ w events.
    turn-goes-on c.args.self.now w events (λ is. c.in_default.not-AllWait (c.head.ensures.head ∙ is))

pub returns-in_default-clause-awake : goal.returns-in_default-clause-awake
returns-in_default-clause-awake c =
    awake-goes-on c.args.self.now.core c.head.ensures.sound (λ is. c.in_default.not-AllWait (c.head.ensures.head ∙ is))
