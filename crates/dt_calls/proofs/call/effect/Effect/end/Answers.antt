use Rattle.std.proofs.Common.{sym}
use Rattle.dt_calls.proofs.call.effect.Effect.end.Goals as goal

pub returns-clause-ended : goal.returns-clause-ended
returns-clause-ended g c = λ m i. record {
  shared = sym c.in_ok-end.ensures.ended i;
  machine = m;
  child = c.args.self.now.child;
  events = sym c.in_ok-end.ensures.shown i;
  served = sym c.ended-self.ensures i;
}
