use Rattle.std.proofs.Common.{sym, arith}
use Rattle.dt_signals.proofs.Sets.{nothing-dropped_signals}
use Rattle.dt_signals.proofs.signals.Sig.drop_ignored.Goals as goal

-- where nothing is due nothing is dropped
pub returns-else-self-ne0 : goal.returns-else-self-ne0
returns-else-self-ne0 c = sym (nothing-dropped_signals c.args.self.now (omega arith) (omega arith) c.if-self-ne0.false)
