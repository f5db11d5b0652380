use Rattle.std.proofs.Common.{arith}
use Rattle.dt_signals.proofs.Actions.{kept-more}
use Rattle.dt_signals.proofs.signals.Sig.after_exec.Goals as goal

pub loop-index-preserved : goal.loop-index-preserved
loop-index-preserved c =
    kept-more c.args.self.now c.loop-index.self c.loop-index.index c.after_exec.result _ (omega arith) c.loop-index.invariant c.after_exec.ensures
