use Rattle.std.proofs.Common.{◌∙◌, sym}
use Rattle.dt_signals.specs.Signals.{is_dropped}
use Rattle.dt_signals.proofs.Sets.{set-none, set-with, set-without}
use Rattle.dt_signals.proofs.signals.Sig.dropped_signals.Goals as goal
use Rattle.dt_signals.proofs.signals.Sig.dropped_signals.Goals.{then-is_dropped, else-is_dropped}

pub loop-index-init : goal.loop-index-init
loop-index-init c = sym (set-none (is_dropped c.args.self.now))

pub loop-index-preserved : goal.loop-index-preserved
loop-index-preserved c = elim c.if-is_dropped.branch [
  | then-is_dropped w ↦ set-with (is_dropped c.args.self.now) c.loop-index.index _ _ _ c.loop-index.invariant w.bit_of-set.ensures w.set-is (sym c.is_dropped.ensures ∙ w.if-is_dropped.true)
  | else-is_dropped w ↦ set-without (is_dropped c.args.self.now) c.loop-index.index _ _ c.loop-index.invariant w.set-is (sym c.is_dropped.ensures ∙ w.if-is_dropped.false)
]
