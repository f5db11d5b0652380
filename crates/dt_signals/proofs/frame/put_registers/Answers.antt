use Rattle.std.proofs.Common.{◌∙◌, [], drop, length-drop, sym, arith}
use Rattle.dt_signals.proofs.Frames.{registers-none, registers-more, registers-all, length-bytes_of}
use Rattle.dt_signals.proofs.frame.put_registers.Goals as goal

pub loop-index-init : goal.loop-index-init
loop-index-init c = sym (registers-none c.args.frame.now [])

pub loop-index-preserved : goal.loop-index-preserved
loop-index-preserved c =
    c.put64.ensures ∙ rw c.loop-index.invariant (registers-more c.args.frame.now c.args.registers.now c.loop-index.index 0 (omega arith) (omega arith) (omega arith))

pub returns-clause-put : goal.returns-clause-put
returns-clause-put c = c.loop-index.invariant ∙ registers-all c.args.frame.now c.args.registers.now c.loop-index.index (omega arith)

pub returns-clause-up_to_mask : goal.returns-clause-up_to_mask
returns-clause-up_to_mask c = omega (arith, length-bytes_of (drop 1 c.args.registers.now), length-drop 1 c.args.registers.now)
