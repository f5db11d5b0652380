use Rattle.std.proofs.Common.{◌∙◌, arith}
use Rattle.dt_rv64.proofs.Kept.{words-set}
use Rattle.dt_signals.proofs.Frames.{read-none, read-more, read-all, zeros-fit}
use Rattle.dt_signals.proofs.frame.registers_in.Goals as goal

pub loop-index-init : goal.loop-index-init
loop-index-init c = (read-none c.args.frame.now, zeros-fit 32)

pub loop-index-preserved : goal.loop-index-preserved
loop-index-preserved c =
    (rw (c.word_in.ensures, c.loop-index.invariant.0) (read-more c.args.frame.now c.loop-index.index (omega arith) (omega arith)), λ i. words-set c.loop-index.registers c.loop-index.index c.word_in.result i c.loop-index.invariant.1 c.word_in.type_inv)

pub returns-clause-registers : goal.returns-clause-registers
returns-clause-registers c = c.loop-index.invariant.0 ∙ read-all c.args.frame.now c.loop-index.index (omega arith)

pub returns-clause-words : goal.returns-clause-words
returns-clause-words c = c.loop-index.invariant.1
