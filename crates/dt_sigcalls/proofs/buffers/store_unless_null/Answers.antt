use Rattle.dt_space.proofs.Spaces.{IsBytes-slice}
use Rattle.dt_signals.proofs.Stored.{Stores-space}
use Rattle.dt_sigcalls.proofs.buffers.store_unless_null.Goals as goal

pub returns-clause-sound : goal.returns-clause-sound
returns-clause-sound c =
    Stores-space _ _ _ _ _ (IsBytes-slice c.args.bytes.now (λ i. (c.type_inv.bytes i).fits)) c.pages-sound.ensures.sound c.write_bytes.ensures.stored c.write_bytes.ensures.kept
