use Rattle.dt_signals.proofs.Entries.{entry-read}
use Rattle.dt_signals.proofs.laws.entry_leaves_its_frame.Goals as goal

pub returns : goal.returns
returns c = entry-read
