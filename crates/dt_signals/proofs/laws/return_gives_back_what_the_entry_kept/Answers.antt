use Rattle.dt_signals.proofs.GivenBack.{return-back}
use Rattle.dt_signals.proofs.laws.return_gives_back_what_the_entry_kept.Goals as goal

pub returns : goal.returns
returns c = return-back
