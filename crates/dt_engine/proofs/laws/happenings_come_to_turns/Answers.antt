use Rattle.dt_engine.proofs.Plays.{played-turns}
use Rattle.dt_engine.proofs.laws.happenings_come_to_turns.Goals as goal

pub returns : goal.returns
returns c = played-turns
