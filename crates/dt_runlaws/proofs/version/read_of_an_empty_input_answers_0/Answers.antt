use Rattle.dt_runlaws.proofs.VersionInput.{empty-input}
use Rattle.dt_runlaws.proofs.version.read_of_an_empty_input_answers_0.Goals as goal

pub returns : goal.returns
returns c = empty-input
