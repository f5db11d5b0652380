use Rattle.dt_exec.proofs.NoNul.{script-no_nul}
use Rattle.dt_exec.proofs.script.script_of.Goals as goal

pub returns-clause-no_nul : goal.returns-clause-no_nul
returns-clause-no_nul c = script-no_nul c.script_of_line.result c.first_line.result.now c.script_of_line.ensures
