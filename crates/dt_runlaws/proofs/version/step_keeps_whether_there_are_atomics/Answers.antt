use Rattle.dt_runlaws.proofs.VersionMachines.{steps-keep-atomics}
use Rattle.dt_runlaws.proofs.version.step_keeps_whether_there_are_atomics.Goals as goal

pub returns : goal.returns
returns c = steps-keep-atomics
