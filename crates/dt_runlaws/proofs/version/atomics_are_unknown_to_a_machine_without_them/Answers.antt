use Rattle.dt_runlaws.proofs.VersionMachines.{atomics-are-unknown}
use Rattle.dt_runlaws.proofs.version.atomics_are_unknown_to_a_machine_without_them.Goals as goal

pub returns : goal.returns
returns c = atomics-are-unknown
