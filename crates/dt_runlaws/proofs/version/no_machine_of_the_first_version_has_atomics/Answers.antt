use Rattle.dt_runlaws.proofs.VersionRuns.{first-version-has-no-atomics}
use Rattle.dt_runlaws.proofs.version.no_machine_of_the_first_version_has_atomics.Goals as goal

pub returns : goal.returns
returns c = first-version-has-no-atomics
