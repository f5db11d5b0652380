use Rattle.dt_runlaws.proofs.VersionRuns.{states-keep-version}
use Rattle.dt_runlaws.proofs.version.each_state_of_a_run_keeps_the_version.Goals as goal

pub returns : goal.returns
returns c = states-keep-version
