use Rattle.dt_runlaws.proofs.VersionRuns.{runs-keep-version}
use Rattle.dt_runlaws.proofs.version.run_keeps_the_version_of_its_image.Goals as goal

pub returns : goal.returns
returns c = runs-keep-version
