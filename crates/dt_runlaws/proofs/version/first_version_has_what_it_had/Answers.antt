use Rattle.dt_runlaws.proofs.VersionFirst.{first-version}
use Rattle.dt_runlaws.proofs.version.first_version_has_what_it_had.Goals as goal

pub returns : goal.returns
returns c = first-version
