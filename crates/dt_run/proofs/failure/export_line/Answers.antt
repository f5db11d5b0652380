use Rattle.std.specs.Fmt.{digits}
use Rattle.dt_run.proofs.failure.export_line.Goals as goal

pub returns-in-Exists : goal.returns-in-Exists
unfolding digits
returns-in-Exists c = rw c.in-Exists.is

pub returns-in-LongPath : goal.returns-in-LongPath
unfolding digits
returns-in-LongPath c = rw c.in-LongPath.is

pub returns-in-TooMany : goal.returns-in-TooMany
unfolding digits
returns-in-TooMany c = rw c.in-TooMany.is

pub returns-in-NotText : goal.returns-in-NotText
unfolding digits
returns-in-NotText c = rw c.in-NotText.is

pub returns-in-BigIndex : goal.returns-in-BigIndex
unfolding digits
returns-in-BigIndex c = rw c.in-BigIndex.is
