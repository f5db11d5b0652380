use Rattle.std.specs.Fmt.{digits}
use Rattle.dt_run.proofs.failure.image_line.Goals as goal

pub returns-in-NoIndex : goal.returns-in-NoIndex
unfolding digits
returns-in-NoIndex c = rw c.in-NoIndex.is

pub returns-in-BadIndex : goal.returns-in-BadIndex
unfolding digits
returns-in-BadIndex c = rw c.in-BadIndex.is

pub returns-in-BadPath : goal.returns-in-BadPath
unfolding digits
returns-in-BadPath c = rw c.in-BadPath.is

pub returns-in-Twice : goal.returns-in-Twice
unfolding digits
returns-in-Twice c = rw c.in-Twice.is

pub returns-in-NoParent : goal.returns-in-NoParent
unfolding digits
returns-in-NoParent c = rw c.in-NoParent.is

pub returns-in-NoBlob : goal.returns-in-NoBlob
unfolding digits
returns-in-NoBlob c = rw c.in-NoBlob.is

pub returns-in-TooBig : goal.returns-in-TooBig
unfolding digits
returns-in-TooBig c = rw c.in-TooBig.is

pub returns-in-TooMany : goal.returns-in-TooMany
unfolding digits
returns-in-TooMany c = rw c.in-TooMany.is

pub returns-in-NoInput : goal.returns-in-NoInput
unfolding digits
returns-in-NoInput c = rw c.in-NoInput.is

pub returns-in-InputBig : goal.returns-in-InputBig
unfolding digits
returns-in-InputBig c = rw c.in-InputBig.is

pub returns-in-BadSteps : goal.returns-in-BadSteps
unfolding digits
returns-in-BadSteps c = rw c.in-BadSteps.is
