-- Why a buffer in several ranges could not be read (writev(2)).
use Rattle.std.specs.Prelude.{◌≡◌, List, Err}
use Rattle.dt_space.specs.declared.access.ReadErr.{ReadErr}
use Rattle.dt_space.specs.declared.access.ReadErr.TheVariants as read_err
use Rattle.dt_space.specs.Space.{PageView}
use Rattle.dt_iocalls.specs.declared.ranges.Range.{Range}
use Rattle.dt_iocalls.specs.Ranges.{gathered_bytes}

-- why bytes of ranges were not gathered: the first miss, or want of memory
abbrev pub IsGatherErr : List PageView → List Range → ReadErr → Type 0
IsGatherErr pages ranges (read_err.Miss miss) = gathered_bytes pages ranges ≡ Err miss
IsGatherErr pages ranges read_err.NoMemory = Unit {0}
