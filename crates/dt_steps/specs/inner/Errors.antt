-- How errors are passed on.
use Rattle.dt_steps.specs.declared.error.StepsErr.{StepsErr}
use Rattle.dt_steps.specs.declared.error.StepsErr.TheVariants as steps
use Rattle.dt_steps.specs.declared.step.NoImage.{NoImage}
use Rattle.dt_steps.specs.declared.step.NoImage.TheVariants.{LongPath, TooMany}

-- for want of an image
abbrev pub steps_err_of_none : NoImage → StepsErr
steps_err_of_none LongPath = steps.LongPath
steps_err_of_none TooMany = steps.TooMany
