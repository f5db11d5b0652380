-- Why words are refused, by what clap says of them.
use Rattle.clap.specs.declared.error.kind.ErrorKind.{ErrorKind}
use Rattle.clap.specs.declared.error.kind.ErrorKind.TheVariants.{OutOfMemory}
use Rattle.dt_options.specs.declared.options.UsageErr.{UsageErr}
use Rattle.dt_options.specs.declared.options.UsageErr.TheVariants.{Refused, NoMemory}

-- the error for what clap says of the words that it reads: each refusal is one, and want of memory stays that
abbrev pub usage_err_of_kind : ErrorKind → UsageErr
usage_err_of_kind OutOfMemory = NoMemory
usage_err_of_kind _ = Refused
