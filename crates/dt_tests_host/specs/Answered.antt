-- What a call comes to that may be refused.
use Rattle.std.specs.Prelude.{Result, Ok, Err}
use Rattle.dt_base.specs.declared.errno.Errno.{Errno}
use Rattle.dt_host.specs.declared.error.HostErr.{HostErr}
use Rattle.dt_host.specs.declared.error.CallErr.{CallErr}
use Rattle.dt_host.specs.declared.error.CallErr.TheVariants.{Errno as is_refused, Host as has_failed}

-- a refusal is an outcome of its own, and a failure of the host stays one
abbrev pub answered : {A : Type 0} → (Errno → A) → Result A CallErr → Result A HostErr
answered refused (Ok outcome) = Ok outcome
answered refused (Err (is_refused errno)) = Ok (refused errno)
answered refused (Err (has_failed error)) = Err error
