-- The answers of a call that may be refused.
use Rattle.std.specs.Prelude.{◌≡◌, Result, Ok, Err}
use Rattle.dt_base.specs.declared.errno.Errno.{Errno}
use Rattle.dt_host.specs.declared.error.CallErr.{CallErr}
use Rattle.dt_host.specs.declared.error.CallErr.TheVariants.{Errno as refused, Host as failed}

-- a call answers what is defined, unless the host failed or memory was wanting
abbrev pub IsAnswer : {A : Type 0} → Result A CallErr → Result A Errno → Type 0
IsAnswer (Ok a) defined = defined ≡ Ok a
IsAnswer (Err (refused e)) defined = defined ≡ Err e
IsAnswer (Err (failed e)) defined = Unit {0}
