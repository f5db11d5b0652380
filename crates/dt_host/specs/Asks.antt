-- What a function says of a host, or of a store, that it only asks.
use Rattle.std.specs.Prelude.{◌≡◌, ℕ, Result, IsErrOf}
use Rattle.dt_host.specs.Cause.{HasCause}
use Rattle.dt_host.specs.declared.error.HostErr.{HostErr}
use Rattle.dt_host.specs.declared.error.HostErr.TheVariants.{Failed}

-- it was only asked: what it shows stays, and the error of a call that failed has its cause
pub record AsksOr {S V A E : Type 0} (view : S → V) (count : S → ℕ) (failed : E) (old new : S) (result : Result A E) : Type 0 where
  pub stays : view new ≡ view old
  pub cause : HasCause (count old) (count new) (IsErrOf result failed)

-- a host was only asked: what it holds stays, and a failure has its cause
abbrev pub Asks : {S V A : Type 0} → (S → V) → (S → ℕ) → S → S → Result A HostErr → Type 0
Asks view count old new result = AsksOr view count Failed old new result
