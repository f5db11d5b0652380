-- Who asks and then asks again only asks, and a failure that is passed on.
use Rattle.std.proofs.Common.{arith, ◌≡◌, ◌≤◌, ℕ, Result, Ok, Err}
use Rattle.std.specs.Result.{IsErrAnd}
use Rattle.dt_host.specs.Cause.{HasCause, HasRisen}

-- a failure's cause is one from an earlier count on
pub cause-from : {P : Type 0} (old mid new : ℕ) → old ≤ mid → HasCause mid new P → HasCause old new P
cause-from old mid new before cause = record {
  later = omega (arith, before, cause.later);
  rose = λ failed. let rose : HasRisen mid new = cause.rose failed in omega (arith, before, rose);
}

-- an error that was answered is the one that was passed on
pub passed_on : {A E : Type 0} (r : Result A E) (e x : E) → IsErrAnd r (λ y. y ≡ e) → r ≡ Err x → e ≡ x
passed_on (Ok a) e x from is = absurd from
passed_on (Err y) e x from is = cc
