-- What holds of each version.
use Rattle.std.proofs.Common.{ℕ, ◌≤◌, arith}
use Rattle.std.proofs.lemmas.Bool.Decides.{nat_tests}
use Rattle.dt_base.specs.declared.limits.TheConstants.{FILE_LIMIT}
use Rattle.dt_base.specs.Profile.{file_limit}

-- no version has a greater limit of a file
pub file_limit-most : (version : ℕ) → file_limit version ≤ FILE_LIMIT
file_limit-most version = grind (arith, nat_tests)
