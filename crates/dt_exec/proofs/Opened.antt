-- The bytes of a node that is a file.
use Rattle.std.proofs.Common.{◌≡◌, ℕ, List, [], Option, Some, None, Ok, refl}
use Rattle.std.specs.Prelude.{IsSome, unwrap_or}
use Rattle.dt_host.specs.World.{Forest, file_at, IsFile, content}
use Rattle.dt_exec.specs.Program.{file_or_errno}

-- the bytes of a node that is a file
pub file-bytes : (v : Forest) (n : ℕ) → IsFile v n → Ok (content v n) ≡ file_or_errno (file_at v n)
unfolding content
file-bytes v n is = by_file (file_at v n) is
  where
    by_file : (found : Option (List ℕ)) → IsSome found → Ok (unwrap_or found []) ≡ file_or_errno found
    by_file None is = cc
    by_file (Some bytes) is = refl
