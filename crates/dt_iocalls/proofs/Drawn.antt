-- Bytes of the seed's words that are read from a device.
use Rattle.std.proofs.Common.{◌≡◌, ℕ, List, Result, Ok, Err, refl}
use Rattle.std.specs.Result.{IsErr}
use Rattle.dt_base.specs.declared.errno.Errno.TheVariants.{Fault as BadAddress}
use Rattle.dt_space.specs.declared.access.Miss.{Miss}
use Rattle.dt_space.specs.Space.{PageView}
use Rattle.dt_callbase.specs.Scene.{Scene, refused_reply}
use Rattle.dt_iocalls.specs.Reading.{drawn_reply}

pub drawn-refused : (s : Scene) (count : ℕ) (pages : Result (List PageView) Miss) → IsErr pages → drawn_reply s count pages ≡ refused_reply s BadAddress
drawn-refused s count (Ok new) missed = absurd cc
drawn-refused s count (Err miss) missed = refl
