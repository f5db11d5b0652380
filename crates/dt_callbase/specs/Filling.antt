-- A call that puts bytes into a buffer.
use Rattle.std.specs.Prelude.{ℕ, List, length, Result, Ok, Err}
use Rattle.dt_base.specs.declared.errno.Errno.TheVariants.{Fault as BadAddress}
use Rattle.dt_space.specs.declared.access.Miss.{Miss}
use Rattle.dt_space.specs.Space.{PageView}
use Rattle.dt_space.specs.Write.{pages_after_store}
use Rattle.dt_callbase.specs.Scene.{Scene, Reply, refused_reply, value_reply}

-- the pages after a buffer is filled, and the answer
abbrev pub filled_reply : Scene → ℕ → Result (List PageView) Miss → Reply
filled_reply s value (Err miss) = refused_reply s BadAddress
filled_reply s value (Ok pages) = value_reply (record s { space = pages }) value

-- these bytes go to a buffer, and this is the answer: EFAULT where one of the bytes may not be written
abbrev pub fill_reply : Scene → ℕ → List ℕ → ℕ → Reply
fill_reply s buffer bytes value = filled_reply s value (pages_after_store s.space buffer bytes)

-- these bytes go to a buffer, and their number is the answer
abbrev pub whole_fill_reply : Scene → ℕ → List ℕ → Reply
whole_fill_reply s buffer bytes = fill_reply s buffer bytes (length bytes)
