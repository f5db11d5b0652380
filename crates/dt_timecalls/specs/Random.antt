-- The call that draws random bytes: getrandom(2).
use Rattle.std.specs.Prelude.{ℕ, List, Result, Ok, Err, nat_lt, if◌then◌else◌}
use Rattle.dt_base.specs.Abi.{low_word, byte_count}
use Rattle.dt_base.specs.declared.errno.Errno.TheVariants.{Inval, Fault as BadAddress}
use Rattle.dt_space.specs.declared.access.Miss.{Miss}
use Rattle.dt_space.specs.Space.{PageView}
use Rattle.dt_space.specs.Write.{pages_after_store}
use Rattle.dt_virt.specs.Words.{next_bytes, rest_after}
use Rattle.dt_base.specs.declared.abi.TheConstants.{GRND_ALL}
use Rattle.dt_callbase.specs.Arguments.{argument}
use Rattle.dt_callbase.specs.Scene.{Scene, Reply, refused_reply, value_reply}

-- so many bytes came into a buffer, and their words are used up: EFAULT where the buffer may not be written
abbrev pub draw_result_reply : Scene → ℕ → Result (List PageView) Miss → Reply
draw_result_reply s count (Err miss) = refused_reply s BadAddress
draw_result_reply s count (Ok pages) = value_reply (record s { rand = rest_after s.rand count; space = pages }) count

-- the next bytes of the seed's words go to a buffer
abbrev pub draw_reply : ℕ → ℕ → Scene → Reply
draw_reply buffer count s = draw_result_reply s count (pages_after_store s.space buffer (next_bytes s.rand count))

-- fills a buffer with the next bytes of the seed's words; EINVAL for flags that there are not (getrandom(2))
unfoldable pub getrandom_row : List ℕ → Scene → Reply
getrandom_row args s =
    if nat_lt GRND_ALL (low_word (argument args 2)) then refused_reply s Inval
    else draw_reply (argument args 0) (byte_count (argument args 1)) s
