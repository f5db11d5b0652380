-- Inner words: no public clause cites these. A write of the bytes of ranges, and what it goes to.
use Rattle.std.specs.Prelude.{ℕ, Bool, true, false, List, [], ◌∷◌}
use Rattle.dt_fds.specs.declared.desc.DescKind.{DescKind}
use Rattle.dt_fds.specs.declared.desc.DescKind.TheVariants.{File, Dir, Device, PipeRead, PipeWrite, Input, Stream}
use Rattle.dt_iocalls.specs.declared.ranges.Range.{Range}
use Rattle.dt_iocalls.specs.Ranges.{gathered_bytes}
use Rattle.dt_iocalls.specs.Writing.{on_bytes}
use Rattle.dt_callbase.specs.Scene.{Scene, Reply, value_reply}

-- bytes are written so, and with none nothing is done
abbrev pub some_bytes : (List ℕ → Scene → Reply) → List ℕ → Scene → Reply
some_bytes write [] s = value_reply s 0
some_bytes write (byte ∷ bytes) s = write (byte ∷ bytes) s

-- the bytes of ranges are written so
abbrev pub ranges_write_reply : (List ℕ → Scene → Reply) → List Range → Scene → Reply
ranges_write_reply write ranges s = on_bytes s (gathered_bytes s.space ranges) (λ bytes. some_bytes write bytes s)

-- it is of a device
abbrev pub is_of_device : DescKind → Bool
is_of_device (File n) = false
is_of_device (Dir n) = false
is_of_device (Device n) = true
is_of_device (PipeRead q) = false
is_of_device (PipeWrite q) = false
is_of_device Input = false
is_of_device (Stream stream) = false
