-- Inner words: no public clause cites these. A file of the host with other bytes.
use Rattle.std.specs.Prelude.{ℕ, List}
use Rattle.dt_base.specs.Bytes.{with_bytes_at, with_trailing_zeros}
use Rattle.dt_host.specs.World.{World, content, with_bytes, with_forest}

-- the world with these bytes as that file
abbrev pub with_content : World → ℕ → List ℕ → World
with_content w n bytes = with_forest w (with_bytes w.forest n bytes)

-- with zeros behind a file's bytes up to an offset, where it is shorter
abbrev pub with_padding : World → ℕ → ℕ → World
with_padding w n offset = with_content w n (with_trailing_zeros (content w.forest n) offset)

-- with bytes written over a file, and zeros in the gap
abbrev pub with_padded_write : World → ℕ → ℕ → List ℕ → World
with_padded_write w n offset bytes = with_content w n (with_bytes_at (with_trailing_zeros (content w.forest n) offset) offset bytes)
