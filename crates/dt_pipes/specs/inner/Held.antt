-- A table in which a pipe holds another number of bytes.
use Rattle.std.specs.Prelude.{ℕ}
use Rattle.std.specs.FinMap.{insert}
use Rattle.dt_pipes.specs.Table.{Table}

-- the table with this number at the host, and so many bytes held, at a pipe
abbrev pub with_held : Table → ℕ → ℕ → ℕ → Table
with_held t q real held = record t { pipes = insert t.pipes q (record { real = real; held = held }) }
