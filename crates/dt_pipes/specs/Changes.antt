-- What transfers make of the pipes of a container (pipe(7)), and what they leave of a host.
use Rattle.std.specs.Prelude.{◌≡◌, ℕ, min, List, ◌++◌, length, take, drop}
use Rattle.std.specs.FinMap.{insert}
use Rattle.dt_host.specs.World.{World, PipeContents}
use Rattle.dt_pipes.specs.Table.{held_in}

-- nothing but the pipes may have changed
pub record OnlyPipes (old new : World) : Type 0 where
  pub forest : new.forest ≡ old.forest
  pub pids : new.pids ≡ old.pids

-- so many of the oldest bytes that a pipe holds came into the start of a buffer, as many as there are or as fit, and are gone
-- from the pipe
pub record TakesFromPipe (old : PipeContents) (q : ℕ) (before after : List ℕ) (new : PipeContents) (count : ℕ) : Type 0 where
  pub most : count ≡ min (length before) (length (held_in old q))
  pub prefix : after ≡ take count (held_in old q) ++ drop count before
  pub left : new ≡ insert old q (drop count (held_in old q))

-- the pipes with these bytes behind those that one of them holds
abbrev pub with_bytes_put : PipeContents → ℕ → List ℕ → PipeContents
with_bytes_put pipes q bytes = insert pipes q (held_in pipes q ++ bytes)
