-- What the rows of a test are about: a node or a pipe of a host.
use Rattle.std.specs.Prelude.{ℕ, ◌≤◌, length}
use Rattle.dt_host.specs.declared.kind.NodeKind.{NodeKind}
use Rattle.dt_host.specs.declared.kind.NodeKind.TheVariants.{File, Dir, Pipe, Link, Device}
use Rattle.dt_host.specs.World.{World, IsFile, IsDir, IsLink, IsDevice, IsPipe, pipe_bytes}

-- a pipe that holds at most so many bytes
pub record HoldsAtMost (w : World) (n limit : ℕ) : Type 0 where
  pub pipe : IsPipe w n
  pub most : length (pipe_bytes w n) ≤ limit

-- the number is one of that kind, which holds at most so many bytes if it is a pipe
abbrev pub IsOf : World → NodeKind → ℕ → ℕ → Type 0
IsOf w File n most = IsFile w.forest n
IsOf w Dir n most = IsDir w.forest n
IsOf w Pipe n most = HoldsAtMost w n most
IsOf w (Link target) n most = IsLink w.forest n
IsOf w (Device which) n most = IsDevice w.forest n
