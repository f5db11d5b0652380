-- The pipes of a container by numbers of its own, and how they stand for those of its host (pipe(2), pipe(7)).
use Rattle.std.specs.Prelude.{◌≡◌, ℕ, ◌<◌, ◌≤◌, Bool, List, [], length, Some, is_some}
use Rattle.std.specs.Prelude.{unwrap_or, IfSome, IsSome}
use Rattle.std.specs.Ordering.{nat_cmp}
use Rattle.std.specs.FinMap.{FinMap, get}
use Rattle.dt_base.specs.declared.limits.TheConstants.{PIPE_LIMIT}
use Rattle.dt_tables.specs.Values.{map_values}
use Rattle.dt_host.specs.World.{PipeContents}
use Rattle.dt_pipes.specs.declared.pipe.Pipe.{Pipe}
use Rattle.dt_pipes.specs.declared.pipe.TheConstants.{FIRST_PIPE}

-- the pipes by number, and the number that the next one gets
pub record Table : Type 0 where
  pub pipes : FinMap nat_cmp Pipe
  pub next : ℕ

-- a table with these parts
abbrev pub table_of : FinMap nat_cmp Pipe → ℕ → Table
table_of pipes next = record { pipes = pipes; next = next }

-- the number is one of a pipe
abbrev pub has_pipe : Table → ℕ → Bool
has_pipe t q = is_some (get t.pipes q)

-- what the pipe of a number holds, the oldest byte first; none where there is no pipe
abbrev pub held_in : PipeContents → ℕ → List ℕ
held_in pipes q = unwrap_or (get pipes q) []

-- the bytes that each pipe of the container holds, the oldest first, by its number there
unfoldable pub pipes_of : Table → PipeContents → PipeContents
pipes_of t host = map_values (λ pipe. held_in host pipe.real) t.pipes

-- a pipe is one of the host's, which holds as many bytes as are counted, and no more than a pipe may
pub record IsBackedPipe (host : PipeContents) (pipe : Pipe) : Type 0 where
  pub live : IsSome (get host pipe.real)
  pub count : pipe.held ≡ length (held_in host pipe.real)
  pub within : pipe.held ≤ PIPE_LIMIT

-- a pipe of the container has this number at the host
pub record IsKnown (t : Table) (real : ℕ) : Type 0 where
  pub number : ℕ
  pub pipe : Pipe
  pub there : get t.pipes number ≡ Some pipe
  pub same : pipe.real ≡ real

-- the number of a pipe was given: it is at least that of the first and below the next
pub record IsGiven (next q : ℕ) : Type 0 where
  pub least : FIRST_PIPE ≤ q
  pub below : q < next

-- the pipes of the container are exactly those of the host, each is one pipe there, and their numbers were given
pub record Stands (t : Table) (host : PipeContents) : Type 0 where
  pub each : (q : ℕ) → IfSome (get t.pipes q) (IsBackedPipe host)
  pub once : (p q : ℕ) (a b : Pipe) → get t.pipes p ≡ Some a → get t.pipes q ≡ Some b → a.real ≡ b.real → p ≡ q
  pub all : (real : ℕ) → IsSome (get host real) → IsKnown t real
  pub given : (q : ℕ) → IsSome (get t.pipes q) → IsGiven t.next q
  pub least : FIRST_PIPE ≤ t.next
