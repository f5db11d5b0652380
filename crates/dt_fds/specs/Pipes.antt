-- Pipes, and how much a read or a write of one moves (pipe(7), "I/O on pipes and FIFOs").
use Rattle.std.specs.Prelude.{ℕ, ◌+◌, ◌-◌, ◌==◌, min, Bool, nat_le, if◌then◌else◌, List, [], Option, None, Some, option_map, unwrap_or, Result, Ok, Err}
use Rattle.std.specs.Ordering.{nat_cmp}
use Rattle.std.specs.FinMap.{FinMap, get, insert, remove}
use Rattle.dt_base.specs.declared.errno.Errno.{Errno}
use Rattle.dt_base.specs.declared.errno.Errno.TheVariants.{Again}
use Rattle.dt_base.specs.declared.limits.TheConstants.{PIPE_BUF, PIPE_LIMIT}
use Rattle.dt_fds.specs.declared.desc.Desc.{Desc}
use Rattle.dt_fds.specs.Descriptions.{pipe_of}
use Rattle.dt_fds.specs.declared.flow.Flow.{Flow}
use Rattle.dt_fds.specs.declared.flow.Flow.TheVariants.{Moved, Part, Wait}

-- what each pipe holds, the oldest byte first, by the pipe's number; and the number of the next new pipe
pub record PipesView : Type 0 where
  pub contents : FinMap nat_cmp (List ℕ)
  pub next : ℕ

-- what a pipe holds; nothing where there is no such pipe
abbrev pub pipe_content : PipesView → ℕ → List ℕ
pipe_content pipes q = unwrap_or (get pipes.contents q) []

-- the pipe of which a description is an end, if there is one that is
abbrev pub pipe_at : Option Desc → Option ℕ
pipe_at None = None
pipe_at (Some desc) = pipe_of desc.kind

-- what that pipe holds; nothing where there is none
abbrev pub pipe_content_at : PipesView → Option Desc → List ℕ
pipe_content_at pipes found = unwrap_or (option_map (pipe_content pipes) (pipe_at found)) []

-- a pipe holds these bytes
abbrev pub with_pipe_content : PipesView → ℕ → List ℕ → PipesView
with_pipe_content pipes q bytes = record pipes { contents = insert pipes.contents q bytes }

-- with a new pipe, which holds nothing
abbrev pub with_new_pipe : PipesView → PipesView
with_new_pipe pipes = record { contents = insert pipes.contents pipes.next []; next = pipes.next + 1 }

-- without a pipe, and without what it held
abbrev pub without_pipe : PipesView → ℕ → PipesView
without_pipe pipes q = record pipes { contents = remove pipes.contents q }

-- a read of a pipe that holds nothing is at the end where nobody writes; else it is refused where calls don't wait, and waits
abbrev pub empty_read_flow : ℕ → Bool → Result Flow Errno
empty_read_flow writers nonblock = if writers == 0 then Ok (Moved 0) else if nonblock then Err Again else Ok Wait

-- how many bytes have room in a pipe that holds so many
abbrev pub room : ℕ → ℕ
room count = PIPE_LIMIT - count

-- how many bytes a write moves now, of so many of which some are done: all where they are few enough to go at once and have
-- room, none where these have not, and as many as have room where they are more
abbrev pub transfer_count : ℕ → ℕ → ℕ → ℕ
transfer_count count whole done =
    if nat_le whole PIPE_BUF
    then (if nat_le (whole - done) (room count) then whole - done else 0)
    else min (whole - done) (room count)

-- what a write that isn't done answers: where calls don't wait it is refused, or answers what it has moved if that is some;
-- else it waits where it moved nothing now, and where it moved some it goes on
abbrev pub unfinished_flow : ℕ → ℕ → Bool → Result Flow Errno
unfinished_flow done moved nonblock =
    if nonblock
    then (if done + moved == 0 then Err Again else Ok (Moved (done + moved)))
    else (if moved == 0 then Ok Wait else Ok (Part (done + moved)))

-- what a write answers that moved so many bytes now
abbrev pub write_flow : ℕ → ℕ → ℕ → Bool → Result Flow Errno
write_flow whole done moved nonblock =
    if done + moved == whole then Ok (Moved whole) else unfinished_flow done moved nonblock
