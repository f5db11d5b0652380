-- What poll(2) finds at a descriptor: which of the events that are asked for are there, and which of those that it tells
-- unasked.
use Rattle.std.specs.Prelude.{ℕ, ◌^◌, ◌==◌, ◌&&◌, Bool, not, nat_le, bit_or, length, Option, None, Some, if◌then◌else◌}
use Rattle.dt_base.specs.declared.limits.TheConstants.{PIPE_BUF}
use Rattle.dt_base.specs.Abi.{has_flag}
use Rattle.dt_fds.specs.declared.poll.TheConstants.{POLLIN, POLLOUT, POLLERR, POLLHUP, POLLNVAL}
use Rattle.dt_fds.specs.declared.desc.Desc.{Desc}
use Rattle.dt_fds.specs.declared.desc.DescKind.{DescKind}
use Rattle.dt_fds.specs.declared.desc.DescKind.TheVariants.{File, Dir, Device, PipeRead, PipeWrite, Input, Stream}
use Rattle.dt_fds.specs.Descriptions.{Descriptions, description_at, readers, writers}
use Rattle.dt_fds.specs.Pipes.{PipesView, pipe_content, room}

-- an event, where it is there
abbrev pub event_if : Bool → ℕ → ℕ
event_if is_there event = if is_there then event else 0

-- at the end of a pipe that is read from, which holds so many bytes and has so many writers: POLLIN where it holds some and
-- that is asked for, and POLLHUP where nobody writes
abbrev pub read_end_events : ℕ → ℕ → ℕ → ℕ
read_end_events asked held writers =
    bit_or (event_if (has_flag asked POLLIN && not (held == 0)) POLLIN) (event_if (writers == 0) POLLHUP)

-- at the end that is written to, of a pipe that has so many readers: POLLOUT where as many bytes have room as go at once,
-- and that is asked for, and POLLERR where nobody reads
abbrev pub write_end_events : ℕ → ℕ → ℕ → ℕ
write_end_events asked held readers =
    bit_or (event_if (has_flag asked POLLOUT && nat_le PIPE_BUF (room held)) POLLOUT) (event_if (readers == 0) POLLERR)

-- at what no call waits for: POLLIN and POLLOUT where they are asked for
abbrev pub unfailing_events : ℕ → ℕ
unfailing_events asked = bit_or (event_if (has_flag asked POLLIN) POLLIN) (event_if (has_flag asked POLLOUT) POLLOUT)

-- by what a description is of
abbrev pub events_of_kind : ℕ → Descriptions → PipesView → DescKind → ℕ
events_of_kind asked f pipes (File n) = unfailing_events asked
events_of_kind asked f pipes (Dir n) = unfailing_events asked
events_of_kind asked f pipes (Device n) = unfailing_events asked
events_of_kind asked f pipes (PipeRead q) = read_end_events asked (length (pipe_content pipes q)) (writers f q)
events_of_kind asked f pipes (PipeWrite q) = write_end_events asked (length (pipe_content pipes q)) (readers f q)
events_of_kind asked f pipes Input = unfailing_events asked
events_of_kind asked f pipes (Stream stream) = unfailing_events asked

-- by what a descriptor refers to; POLLNVAL where it is not open
abbrev pub events_of_description : ℕ → Descriptions → PipesView → Option Desc → ℕ
events_of_description asked f pipes None = POLLNVAL
events_of_description asked f pipes (Some desc) = events_of_kind asked f pipes desc.kind

-- a descriptor below 0, as 32 bits: poll(2) looks at nothing there
abbrev pub is_negative : ℕ → Bool
is_negative fd = nat_le (2 ^ 31) fd

-- the events at a descriptor of a process of which these are asked for (poll(2), pipe(7))
unfoldable pub ready_events : ℕ → ℕ → ℕ → Descriptions → PipesView → ℕ
ready_events p fd asked f pipes = if is_negative fd then 0 else events_of_description asked f pipes (description_at f p fd)
