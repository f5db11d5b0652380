-- Inner words: what becomes of a pipe when one of its ends is closed, and what its calls look up.
use Rattle.std.specs.Prelude.{ℕ, ◌||◌, if◌then◌else◌, Bool, Option, None, Some, option_map, Result, Ok, Err}
use Rattle.dt_base.specs.declared.errno.Errno.{Errno}
use Rattle.dt_host.specs.declared.error.CallErr.{CallErr}
use Rattle.dt_host.specs.declared.error.CallErr.TheVariants.{Errno as is_refused}
use Rattle.dt_fds.specs.declared.desc.Desc.{Desc}
use Rattle.std.specs.Ordering.{nat_cmp}
use Rattle.std.specs.FinMap.{FinMap, get, remove}
use Rattle.dt_host.specs.World as host
use Rattle.dt_fds.specs.declared.desc.DescKind.{DescKind}
use Rattle.dt_fds.specs.declared.ends.Ends.{Ends}
use Rattle.dt_fds.specs.Descriptions.{pipe_of, one_if_named}
use Rattle.dt_fds.specs.Ends.{is_read, is_written}

-- whether a description that went, if one did, was of that end of a pipe: 1 or 0
abbrev pub one_if_end : ℕ → (DescKind → Option ℕ) → Option DescKind → ℕ
one_if_end q pipe None = 0
one_if_end q pipe (Some kind) = one_if_named q (pipe kind)

-- a pipe, if there is one, none of whose ends is open
abbrev pub without_ends : FinMap nat_cmp Ends → Option ℕ → Option ℕ
without_ends ends None = None
without_ends ends (Some q) = if is_read (get ends q) || is_written (get ends q) then None else Some q

-- the pipe of a description that went, where it was its last end
abbrev pub last_end : FinMap nat_cmp Ends → Option DescKind → Option ℕ
last_end ends None = None
last_end ends (Some kind) = without_ends ends (pipe_of kind)

-- the pipes without that one, if there is one to go
abbrev pub without_last : host.PipeContents → Option ℕ → host.PipeContents
without_last pipes None = pipes
without_last pipes (Some q) = remove pipes q

-- the pipe that a description is an end of, by this way to name one, and whether its calls don't wait
abbrev pub pipe_end_by : (DescKind → Option ℕ) → Option Desc → Option (ℕ × Bool)
pipe_end_by pipe None = None
pipe_end_by pipe (Some desc) = option_map (λ q. (q, desc.nonblock)) (pipe desc.kind)

-- the answer of a call
abbrev pub as_call : {A : Type 0} → Result A Errno → Result A CallErr
as_call (Ok value) = Ok value
as_call (Err errno) = Err (is_refused errno)
