-- Pipes in calls: pipe2(2), and what a read or a write of a pipe answers (pipe(7)).
use Rattle.std.specs.Prelude.{ℕ, ◌==◌, ◌++◌, not, bit_or, List, Option, None, Some, Result, Ok, Err, if◌then◌else◌}
use Rattle.dt_base.specs.Abi.{low_word}
use Rattle.dt_base.specs.Fields.{low_bytes}
use Rattle.dt_base.specs.declared.abi.TheConstants.{O_CLOEXEC, O_NONBLOCK}
use Rattle.dt_base.specs.declared.answer.Answer.{Answer}
use Rattle.dt_base.specs.declared.answer.Answer.TheVariants.{Value, Refused, Waits, Part as goes_on, Pipe}
use Rattle.dt_base.specs.declared.errno.Errno.{Errno}
use Rattle.dt_base.specs.declared.errno.Errno.TheVariants.{Inval, MFile, Pipe as BrokenPipe, Fault as BadAddress}
use Rattle.dt_fds.specs.declared.flow.Flow.{Flow}
use Rattle.dt_fds.specs.declared.flow.Flow.TheVariants.{Moved, Part, Broken, Wait}
use Rattle.dt_fds.specs.Descriptions.{table_at, two_free}
use Rattle.dt_fds.specs.Holding.{FilesAnswer, with_pipe_ends}
use Rattle.dt_space.specs.declared.access.Miss.{Miss}
use Rattle.dt_space.specs.Space.{PageView}
use Rattle.dt_space.specs.Write.{pages_after_store}
use Rattle.dt_callbase.specs.Arguments.{argument, has_only}
use Rattle.dt_callbase.specs.Scene.{Scene, Reply, value_reply, refused_reply, holding, with_holding}

-- what a write answers that nobody reads: how many bytes it moved before, or EPIPE where it moved none
abbrev pub broken_write : ℕ → Result ℕ Errno
broken_write count = if count == 0 then Err BrokenPipe else Ok count

-- the answer of a read or a write of a pipe
abbrev pub flow_answer : Result Flow Errno → Answer
flow_answer (Ok (Moved count)) = Value count
flow_answer (Ok (Part count)) = goes_on count
flow_answer (Ok (Broken count)) = Pipe (broken_write count)
flow_answer (Ok Wait) = Waits
flow_answer (Err errno) = Refused errno

-- what a read or a write of a pipe leaves and answers
abbrev pub flow_reply : Scene → FilesAnswer Flow → Reply
flow_reply s o = record { next = with_holding o.next s; answer = flow_answer o.answer }

-- two descriptors as they stand in memory, 4 bytes each
abbrev pub pair_bytes : ℕ × ℕ → List ℕ
pair_bytes ends = low_bytes 4 ends.0 ++ low_bytes 4 ends.1

-- a new pipe's ends stand under these descriptors, and these are told: EFAULT where they can't be
abbrev pub new_pipe_reply : Scene → ℕ → ℕ × ℕ → Result (List PageView) Miss → Reply
new_pipe_reply s flags ends (Err miss) = refused_reply s BadAddress
new_pipe_reply s flags ends (Ok pages) =
    value_reply (record (with_holding (with_pipe_ends (holding s) s.caller.vpid flags ends.0 ends.1) s) { space = pages }) 0

-- a new pipe, if two descriptors are free
abbrev pub pipe_reply : Scene → ℕ → ℕ → Option (ℕ × ℕ) → Reply
pipe_reply s buffer flags None = refused_reply s MFile
pipe_reply s buffer flags (Some ends) = new_pipe_reply s flags ends (pages_after_store s.space buffer (pair_bytes ends))

-- pipe2(2): flags other than O_CLOEXEC and O_NONBLOCK are EINVAL; the end that is read from comes first
unfoldable pub pipe2_row : List ℕ → Scene → Reply
pipe2_row args s =
    let flags = low_word (argument args 1) in
    if not (has_only flags (bit_or O_CLOEXEC O_NONBLOCK)) then refused_reply s Inval
    else pipe_reply s (argument args 0) flags (two_free (table_at s.files s.caller.vpid))
