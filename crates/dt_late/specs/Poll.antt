-- The call that waits for events at descriptors: ppoll(2).
use Rattle.std.specs.Prelude.{ℕ, zero, suc, ◌+◌, ◌*◌, ◌==◌, ◌||◌, Bool, false, not, nat_le, nat_lt, List, take, drop, Option, None, Some, option_map, Result, Ok, Err, is_ok, if◌then◌else◌}
use Rattle.dt_base.specs.declared.answer.Answer.{Answer}
use Rattle.dt_base.specs.declared.answer.Answer.TheVariants.{Value, Refused, Waits, Unsupported}
use Rattle.dt_base.specs.declared.errno.Errno.{Errno}
use Rattle.dt_base.specs.declared.errno.Errno.TheVariants.{Inval, Fault as BadAddress}
use Rattle.dt_base.specs.Fields.{little_endian, with_field}
use Rattle.dt_callbase.specs.declared.timespec.Timespec.{Timespec}
use Rattle.dt_callbase.specs.Arguments.{argument}
use Rattle.dt_callbase.specs.Timespec.{time_at, ticks_in}
use Rattle.dt_fds.specs.declared.files.Files.{Files}
use Rattle.dt_fds.specs.OpenFiles.{pipes_at}
use Rattle.dt_fds.specs.Ready.{ready_events}
use Rattle.dt_host.specs.World as host
use Rattle.dt_space.specs.declared.access.Miss.{Miss}
use Rattle.dt_space.specs.declared.access.TheConstants.{READ, WRITE}
use Rattle.dt_space.specs.Space.{PageView, load}
use Rattle.dt_space.specs.Write.{pages_after_write}
use Rattle.dt_virt.specs.Clock.{ticks_after}
use Rattle.dt_late.specs.declared.numbers.TheConstants.{POLLFD_LIMIT, POLLFD_SIZE, POLLFD_EVENTS, POLLFD_REVENTS}
use Rattle.dt_late.specs.declared.poll.Polling.{Polling}
use Rattle.dt_late.specs.declared.poll.Polling.TheVariants.{Idle, Until, Forever}

-- the process's pages after a call, what is then known of a call that waits, and what the call answers
pub record PollResult : Type 0 where
  pub pages : List PageView
  pub polling : Polling
  pub answer : Answer

-- of these parts
abbrev pub poll_result : List PageView → Polling → Answer → PollResult
poll_result pages polling answer = record { pages = pages; polling = polling; answer = answer }

-- the call is refused, and the pages stay
abbrev pub refused_poll : List PageView → Errno → PollResult
refused_poll pages errno = poll_result pages Idle (Refused errno)

-- the ticks at which a call that waits is over, if there are such
abbrev pub polling_due : Polling → Option ℕ
polling_due Idle = None
polling_due (Until due) = Some due
polling_due Forever = None

-- a call waits until so many ticks, or until an event alone
abbrev pub polling_until : Option ℕ → Polling
polling_until None = Forever
polling_until (Some due) = Until due

-- the descriptor of an entry, by its index
abbrev pub fd_at : List ℕ → ℕ → ℕ
fd_at entries index = little_endian (take 4 (drop (POLLFD_SIZE * index) entries))

-- the events that are asked for there
abbrev pub events_at : List ℕ → ℕ → ℕ
events_at entries index = little_endian (take 2 (drop (POLLFD_SIZE * index + POLLFD_EVENTS) entries))

-- which events there are at a descriptor of a process of which these are asked for
abbrev pub events_found : ℕ → Files → host.PipeContents → ℕ → ℕ → ℕ
events_found p f pipes fd asked = ready_events p fd asked f.descriptors (pipes_at f pipes)

-- the events that are found at an entry
abbrev pub revents_at : (ℕ → ℕ → ℕ) → List ℕ → ℕ → ℕ
revents_at found entries index = found (fd_at entries index) (events_at entries index)

-- the entries, with the events that are found at each of the first so many
unfoldable pub polled_entries : (ℕ → ℕ → ℕ) → List ℕ → ℕ → List ℕ
polled_entries found entries zero = entries
polled_entries found entries (suc index) =
    with_field 2 (polled_entries found entries index) (POLLFD_SIZE * index + POLLFD_REVENTS) (revents_at found entries index)

-- at how many of the first so many entries events are found
unfoldable pub ready_count : (ℕ → ℕ → ℕ) → List ℕ → ℕ → ℕ
ready_count found entries zero = 0
ready_count found entries (suc index) =
    ready_count found entries index + (if revents_at found entries index == 0 then 0 else 1)

-- the ticks are at the due, if there is one
abbrev pub is_reached : ℕ → Option ℕ → Bool
is_reached ticks None = false
is_reached ticks (Some due) = nat_le due ticks

-- the call is over where events are found or its due is reached: these entries are told, and it answers at how many of them
-- there are some; else it waits
abbrev pub poll_of_found : ℕ → List PageView → ℕ → Option ℕ → ℕ → List ℕ → PollResult
poll_of_found ticks pages address due ready entries =
    if not (ready == 0) || is_reached ticks due
    then poll_result (pages_after_write pages address entries) Idle (Value ready)
    else poll_result pages (polling_until due) Waits

-- the same by the entries, or by why there are none
abbrev pub poll_by_entries : (ℕ → ℕ → ℕ) → ℕ → List PageView → ℕ → ℕ → Option ℕ → Result (List ℕ) Errno → PollResult
poll_by_entries found ticks pages address count due (Err errno) = refused_poll pages errno
poll_by_entries found ticks pages address count due (Ok entries) =
    poll_of_found ticks pages address due (ready_count found entries count) (polled_entries found entries count)

-- entries that were read: EFAULT where they could not be, or may not be written
abbrev pub entries_by : Bool → Result (List ℕ) Miss → Result (List ℕ) Errno
entries_by may_write (Err miss) = Err BadAddress
entries_by may_write (Ok entries) = if may_write then Ok entries else Err BadAddress

-- so many entries at an address
abbrev pub entries_at : List PageView → ℕ → ℕ → Result (List ℕ) Errno
entries_at pages address count =
    let size = POLLFD_SIZE * count in
    entries_by (is_ok (load pages WRITE address size)) (load pages READ address size)

-- the call with so many entries at an address, which is over at a due
abbrev pub poll_until : (ℕ → ℕ → ℕ) → ℕ → List PageView → ℕ → ℕ → Option ℕ → PollResult
poll_until found ticks pages address count due =
    poll_by_entries found ticks pages address count due (entries_at pages address count)

-- the time that was read, in nanoseconds
abbrev pub timeout_by : Result Timespec Errno → Result (Option ℕ) Errno
timeout_by (Err errno) = Err errno
timeout_by (Ok time) = Ok (Some (ticks_in time))

-- how long a call waits at most, or none where the address is null
abbrev pub timeout_at : List PageView → ℕ → Result (Option ℕ) Errno
timeout_at pages address = if address == 0 then Ok None else timeout_by (time_at pages address)

-- the due of a try: at the first one its time counts from the ticks, and later ones keep that due
abbrev pub due_of_try : Polling → ℕ → Option ℕ → Option ℕ
due_of_try Idle ticks timeout = option_map (ticks_after ticks) timeout
due_of_try (Until due) ticks timeout = Some due
due_of_try Forever ticks timeout = None

-- the call by the time that it waits at most
abbrev pub poll_by_timeout : (ℕ → ℕ → ℕ) → ℕ → Polling → List PageView → ℕ → ℕ → Result (Option ℕ) Errno → PollResult
poll_by_timeout found ticks polling pages address count (Err errno) = refused_poll pages errno
poll_by_timeout found ticks polling pages address count (Ok timeout) =
    poll_until found ticks pages address count (due_of_try polling ticks timeout)

-- ppoll(2), at these ticks: EINVAL for more entries than a process has descriptors. With a signal mask it is not supported. What
-- is left of the time is never told
unfoldable pub ppoll_of : (ℕ → ℕ → ℕ) → ℕ → Polling → List PageView → List ℕ → PollResult
ppoll_of found ticks polling pages args =
    if not (argument args 3 == 0) then poll_result pages polling Unsupported
    else if nat_lt POLLFD_LIMIT (argument args 1) then refused_poll pages Inval
    else poll_by_timeout found ticks polling pages (argument args 0) (argument args 1) (timeout_at pages (argument args 2))
