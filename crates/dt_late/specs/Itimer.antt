-- The calls on the timer of a process that counts real time, which is here the logical one: setitimer(2), getitimer(2).
use Rattle.std.specs.Prelude.{ℕ, ◌+◌, ◌-◌, ◌*◌, ◌/◌, ◌%◌, ◌^◌, ◌==◌, ◌&&◌, ◌||◌, Bool, List, ◌++◌, Option, None, Some, Result, Ok, Err, max, nat_lt, if◌then◌else◌}
use Rattle.dt_base.specs.declared.answer.Answer.TheVariants.{Value, Unsupported}
use Rattle.dt_base.specs.declared.errno.Errno.{Errno}
use Rattle.dt_base.specs.declared.errno.Errno.TheVariants.{Inval, Fault as BadAddress}
use Rattle.dt_base.specs.Fields.{low_bytes}
use Rattle.dt_space.specs.declared.access.Miss.{Miss}
use Rattle.dt_space.specs.declared.access.TheConstants.{READ}
use Rattle.dt_space.specs.Argument.{is_writable_or_null, with_bytes_unless_null}
use Rattle.dt_space.specs.Space.{PageView, load}
use Rattle.dt_virt.specs.Clock.{ticks_after}
use Rattle.dt_signals.specs.declared.signals.Sig.{Sig}
use Rattle.dt_signals.specs.Called.{SignalCallResult, signal_call_result, refused_signal_call}
use Rattle.dt_signals.specs.Frame.{word_in}
use Rattle.dt_signals.specs.Timer.{with_timer, timer_due, timer_interval}
use Rattle.dt_late.specs.declared.itimer.Timeval.{Timeval}
use Rattle.dt_late.specs.declared.itimer.Itimerval.{Itimerval}
use Rattle.dt_late.specs.declared.numbers.TheConstants.{ITIMER_REAL, ITIMER_VIRTUAL, ITIMER_PROF, ITIMERVAL_SIZE, IT_INTERVAL, IT_VALUE, MICROSECONDS, SECOND_MICROSECONDS}
use Rattle.dt_callbase.specs.declared.wall_time.TheConstants.{SECOND_TICKS, MICROSECOND_TICKS}

-- a time as it stands at an offset: seconds and microseconds, 8 bytes each (timeval(3type))
abbrev pub timeval_in : List ℕ → ℕ → Timeval
timeval_in bytes offset = record { seconds = word_in bytes offset; microseconds = word_in bytes (offset + MICROSECONDS) }

-- a timer's interval and the time until it is due, as they stand in memory
abbrev pub itimerval_in : List ℕ → Itimerval
itimerval_in bytes = record { interval = timeval_in bytes IT_INTERVAL; value = timeval_in bytes IT_VALUE }

-- a time is one: its seconds are not negative, and its microseconds neither negative nor a second and more
abbrev pub is_good_time : Timeval → Bool
is_good_time time = nat_lt time.seconds (2 ^ 63) && nat_lt time.microseconds SECOND_MICROSECONDS

-- EINVAL where one of the times is none
abbrev pub good_itimerval : Itimerval → Result Itimerval Errno
good_itimerval new = if is_good_time new.interval && is_good_time new.value then Ok new else Err Inval

-- the times of bytes that were read; EFAULT where they could not be
abbrev pub itimerval_by : Result (List ℕ) Miss → Result Itimerval Errno
itimerval_by (Err miss) = Err BadAddress
itimerval_by (Ok bytes) = good_itimerval (itimerval_in bytes)

-- the times that a call is handed; EFAULT also where the address is null
abbrev pub itimerval_at : List PageView → ℕ → Result Itimerval Errno
itimerval_at pages address =
    if address == 0 then Err BadAddress else itimerval_by (load pages READ address ITIMERVAL_SIZE)

-- the nanoseconds of a time
abbrev pub ticks_in : Timeval → ℕ
ticks_in time = time.seconds * SECOND_TICKS + time.microseconds * MICROSECOND_TICKS

-- the timer that is set at these ticks: disarmed where the time until it is due is 0, and its interval forgotten then
abbrev pub timer_of : ℕ → Itimerval → Option (ℕ × ℕ)
timer_of ticks new =
    if ticks_in new.value == 0 then None
    else Some (ticks_after ticks (ticks_in new.value), ticks_in new.interval)

-- the microseconds that are left at these ticks until a timer is due: what is left of one counts as one, and an armed timer has
-- one left at least; 0 where it is disarmed
abbrev pub microseconds_left : ℕ → Option ℕ → ℕ
microseconds_left ticks None = 0
microseconds_left ticks (Some due) = max 1 ((due - ticks + (MICROSECOND_TICKS - 1)) / MICROSECOND_TICKS)

-- a time of so many microseconds, whose seconds are cut to 64 bits
abbrev pub time_of : ℕ → Timeval
time_of microseconds = record {
  seconds = microseconds / SECOND_MICROSECONDS % 2 ^ 64;
  microseconds = microseconds % SECOND_MICROSECONDS;
}

-- what is told of a timer at these ticks: its interval, and the time until it is due
abbrev pub itimerval_of : ℕ → Sig → Itimerval
itimerval_of ticks g = record {
  interval = time_of (timer_interval g / MICROSECOND_TICKS);
  value = time_of (microseconds_left ticks (timer_due g));
}

-- the same as it stands in memory: the interval and then the value
abbrev pub itimerval_bytes : Itimerval → List ℕ
itimerval_bytes told =
    low_bytes 8 told.interval.seconds ++ (low_bytes 8 told.interval.microseconds
    ++ (low_bytes 8 told.value.seconds ++ low_bytes 8 told.value.microseconds))

-- the timer is told, unless the address is null, and then the signal state is this; EFAULT where it can't be told, and all
-- stays
abbrev pub timer_told : Sig → List PageView → ℕ → ℕ → Sig → SignalCallResult
timer_told g pages ticks address next =
    if is_writable_or_null pages address ITIMERVAL_SIZE
    then signal_call_result next (with_bytes_unless_null pages address (itimerval_bytes (itimerval_of ticks g))) (Value 0)
    else refused_signal_call g pages BadAddress

-- the old timer is told, and the new one takes its place
abbrev pub setitimer_by_new : Sig → List PageView → ℕ → ℕ → Result Itimerval Errno → SignalCallResult
setitimer_by_new g pages ticks old (Err errno) = refused_signal_call g pages errno
setitimer_by_new g pages ticks old (Ok new) = timer_told g pages ticks old (with_timer (timer_of ticks new) g)

-- a call on the timers that count the time in which the process runs is not supported, and all stays
abbrev pub unsupported_signal_call : Sig → List PageView → SignalCallResult
unsupported_signal_call g pages = signal_call_result g pages Unsupported

-- the timers that count the time in which a process runs
abbrev pub counts_running : ℕ → Bool
counts_running which = (which == ITIMER_VIRTUAL) || (which == ITIMER_PROF)

-- setitimer(2): EINVAL for a timer that there is not. The ticks are those of the clock
unfoldable pub setitimer_of : Sig → List PageView → ℕ → ℕ → ℕ → ℕ → SignalCallResult
setitimer_of g pages ticks which new old =
    if counts_running which then unsupported_signal_call g pages
    else if which == ITIMER_REAL then setitimer_by_new g pages ticks old (itimerval_at pages new)
    else refused_signal_call g pages Inval

-- getitimer(2): EINVAL for a timer that there is not, EFAULT where its buffer is null or may not be written
unfoldable pub getitimer_of : Sig → List PageView → ℕ → ℕ → ℕ → SignalCallResult
getitimer_of g pages ticks which buffer =
    if counts_running which then unsupported_signal_call g pages
    else if which == ITIMER_REAL
    then (if buffer == 0 then refused_signal_call g pages BadAddress else timer_told g pages ticks buffer g)
    else refused_signal_call g pages Inval
