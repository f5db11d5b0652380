-- The calls on time: nanosleep(2), clock_gettime(2), clock_nanosleep(2), gettimeofday(2).
use Rattle.std.specs.Prelude.{ℕ, ◌+◌, ◌-◌, ◌*◌, ◌/◌, ◌%◌, ◌^◌, ◌==◌, ◌&&◌, ◌||◌, Bool, not, List, ◌++◌, replicate, Result, Ok, Err, min, max, nat_lt, nat_le, if◌then◌else◌}
use Rattle.dt_base.specs.Abi.{low_word}
use Rattle.dt_base.specs.declared.errno.Errno.{Errno}
use Rattle.dt_base.specs.declared.errno.Errno.TheVariants.{Inval, Fault as BadAddress}
use Rattle.dt_base.specs.Fields.{low_bytes}
use Rattle.dt_space.specs.declared.access.Miss.{Miss}
use Rattle.dt_space.specs.Argument.{is_writable_or_null, with_bytes_unless_null}
use Rattle.dt_space.specs.Space.{PageView}
use Rattle.dt_space.specs.Write.{pages_after_store}
use Rattle.dt_virt.specs.declared.clock.TheConstants.{READING_TICKS, TICK_LIMIT}
use Rattle.dt_virt.specs.Clock.{ticks_after}
use Rattle.dt_base.specs.declared.abi.TheConstants.{CLOCK_REALTIME, CLOCK_MONOTONIC, CLOCK_REALTIME_COARSE, CLOCK_BOOTTIME, TIMER_ABSTIME}
use Rattle.dt_callbase.specs.declared.wall_time.TheConstants.{FIRST_SECOND, SECOND_TICKS, MICROSECOND_TICKS}
use Rattle.dt_timecalls.specs.declared.time.TheConstants.{TIME_LEN, TIMEZONE_LEN}
use Rattle.dt_callbase.specs.declared.timespec.Timespec.{Timespec}
use Rattle.dt_callbase.specs.Arguments.{argument}
use Rattle.dt_callbase.specs.Timespec.{time_at, ticks_in}
use Rattle.dt_callbase.specs.Scene.{Scene, Reply, refused_reply, value_reply}

-- the clock tells wall time
abbrev pub is_wall : ℕ → Bool
is_wall clock = (clock == CLOCK_REALTIME) || (clock == CLOCK_REALTIME_COARSE)

-- the second that a clock tells at tick 0
abbrev pub first_second : ℕ → ℕ
first_second clock = if is_wall clock then FIRST_SECOND else 0

-- the time that a clock tells
abbrev pub time_of : ℕ → ℕ → Timespec
time_of clock ticks = record {
  seconds = first_second clock + ticks / SECOND_TICKS;
  nanoseconds = ticks % SECOND_TICKS;
}

-- the bytes of a time: `struct timespec`
unfoldable pub timespec_bytes : Timespec → List ℕ
timespec_bytes time = low_bytes 8 time.seconds ++ low_bytes 8 time.nanoseconds

-- the bytes of wall time in seconds and microseconds: `struct timeval`
unfoldable pub timeval_bytes : ℕ → List ℕ
timeval_bytes ticks =
    low_bytes 8 (FIRST_SECOND + ticks / SECOND_TICKS) ++ low_bytes 8 (ticks % SECOND_TICKS / MICROSECOND_TICKS)

-- the time after a reading of the clock, which takes some
abbrev pub reading : Scene → ℕ
reading s = ticks_after s.clock READING_TICKS

-- a reading came into a buffer, and has taken its time: EFAULT where the buffer may not be written
abbrev pub time_reply : Scene → Result (List PageView) Miss → Reply
time_reply s (Err miss) = refused_reply s BadAddress
time_reply s (Ok pages) = value_reply (record s { clock = reading s; space = pages }) 0

-- clock_gettime(2): as a number that is not negative, a clock below 0 is past the last one
unfoldable pub clock_gettime_row : List ℕ → Scene → Reply
clock_gettime_row args s =
    let clock = low_word (argument args 0) in
    if nat_lt CLOCK_BOOTTIME clock then refused_reply s Inval
    else time_reply s (pages_after_store s.space (argument args 1) (timespec_bytes (time_of clock (reading s))))

-- the wall time and a time zone of zeros come into their buffers. Only a time that is told takes some
abbrev pub time_of_day_reply : ℕ → ℕ → Scene → Reply
time_of_day_reply time zone s = value_reply (record s {
  clock = if time == 0 then s.clock else reading s;
  space = with_bytes_unless_null (with_bytes_unless_null s.space time (timeval_bytes (reading s))) zone (replicate TIMEZONE_LEN 0);
}) 0

-- tells the wall time and a time zone of zeros; EFAULT where a buffer may not be written (gettimeofday(2))
unfoldable pub gettimeofday_row : List ℕ → Scene → Reply
gettimeofday_row args s =
    if is_writable_or_null s.space (argument args 0) TIME_LEN && is_writable_or_null s.space (argument args 1) TIMEZONE_LEN
    then time_of_day_reply (argument args 0) (argument args 1) s
    else refused_reply s BadAddress

-- a row for a time that was read, or the reason why there is none
abbrev pub on_time : Scene → Result Timespec Errno → (Timespec → Reply) → Reply
on_time s (Err errno) row = refused_reply s errno
on_time s (Ok time) row = row time

-- the ticks at which a clock tells a time, 0 where it never told it
abbrev pub ticks_at : ℕ → Timespec → ℕ
ticks_at clock time = ticks_in time - first_second clock * SECOND_TICKS

-- so many nanoseconds pass
abbrev pub sleep_reply : ℕ → Scene → Reply
sleep_reply ticks s = value_reply (record s { clock = ticks_after s.clock ticks }) 0

-- the time becomes so many ticks, unless it is past them
abbrev pub sleep_until_reply : ℕ → Scene → Reply
sleep_until_reply ticks s = value_reply (record s { clock = min (max s.clock ticks) TICK_LIMIT }) 0

-- lets the time pass that stands at an address (nanosleep(2))
unfoldable pub nanosleep_row : List ℕ → Scene → Reply
nanosleep_row args s = on_time s (time_at s.space (argument args 0)) (λ time. sleep_reply (ticks_in time) s)

-- a process may sleep by this clock
abbrev pub is_for_sleep : ℕ → Bool
is_for_sleep clock = (clock == CLOCK_REALTIME) || (clock == CLOCK_MONOTONIC) || (clock == CLOCK_BOOTTIME)

-- a sleep by a clock: for a time, or until the clock tells it
abbrev pub clock_sleep_reply : ℕ → ℕ → Timespec → Scene → Reply
clock_sleep_reply clock flags time s =
    if flags == TIMER_ABSTIME then sleep_until_reply (ticks_at clock time) s else sleep_reply (ticks_in time) s

-- lets a time pass, or lets it become what a clock tells; EINVAL for other clocks and flags (clock_nanosleep(2))
unfoldable pub clock_nanosleep_row : List ℕ → Scene → Reply
clock_nanosleep_row args s =
    let clock = low_word (argument args 0) in
    let flags = low_word (argument args 1) in
    if not (is_for_sleep clock) || nat_lt TIMER_ABSTIME flags then refused_reply s Inval
    else on_time s (time_at s.space (argument args 2)) (λ time. clock_sleep_reply clock flags time s)
