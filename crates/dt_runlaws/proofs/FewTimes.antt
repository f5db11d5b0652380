-- No call on time or random bytes answers bytes that go out.
use Rattle.std.proofs.Common.{ℕ, List}
use Rattle.std.specs.Prelude.{Result, Ok, Err}
use Rattle.dt_base.specs.declared.errno.Errno.{Errno}
use Rattle.dt_space.specs.declared.access.Miss.{Miss}
use Rattle.dt_space.specs.Space.{PageView}
use Rattle.dt_callbase.specs.Scene.{Scene, Reply}
use Rattle.dt_callbase.specs.declared.timespec.Timespec.{Timespec}
use Rattle.dt_timecalls.specs.Calls.{time_row}
use Rattle.dt_timecalls.specs.Time as time
use Rattle.dt_timecalls.specs.Random as random
use Rattle.dt_runlaws.proofs.FewReplies.{short_rows, Short, refused-short}

read_time-short : (s : Scene) (pages : Result (List PageView) Miss) → Short (time.time_reply s pages)
read_time-short s (Err miss) = search short_rows
read_time-short s (Ok pages) = record { short = tt }

gettime-short : (args : List ℕ) (s : Scene) → Short (time.clock_gettime_row args s)
unfolding time.clock_gettime_row
gettime-short args s = search (short_rows, read_time-short)

timeofday-short : (args : List ℕ) (s : Scene) → Short (time.gettimeofday_row args s)
unfolding time.gettimeofday_row
timeofday-short args s = search short_rows

time-short : (s : Scene) (found : Result Timespec Errno) (row : Timespec → Reply) → ((t : Timespec) → Short (row t)) → Short (time.on_time s found row)
time-short s (Err errno) row short = refused-short s errno
time-short s (Ok t) row short = short t

sleep-short : (args : List ℕ) (s : Scene) → Short (time.nanosleep_row args s)
unfolding time.nanosleep_row
sleep-short args s = search (short_rows, time-short)

clock_sleep-short : (args : List ℕ) (s : Scene) → Short (time.clock_nanosleep_row args s)
unfolding time.clock_nanosleep_row
clock_sleep-short args s = search (short_rows, time-short)

draw-short : (s : Scene) (count : ℕ) (pages : Result (List PageView) Miss) → Short (random.draw_result_reply s count pages)
draw-short s count (Err miss) = search short_rows
draw-short s count (Ok pages) = record { short = tt }

random-short : (args : List ℕ) (s : Scene) → Short (random.getrandom_row args s)
unfolding random.getrandom_row
random-short args s = search (short_rows, draw-short)

-- a call on time or random bytes
pub timed-short : (number : ℕ) (args : List ℕ) (s : Scene) → Short (time_row number args s)
unfolding time_row
timed-short number args s = search (short_rows, sleep-short, gettime-short, clock_sleep-short, timeofday-short, random-short) depth 12
