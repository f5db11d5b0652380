-- Each call on time or random bytes leaves the version that the file tree keeps, and the standard input.
use Rattle.std.proofs.Common.{ℕ, List, refl}
use Rattle.std.specs.Prelude.{Result, Ok, Err}
use Rattle.dt_base.specs.declared.errno.Errno.{Errno}
use Rattle.dt_space.specs.declared.access.Miss.{Miss}
use Rattle.dt_space.specs.Space.{PageView}
use Rattle.dt_callbase.specs.Scene.{Scene, Reply}
use Rattle.dt_callbase.specs.declared.timespec.Timespec.{Timespec}
use Rattle.dt_timecalls.specs.Calls.{time_row}
use Rattle.dt_timecalls.specs.Time as time
use Rattle.dt_timecalls.specs.Random as random
use Rattle.dt_runlaws.proofs.VersionReplies.{kept_rows, Kept, refused-kept}

read_time-kept : (s : Scene) (pages : Result (List PageView) Miss) → Kept s (time.time_reply s pages)
read_time-kept s (Err miss) = search kept_rows
read_time-kept s (Ok pages) = record { version = refl; input = refl }

gettime-kept : (args : List ℕ) (s : Scene) → Kept s (time.clock_gettime_row args s)
unfolding time.clock_gettime_row
gettime-kept args s = search (kept_rows, read_time-kept)

day-kept : (at zone : ℕ) (s : Scene) → Kept s (time.time_of_day_reply at zone s)
day-kept at zone s = record { version = refl; input = refl }

timeofday-kept : (args : List ℕ) (s : Scene) → Kept s (time.gettimeofday_row args s)
unfolding time.gettimeofday_row
timeofday-kept args s = search (kept_rows, day-kept)

time-kept : (s : Scene) (found : Result Timespec Errno) (row : Timespec → Reply) → ((t : Timespec) → Kept s (row t)) → Kept s (time.on_time s found row)
time-kept s (Err errno) row kept = refused-kept s errno
time-kept s (Ok t) row kept = kept t

slept-kept : (ticks : ℕ) (s : Scene) → Kept s (time.sleep_reply ticks s)
slept-kept ticks s = record { version = refl; input = refl }

until-kept : (ticks : ℕ) (s : Scene) → Kept s (time.sleep_until_reply ticks s)
until-kept ticks s = record { version = refl; input = refl }

sleep-kept : (args : List ℕ) (s : Scene) → Kept s (time.nanosleep_row args s)
unfolding time.nanosleep_row
sleep-kept args s = search (kept_rows, time-kept, slept-kept)

clock_sleep-kept : (args : List ℕ) (s : Scene) → Kept s (time.clock_nanosleep_row args s)
unfolding time.clock_nanosleep_row
clock_sleep-kept args s = search (kept_rows, time-kept, slept-kept, until-kept)

draw-kept : (s : Scene) (count : ℕ) (pages : Result (List PageView) Miss) → Kept s (random.draw_result_reply s count pages)
draw-kept s count (Err miss) = search kept_rows
draw-kept s count (Ok pages) = record { version = refl; input = refl }

random-kept : (args : List ℕ) (s : Scene) → Kept s (random.getrandom_row args s)
unfolding random.getrandom_row
random-kept args s = search (kept_rows, draw-kept)

-- a call on time or random bytes
pub timed-kept : (number : ℕ) (args : List ℕ) (s : Scene) → Kept s (time_row number args s)
unfolding time_row
timed-kept number args s = search (kept_rows, sleep-kept, gettime-kept, clock_sleep-kept, timeofday-kept, random-kept) depth 12
