-- A time that a call is handed: seconds and nanoseconds, 8 bytes each (timespec(3type)).
use Rattle.std.specs.Prelude.{ℕ, ◌+◌, ◌*◌, ◌%◌, ◌^◌, ◌||◌, List, Result, Ok, Err, nat_le, if◌then◌else◌}
use Rattle.dt_base.specs.declared.errno.Errno.{Errno}
use Rattle.dt_base.specs.declared.errno.Errno.TheVariants.{Inval, Fault as BadAddress}
use Rattle.dt_space.specs.declared.access.Miss.{Miss}
use Rattle.dt_space.specs.declared.access.TheConstants.{READ}
use Rattle.dt_space.specs.Space.{PageView, load, loaded_number}
use Rattle.dt_callbase.specs.declared.wall_time.TheConstants.{SECOND_TICKS, NANOSECONDS}
use Rattle.dt_callbase.specs.declared.timespec.Timespec.{Timespec}

-- a time of these numbers: EINVAL where the seconds are negative, or the nanoseconds negative or a second and more
abbrev pub good_time : ℕ → ℕ → Result Timespec Errno
good_time seconds nanoseconds =
    if nat_le (2 ^ 63) seconds || nat_le SECOND_TICKS nanoseconds then Err Inval
    else Ok (record { seconds = seconds; nanoseconds = nanoseconds })

-- a time of numbers that were read, or why there is none
abbrev pub read_time : Result ℕ Miss → Result ℕ Miss → Result Timespec Errno
read_time (Err miss) nanoseconds = Err BadAddress
read_time (Ok seconds) (Err miss) = Err BadAddress
read_time (Ok seconds) (Ok nanoseconds) = good_time seconds nanoseconds

-- the time that a call is handed
abbrev pub time_at : List PageView → ℕ → Result Timespec Errno
time_at pages address = read_time (loaded_number (load pages READ address 8))
    (loaded_number (load pages READ ((address + NANOSECONDS) % 2 ^ 64) 8))

-- the nanoseconds of a time
abbrev pub ticks_in : Timespec → ℕ
ticks_in time = time.seconds * SECOND_TICKS + time.nanoseconds
