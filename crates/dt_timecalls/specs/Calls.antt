-- The calls on time and random bytes, by their numbers (syscall(2), riscv64).
use Rattle.std.specs.Prelude.{ℕ, ◌==◌, List, [], ◌∷◌, Bool, if◌then◌else◌}
use Rattle.std.specs.List.{list_any}
use Rattle.dt_base.specs.declared.abi.TheConstants.{NANOSLEEP, CLOCK_GETTIME, CLOCK_NANOSLEEP, GETTIMEOFDAY, GETRANDOM}
use Rattle.dt_callbase.specs.Scene.{Scene, Reply, unsupported_reply}
use Rattle.dt_timecalls.specs.Random.{getrandom_row}
use Rattle.dt_timecalls.specs.Time.{nanosleep_row, clock_gettime_row, clock_nanosleep_row, gettimeofday_row}

-- the number is that of a call on time or random bytes
abbrev pub is_time_call : ℕ → Bool
is_time_call number =
    list_any (λ call. call == number)
    (NANOSLEEP ∷ CLOCK_GETTIME ∷ CLOCK_NANOSLEEP ∷ GETTIMEOFDAY ∷ GETRANDOM ∷ [])

-- the row of the call of a number; any other number is not supported
unfoldable pub time_row : ℕ → List ℕ → Scene → Reply
time_row number args s =
    if number == NANOSLEEP then nanosleep_row args s
    else if number == CLOCK_GETTIME then clock_gettime_row args s
    else if number == CLOCK_NANOSLEEP then clock_nanosleep_row args s
    else if number == GETTIMEOFDAY then gettimeofday_row args s
    else if number == GETRANDOM then getrandom_row args s
    else unsupported_reply s
