-- Logical time: a count of nanoseconds that stops at its limit.
use Rattle.std.specs.Prelude.{ℕ, ◌+◌, max, min}
use Rattle.dt_virt.specs.declared.clock.TheConstants.{TICK_LIMIT}

-- the ticks after some nanoseconds more, the limit where they would pass it
abbrev pub ticks_after : ℕ → ℕ → ℕ
ticks_after ticks more = min (ticks + more) TICK_LIMIT

-- the ticks once the time has come to a point, or to the limit where the point is past it: they are these, unless they were past
-- them
abbrev pub ticks_reaching : ℕ → ℕ → ℕ
ticks_reaching ticks due = max ticks (min due TICK_LIMIT)
