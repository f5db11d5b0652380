-- The timer of a process that counts real time, which is here the logical one (setitimer(2), ITIMER_REAL): it is disarmed,
-- or it is due at so many ticks, and then again after so many nanoseconds, or never where these are 0.
use Rattle.std.specs.Prelude.{ℕ, ◌==◌, nat_le, Option, None, Some, option_map, unwrap_or, if◌then◌else◌}
use Rattle.dt_virt.specs.Clock.{ticks_after}
use Rattle.dt_signals.specs.declared.numbers.TheConstants.{SIGALRM}
use Rattle.dt_signals.specs.declared.signals.Sig.{Sig}
use Rattle.dt_signals.specs.Signals.{with_pending}

-- with this timer: when it is due and its interval, or none where it is disarmed
abbrev pub with_timer : Option (ℕ × ℕ) → Sig → Sig
with_timer timer g = record g { timer = timer }

-- the ticks at which the timer is due, if it is armed
abbrev pub timer_due : Sig → Option ℕ
timer_due g = option_map (λ t. t.0) g.timer

-- its interval, 0 where it is disarmed
abbrev pub timer_interval : Sig → ℕ
timer_interval g = unwrap_or (option_map (λ t. t.1) g.timer) 0

-- the timer once it was due: its interval counts from these ticks, and where it has none it is disarmed
abbrev pub timer_after_due : ℕ → ℕ → Option (ℕ × ℕ)
timer_after_due ticks interval = if interval == 0 then None else Some (ticks_after ticks interval, interval)

-- the signal state at these ticks, by its timer
abbrev pub signals_by_timer : ℕ → Sig → Option (ℕ × ℕ) → Sig
signals_by_timer ticks g None = g
signals_by_timer ticks g (Some t) =
    if nat_le t.0 ticks then with_timer (timer_after_due ticks t.1) (with_pending SIGALRM g) else g

-- the signal state at these ticks: where the timer is due SIGALRM is pending, once however many intervals have passed
unfoldable pub signals_at : ℕ → Sig → Sig
signals_at ticks g = signals_by_timer ticks g g.timer
