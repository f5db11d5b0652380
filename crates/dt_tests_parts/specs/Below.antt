-- Virtual pids that were given.
use Rattle.std.specs.Prelude.{ℕ, ◌≤◌, ◌<◌, ◌&&◌, ◌+◌, ◌==◌, nat_le, Bool, true, List, [], ◌∷◌, length, nat_lt, IsTrue}
use Rattle.dt_sched.specs.declared.process.Process.{Process}
use Rattle.dt_sched.specs.declared.settled.Settled.{Settled}
use Rattle.dt_sched.specs.declared.settled.Settled.TheVariants.{Again, Child, LastChild, Waits, Moved, Gone, Stopped}

-- each process has a virtual pid below the next one
abbrev pub all_below : ℕ → List Process → Bool
all_below next [] = true
all_below next (p ∷ ps) = nat_lt p.vpid next && all_below next ps

-- so there are fewer than the next one says
pub record Below (next : ℕ) (queue : List Process) : Type 0 where
  pub all : IsTrue (all_below next queue)
  pub fewer : length queue < next
  pub low : next ≤ 1000

-- a child that is made has the next virtual pid, one of the first 64
abbrev pub gives : ℕ → Settled → Bool
gives next Again = true
gives next (Child child) = (child == next) && nat_le child 64
gives next (LastChild child) = (child == next) && nat_le child 64
gives next Waits = true
gives next Moved = true
gives next Gone = true
gives next (Stopped number) = true

-- the next virtual pid after a turn
abbrev pub next_after : ℕ → Settled → ℕ
next_after next Again = next
next_after next (Child child) = next + 1
next_after next (LastChild child) = next + 1
next_after next Waits = next
next_after next Moved = next
next_after next Gone = next
next_after next (Stopped number) = next
