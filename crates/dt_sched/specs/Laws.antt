-- What the order of arrivals and turns cannot change: the core that they lead to, and the head.
use Rattle.std.specs.Prelude.{◌≡◌, ◌≢◌, ℕ, List, ◌∷◌}
use Rattle.dt_sched.specs.declared.process.Process.{Process}
use Rattle.dt_sched.specs.declared.settled.Settled.{Settled}
use Rattle.dt_sched.specs.declared.settled.Settled.TheVariants.{Again, Child, LastChild, Waits, Moved, Gone, Stopped}
use Rattle.dt_sched.specs.Core.{CoreView, core_after_arrival, head, core_after_turn}

-- arrivals of two processes in either order give the same core
abbrev pub ArrivalsCommute : Type 0
ArrivalsCommute =
    (core : CoreView) (p q first second : ℕ) → p ≢ q
    → core_after_arrival p first (core_after_arrival q second core) ≡ core_after_arrival q second (core_after_arrival p first core)

-- the head does not change by an arrival of another process
abbrev pub HeadStays : Type 0
HeadStays =
    (core : CoreView) (p : Process) (ps : List Process) (vpid cost : ℕ) → core.queue ≡ p ∷ ps → p.vpid ≢ vpid
    → head (core_after_arrival vpid cost core) ≡ head core

-- the turn makes no child of this virtual pid
abbrev pub HasNoChild : ℕ → Settled → Type 0
HasNoChild vpid Again = Unit {0}
HasNoChild vpid (Child child) = child ≢ vpid
HasNoChild vpid (LastChild child) = child ≢ vpid
HasNoChild vpid Waits = Unit {0}
HasNoChild vpid Moved = Unit {0}
HasNoChild vpid Gone = Unit {0}
HasNoChild vpid (Stopped number) = Unit {0}

-- an arrival of another process before the head's turn, or after it, gives the same core
abbrev pub ArrivalBesideTurn : Type 0
ArrivalBesideTurn =
    (core : CoreView) (p : Process) (ps : List Process) (vpid cost : ℕ) (turn : Settled) → core.queue ≡ p ∷ ps
    → p.vpid ≢ vpid → HasNoChild vpid turn
    → core_after_arrival vpid cost (core_after_turn core turn) ≡ core_after_turn (core_after_arrival vpid cost core) turn
