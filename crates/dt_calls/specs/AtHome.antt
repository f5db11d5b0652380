-- What is done with the machine of a process in its place.
use Rattle.std.specs.Prelude.{◌≡◌, ℕ, Option, Some, IsSome, Result}
use Rattle.std.specs.Ordering.{nat_cmp}
use Rattle.std.specs.FinMap.{FinMap, get, insert}
use Rattle.dt_host.specs.World.{World}
use Rattle.dt_host.specs.declared.error.HostErr.{HostErr}
use Rattle.dt_rv64.specs.declared.machine.Machine.{Machine}
use Rattle.dt_rv64.specs.declared.segments.Seg.{Seg}
use Rattle.dt_rv64.specs.Segment.{segment_of}
use Rattle.dt_calls.specs.declared.call.effect.Effect.{Effect as EffectInCode}
use Rattle.dt_calls.specs.declared.container.Served.{Served}
use Rattle.dt_calls.specs.declared.shared.Shared.{Shared}
use Rattle.dt_calls.specs.Effect.{Effect}
use Rattle.dt_calls.specs.Sound.{HasEffect, LivesOn, left}

-- the places for machines
abbrev pub Places : Type 0
Places = FinMap nat_cmp (Option Machine)

-- the machine in the place of a process became another one, and the other places stay
pub record Becomes (before after : Places) (p : ℕ) (was now : Machine) : Type 0 where
  pub home : get before p ≡ Some (Some was)
  pub rest : after ≡ insert before p (Some now)

-- it has run a segment
pub record RunsAt (before after : Places) (p : ℕ) (seg : Seg) : Type 0 where
  pub was : Machine
  pub now : Machine
  pub becomes : Becomes before after p was now
  pub run : segment_of was ≡ record { count = seg.count; stop = seg.stop; machine = now }

-- a stop of the process was served as it is defined for the machine, unless the host failed or memory was wanting
pub record HasEffectAt (defined : Machine → Effect) (old new : Shared) (world : World) (before after : Places) (p : ℕ) (result : Result EffectInCode HostErr) (count later : ℕ) : Type 0 where
  pub was : Machine
  pub now : Machine
  pub becomes : Becomes before after p was now
  pub serves : HasEffect p (defined was) old (left new world now) result count later

-- each process that lives on after a turn of p has a place for its machine still
abbrev pub KeepPlaces : ℕ → Served → Places → Places → Type 0
KeepPlaces p served before after = (q : ℕ) → LivesOn p served q → IsSome (get before q) → IsSome (get after q)
