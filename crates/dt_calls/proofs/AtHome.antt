-- The machine of a process in its place, by what is known of the place.
use Rattle.std.proofs.Common.{◌≡◌, ℕ, Option, None, Some, subst}
use Rattle.std.specs.Prelude.{IsSome, IfSome, Result, Ok, Err, IfOk}
use Rattle.std.specs.FinMap.{get, insert}
use Rattle.dt_base.specs.declared.memory.NoMemory.{NoMemory}
use Rattle.dt_host.specs.World.{World}
use Rattle.dt_host.specs.declared.error.HostErr.{HostErr}
use Rattle.dt_tables.proofs.Found.{none_there}
use Rattle.dt_rv64.specs.declared.machine.Machine.{Machine}
use Rattle.dt_rv64.specs.declared.segments.Seg.{Seg}
use Rattle.dt_rv64.specs.Segment.{segment_of}
use Rattle.dt_calls.specs.declared.call.effect.Effect.{Effect as EffectInCode}
use Rattle.dt_calls.specs.declared.shared.Shared.{Shared}
use Rattle.dt_calls.specs.Effect.{Effect}
use Rattle.dt_calls.specs.InCode.{machines_at_home}
use Rattle.dt_calls.specs.Sound.{HasEffect, left}
use Rattle.dt_calls.specs.AtHome.{Places, RunsAt, HasEffectAt}
use Rattle.dt_calls.proofs.Homes.{home-there, home-place}

-- a place of a machine at home has one
pub some-there : (places : Places) (p : ℕ) (place : Option Machine) → get places p ≡ Some place → IsSome (get (machines_at_home places) p) → IsSome place
some-there places p place is home = subst (λ found. IsSome found) (home-there places p place is) home

-- and a machine at home has a place
pub not-missing : (places : Places) (p : ℕ) → get places p ≡ None → IsSome (get (machines_at_home places) p) → ⊥
not-missing places p none home = none_there (get places p) none (home-place places p home)

-- the machine that stands in a place becomes the one that stands there after it
pub runs-at : (before after : Places) (p : ℕ) (place now : Option Machine) (seg : Seg) → get before p ≡ Some place → after ≡ insert before p now → IsSome place → IsSome now
    → IfSome place (λ was. IfSome now (λ m. segment_of was ≡ record { count = seg.count; stop = seg.stop; machine = m }))
    → RunsAt before after p seg
runs-at before after p (Some was) (Some now) seg home rest some stays run = record {
  was = was;
  now = now;
  becomes = record { home = home; rest = rest };
  run = run;
}
runs-at before after p None now seg home rest some stays run = cc
runs-at before after p (Some was) None seg home rest some stays run = cc

pub all-runs : (before after : Places) (p : ℕ) (place now : Option Machine) (result : Result Seg NoMemory) → get before p ≡ Some place → after ≡ insert before p now → IsSome place → IsSome now
    → IfOk result (λ seg. IfSome place (λ was. IfSome now (λ m. segment_of was ≡ record { count = seg.count; stop = seg.stop; machine = m })))
    → IfOk result (RunsAt before after p)
all-runs before after p place now (Ok seg) home rest some stays run = runs-at before after p place now seg home rest some stays run
all-runs before after p place now (Err e) home rest some stays run = run

pub serves-at : (defined : Machine → Effect) (old new : Shared) (world : World) (before after : Places) (p : ℕ) (place now : Option Machine) (result : Result EffectInCode HostErr) (count later : ℕ)
    → get before p ≡ Some place → after ≡ insert before p now → IsSome place → IsSome now
    → IfSome place (λ was. IfSome now (λ m. HasEffect p (defined was) old (left new world m) result count later))
    → HasEffectAt defined old new world before after p result count later
serves-at defined old new world before after p (Some was) (Some now) result count later home rest some stays serves = record {
  was = was;
  now = now;
  becomes = record { home = home; rest = rest };
  serves = serves;
}
serves-at defined old new world before after p None now result count later home rest some stays serves = cc
serves-at defined old new world before after p (Some was) None result count later home rest some stays serves = cc
