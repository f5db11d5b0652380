-- A run that begins: its first state, and the machine of its first process.
use Rattle.std.proofs.Common.{◌≡◌, ℕ, [], ◌∷◌, refl, sym, ap, subst, ◌∙◌}
use Rattle.std.specs.Prelude.{IsSome, Result, Ok, Err}
use Rattle.std.specs.Cmp.{nat_cmp_total}
use Rattle.std.specs.FinMap.{empty, get, insert, nat_cmp-IsAntisymmetric}
use Rattle.dt_tables.proofs.Maps.{get-insert_same}
use Rattle.dt_base.specs.declared.errno.Errno.{Errno}
use Rattle.dt_base.specs.Command.{Words}
use Rattle.dt_host.specs.World.{World}
use Rattle.dt_base.specs.declared.limits.TheConstants.{FIRST_PID}
use Rattle.dt_rv64.specs.declared.segments.Seg.{Seg}
use Rattle.dt_rv64.specs.declared.segments.Stop.TheVariants.{Slice}
use Rattle.dt_sched.specs.declared.process.Phase.{Phase}
use Rattle.dt_sched.specs.declared.process.Phase.TheVariants.{Owes}
use Rattle.dt_sched.specs.Core.{first_core, owing_process}
use Rattle.dt_calls.specs.Container.{Container}
use Rattle.dt_calls.specs.InCode.{ContainerView, container_of, machines_at_home, container_launch_as}
use Rattle.dt_calls.specs.Launch as calls
use Rattle.dt_calls.specs.Launch.{ContainerLaunch, launch, with_input}
use Rattle.dt_calls.specs.Sound.{IsSoundContainer}
use Rattle.dt_calls.specs.declared.container.Launch.{Launch}
use Rattle.dt_calls.specs.declared.container.Launch.TheVariants.{Started}
use Rattle.dt_calls.proofs.Homes.{home-place}
use Rattle.dt_engine.specs.declared.state.State.{State as StateInCode}
use Rattle.dt_engine.specs.Run.{first_state}
use Rattle.dt_engine.specs.inner.InCode.{Stops, noted_stop, with_stop, phase_in, state_of}
use Rattle.dt_engine.specs.inner.Good.{IsGood}
use Rattle.dt_engine.proofs.Works.{works_in-owing}
use Rattle.dt_engine.proofs.Standings.{one-owes}

-- at first no stop is noted
abbrev first_stops : Stops
first_stops = empty

-- at first each process owes
abbrev first_phases : ℕ → Phase Seg
first_phases = phase_in (owing_process FIRST_PID ∷ []) (insert first_stops FIRST_PID Slice)

first-owes : (q : ℕ) → first_phases q ≡ Owes
first-owes q = ap (λ phase. with_stop phase (noted_stop (get (insert first_stops FIRST_PID Slice) q))) (one-owes q FIRST_PID)

-- a run that begins
pub first-state-is : (c : ContainerView) (w : World) (budget : ℕ) (s : StateInCode)
    → s ≡ record { container = c; core = first_core budget; stops = insert empty FIRST_PID Slice }
    → first_state (container_of c w) budget ≡ state_of s w
first-state-is c w budget s is =
    ap (λ works. record (first_state (container_of c w) budget) { works = works })
    (sym (works_in-owing (machines_at_home c.places) first_phases first-owes))
    ∙ ap (λ (s : StateInCode). state_of s w) (sym is)

pub first-good : (c : ContainerView) (w : World) (budget : ℕ) (s : StateInCode)
    → s ≡ record { container = c; core = first_core budget; stops = insert empty FIRST_PID Slice } → IsSoundContainer c w
    → IsSome (get (machines_at_home c.places) FIRST_PID) → IsGood s
first-good c w budget s is sound home =
    subst IsGood (sym is) (record {
      placed = (
        record {
          home = home;
          noted = subst IsSome (sym (get-insert_same nat_cmp_total nat_cmp-IsAntisymmetric first_stops FIRST_PID Slice)) refl;
          given = sound.shared.given FIRST_PID (sound.paired FIRST_PID (home-place c.places FIRST_PID home));
        },
        tt,
      );
    })

-- the machine of a program that was started is at home
started-home : (c : Container) (r : Result _ Errno) (l : ContainerLaunch) → calls.launch_of_program c r ≡ l → l.launch ≡ Started
    → IsSome (get l.container.machines FIRST_PID)
started-home c (Err errno) l is started = let bad = ap (λ (l : ContainerLaunch). l.launch) is ∙ started in cc
started-home c (Ok program) l is started =
    subst (λ (l : ContainerLaunch). IsSome (get l.container.machines FIRST_PID)) is
    (subst IsSome (sym (get-insert_same nat_cmp_total nat_cmp-IsAntisymmetric c.machines FIRST_PID program.machine)) refl)

pub launched-home : (c : Container) (words : Words) (new : ContainerView) (w : World) (l : Launch)
    → launch c words ≡ container_launch_as (container_of new w) l → l ≡ Started → IsSome (get (machines_at_home new.places) FIRST_PID)
unfolding launch
launched-home c words new w l is started = started-home (record c { shared = with_input words.input c.shared }) _ (container_launch_as (container_of new w) l) is started
