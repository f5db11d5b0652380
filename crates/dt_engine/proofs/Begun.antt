-- A run in play before its first turn.
use Rattle.std.proofs.Common.{◌≡◌, ℕ, [], Some, refl, sym, ap, subst, ◌∙◌}
use Rattle.std.specs.FinMap.{empty}
use Rattle.dt_base.specs.declared.errno.Errno.{Errno}
use Rattle.dt_base.specs.declared.event.Verdict.{Verdict}
use Rattle.dt_base.specs.declared.event.Verdict.TheVariants as verdict
use Rattle.dt_base.specs.Image.{ImageParts}
use Rattle.dt_base.specs.Command.{Words}
use Rattle.dt_host.specs.World.{World}
use Rattle.dt_sched.specs.Core.{over_core}
use Rattle.dt_tree.specs.ImageTree.{image_tree}
use Rattle.dt_calls.specs.declared.container.Launch.TheVariants.{NoStart}
use Rattle.dt_calls.specs.Container.{Container, first_container}
use Rattle.dt_calls.specs.InCode.{ContainerView, container_of, machines_at_home}
use Rattle.dt_calls.specs.Launch.{ContainerLaunch, launch}
use Rattle.dt_engine.specs.declared.state.State.{State as StateInCode}
use Rattle.dt_engine.specs.Run.{first_state}
use Rattle.dt_engine.specs.Playing.{Playing, without_turns, playing_from, playing_in, first_playing}
use Rattle.dt_engine.specs.InPlay.{IsKept, IsAwake, IsFull}
use Rattle.dt_engine.specs.inner.InCode.{Stops, phase_in, state_of}
use Rattle.dt_engine.proofs.Works.{works_in-owing}

-- a run before its first turn, by what its parts gave
pub begun : (c : Container) (image : ImageParts) (words : Words) (seed budget : ℕ) (l : ContainerLaunch) (e : Playing)
    → c ≡ first_container (image_tree image) seed → launch c words ≡ l → playing_from budget l.container l.launch ≡ e
    → first_playing image words seed budget ≡ e
unfolding first_playing
begun c image words seed budget l e installed launched is =
    ap (λ c. playing_in budget c words) (sym installed)
    ∙ ap (λ (l : ContainerLaunch). playing_from budget l.container l.launch) launched ∙ is

-- no stops
abbrev none : Stops
none = empty

-- a run that is over before its first turn
pub over-playing : (c : ContainerView) (w : World) (budget : ℕ) (errno : Errno) (s : StateInCode)
    → s ≡ record { container = c; core = over_core budget (verdict.NoStart errno); stops = empty }
    → playing_from budget (container_of c w) (NoStart errno) ≡ record { state = state_of s w; verdict = Some (verdict.NoStart errno) }
over-playing c w budget errno s is =
    ap (λ works. record {
      state = record (without_turns (first_state (container_of c w) budget)) { works = works };
      verdict = Some (verdict.NoStart errno);
    }) (sym (works_in-owing (machines_at_home c.places) (phase_in [] none) (λ q. refl)))
    ∙ ap (λ (s : StateInCode). record { state = state_of s w; verdict = Some (verdict.NoStart errno) }) (sym is)

pub over-kept : (c : ContainerView) (budget : ℕ) (v : Verdict) (s : StateInCode)
    → s ≡ record { container = c; core = over_core budget v; stops = empty } → IsKept s
over-kept c budget v s is = subst IsKept (sym is) (record { kept = tt })

pub over-awake : (c : ContainerView) (budget : ℕ) (v : Verdict) (s : StateInCode)
    → s ≡ record { container = c; core = over_core budget v; stops = empty } → IsAwake s.core
over-awake c budget v s is = subst (λ (s : StateInCode). IsAwake s.core) (sym is) (λ running. cc)

-- nobody is in its queue
pub over-full : (c : ContainerView) (w : World) (budget : ℕ) (v : Verdict) (s : StateInCode)
    → s ≡ record { container = c; core = over_core budget v; stops = empty } → IsFull (state_of s w)
over-full c w budget v s is = subst (λ (s : StateInCode). IsFull (state_of s w)) (sym is) tt
