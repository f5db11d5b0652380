-- What a container ensures of a stop that it served comes to few events and few processes.
use Rattle.std.proofs.Common.{◌≡◌, ℕ, Some}
use Rattle.std.specs.Prelude.{IsSome, IfOk, Result, Ok, Err}
use Rattle.std.specs.FinMap.{get}
use Rattle.dt_host.specs.World.{World}
use Rattle.dt_host.specs.declared.error.HostErr.{HostErr}
use Rattle.dt_rv64.specs.declared.segments.Stop.{Stop}
use Rattle.dt_calls.specs.declared.container.Served.{Served}
use Rattle.dt_calls.specs.InCode.{ContainerView, machines_at_home, container_of, container_turn_as}
use Rattle.dt_calls.specs.Settle.{turn_of_container}
use Rattle.dt_calls.specs.Sound.{IsSoundContainer}
use Rattle.dt_runlaws.specs.Few.{HasFew, ShowsFew}
use Rattle.dt_runlaws.proofs.FewContainers.{containers-show-few}

module _ (old new : ContainerView) (v w : World) (p : ℕ) (stop : Stop) (sound : IsSoundContainer old v)
    (home : IsSome (get (machines_at_home old.places) p)) (few : HasFew (container_of old v)) where
  pub shows : (result : Result Served HostErr)
      → IfOk result (λ s. turn_of_container (container_of old v) p stop ≡ Some (container_turn_as (container_of new w) s))
      → IfOk result (λ _. ShowsFew new.events)
  shows (Err e) turned = tt
  shows (Ok s) turned = let after = containers-show-few old new v w p stop s sound home turned few in after.shown

  pub leaves : (result : Result Served HostErr)
      → IfOk result (λ s. turn_of_container (container_of old v) p stop ≡ Some (container_turn_as (container_of new w) s))
      → IfOk result (λ _. HasFew (container_of new w))
  leaves (Err e) turned = tt
  leaves (Ok s) turned = let after = containers-show-few old new v w p stop s sound home turned few in after.few
