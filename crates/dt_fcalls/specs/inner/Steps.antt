-- A call of the tree as the first step of a call that goes on.
use Rattle.std.specs.Prelude.{◌≡◌, ℕ, Result, Ok, Err, IfOk, OnOk, IsErrOf}
use Rattle.dt_base.specs.declared.errno.Errno.{Errno}
use Rattle.dt_host.specs.Cause.{HasCause}
use Rattle.dt_host.specs.declared.error.HostErr.{HostErr}
use Rattle.dt_host.specs.declared.error.HostErr.TheVariants.{Failed}
use Rattle.dt_tree.specs.Calls.{TreeAnswer}
use Rattle.dt_fcalls.specs.Open.{on_done}
use Rattle.dt_callbase.specs.Scene.{Scene, Reply, refused_reply}
use Rattle.dt_host.specs.World.{OnlyForest}
use Rattle.dt_callbase.specs.Sound.{Stage, Sound, KeepsOthers, scene}

-- what follows on that step begins here, or is refused
abbrev pub IsNextStep : {A : Type 0} → Scene → TreeAnswer A → Scene → Result A Errno → Type 0
IsNextStep {A} s d new (Ok value) = (row : A → Scene → Reply) → on_done s d row ≡ row value new
IsNextStep {A} s d new (Err errno) = (row : A → Scene → Reply) → on_done s d row ≡ refused_reply new errno

-- the code has made the step
pub record Steps {A : Type 0} (d : Scene → TreeAnswer A) (old new : Stage) (result : Result (Result A Errno) HostErr) (before now : ℕ) : Type 0 where
  pub next : IfOk result (IsNextStep (scene old) (d (scene old)) (scene new))
  pub sound : OnOk result (Sound new)
  pub others : OnOk result (KeepsOthers (scene old) (scene new))
  pub rest : OnlyForest old.world new.world
  pub cause : HasCause before now (IsErrOf result Failed)
