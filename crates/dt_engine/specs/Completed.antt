-- A run that was completed: what is written of it, its status, and the tree that the host holds.
use Rattle.std.specs.Prelude.{◌≡◌, ℕ, List, Option}
use Rattle.dt_host.specs.Sink.{added}
use Rattle.dt_host.specs.World.{World}
use Rattle.dt_engine.specs.HoldsTree.{HoldsTree}
use Rattle.dt_engine.specs.Run.{Run, status_of_run, report_of}

-- a run, and what is written of it
pub record Written : Type 0 where
  pub run : Run
  pub text : List ℕ

-- a run on an image of that version, with its report
abbrev pub reported : ℕ → Run → Written
reported version run = record { run = run; text = report_of version run }

-- a run was completed: its status is the answer, what is written of it was added, and the host holds its last tree
pub record Finishes (written : Written) (answer : ℕ) (old new : Option (List ℕ)) (w : World) : Type 0 where
  pub status : answer ≡ status_of_run written.run
  pub report : new ≡ added old written.text
  pub tree : HoldsTree w written.run.last.tree

-- likewise, and what was added is its report
abbrev pub Completes : ℕ → Run → ℕ → Option (List ℕ) → Option (List ℕ) → World → Type 0
Completes version run = Finishes (reported version run)
