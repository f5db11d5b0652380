-- Inner words: no public clause cites these. The table of the processes.
use Rattle.std.specs.Prelude.{ℕ, ◌≡◌, ◌+◌, ◌-◌, ◌≤◌, Bool, false, not, List, [], ◌∷◌, map, length, Option, Some, None, IsTrue, if◌then◌else◌}
use Rattle.dt_sched.specs.declared.queue.TheConstants.{QUEUE_LIMIT}
use Rattle.dt_sched.specs.declared.process.Process.{Process}
use Rattle.dt_sched.specs.declared.settled.Settled.{Settled}
use Rattle.dt_sched.specs.Core.{is_distinct, owing_vpids, is_owing, processes_after_turn}

-- the indices of those that owe a segment, where the first of all has this index
abbrev pub owing_indices : ℕ → List Process → List ℕ
owing_indices index [] = []
owing_indices index (p ∷ ps) =
    if is_owing p.phase then index ∷ owing_indices (index + 1) ps else owing_indices (index + 1) ps

-- processes, and those of them that owe a segment, with the index of each
pub record IsQueue (processes : List Process) (owed indices : List ℕ) : Type 0 where
  pub each_once : IsTrue (is_distinct processes)
  pub few : length processes ≤ QUEUE_LIMIT
  pub exact : owed ≡ owing_vpids processes
  pub placed : indices ≡ owing_indices 0 processes

-- room for a whole queue
pub record HasCapacity (processes_room owed_room indices_room : ℕ) : Type 0 where
  pub processes : QUEUE_LIMIT ≤ processes_room
  pub owed : QUEUE_LIMIT ≤ owed_room
  pub indices : QUEUE_LIMIT ≤ indices_room

-- the process at the head
abbrev pub first_process : List Process → Option Process
first_process [] = None
first_process (p ∷ ps) = Some p

-- there is a head, and what its turn costs is known
abbrev pub has_ready_head : List Process → Bool
has_ready_head [] = false
has_ready_head (p ∷ ps) = not (is_owing p.phase)

-- the processes after a turn of the head
abbrev pub after_turn_of_head : List Process → Settled → List Process
after_turn_of_head [] turn = []
after_turn_of_head (p ∷ rest) turn = processes_after_turn p rest turn

-- the indices once the head is gone
abbrev pub indices_without_head : List ℕ → List ℕ
indices_without_head indices = map (λ index. index - 1) indices
