use Rattle.std.proofs.Common.{◌≡◌, ◌≤◌, length}
use Rattle.dt_host.specs.World.{PipeContents}
use Rattle.dt_fds.specs.Backs.{IsPiped}
use Rattle.dt_late.specs.Poll.{events_found, polled_entries, ready_count}
use Rattle.dt_late.proofs.poll.look_at_all.Given as goal

abbrev pub invariant-loop-index : goal.invariant-loop-index
invariant-loop-index l =
    (length l.polled ≡ length l.entries) × ((l.ready ≤ l.index) × ((pipes : PipeContents) → IsPiped l.files pipes
    → (l.polled ≡ polled_entries (events_found l.vpid l.files pipes) l.entries l.index)
    × (l.ready ≡ ready_count (events_found l.vpid l.files pipes) l.entries l.index)))
