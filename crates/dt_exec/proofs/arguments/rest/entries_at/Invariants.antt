use Rattle.std.proofs.Common.{◌≡◌, ◌-◌}
use Rattle.dt_exec.specs.inner.Rest.{entries_at}
use Rattle.dt_exec.proofs.Unread.{behind}
use Rattle.dt_exec.proofs.arguments.rest.entries_at.Given as goal

abbrev pub invariant-loop-index : goal.invariant-loop-index
invariant-loop-index l = entries_at l.space l.at l.left ≡ behind l.entries.items (entries_at l.space l.next (l.left - l._index))
