use Rattle.std.proofs.Common.{◌≡◌}
use Rattle.dt_fds.specs.Descriptions.{table_at, with_table}
use Rattle.dt_fds.proofs.Sharing.{partial}
use Rattle.dt_fds.proofs.descriptors.Descriptors.copy_table.Given as goal

-- so far the child has the slots below
abbrev pub invariant-loop-fd : goal.invariant-loop-fd
invariant-loop-fd l = l.self ≡ with_table l.fn.self l.child (partial (table_at l.fn.self l.parent) l.fd)
