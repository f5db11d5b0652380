use Rattle.std.proofs.Common.{rules}
use Rattle.dt_memhost.proofs.Named.{order_of-removed, names_of-removed}
use Rattle.dt_memhost.proofs.dir.Entries.unbind.Goals as goal

pub returns-clause-order : goal.returns-clause-order
returns-clause-order c = search (rules, order_of-removed)

pub returns-clause-names : goal.returns-clause-names
returns-clause-names c = search (rules, names_of-removed)
