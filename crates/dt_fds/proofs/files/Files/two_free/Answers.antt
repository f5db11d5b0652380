use Rattle.std.proofs.Common.{◌+◌, arith, sym}
use Rattle.dt_fds.specs.Descriptions.{table_at}
use Rattle.dt_fds.proofs.Slots.{lowest-from}
use Rattle.dt_fds.proofs.files.Files.two_free.Goals as goal

pub returns-clause-apart : goal.returns-clause-apart
returns-clause-apart c =
    let above = lowest-from (table_at c.args.self.now.descriptors c.args.pid) (c.in-Some.first + 1) c.in-Some-free.second (sym c.in-Some-free.ensures.value) in
    omega arith
