use Rattle.std.specs.Prelude.{IsSome}
use Rattle.std.proofs.Common.{sym}
use Rattle.std.specs.FinMap.{get}
use Rattle.dt_fds.specs.Descriptions.{description_at}
use Rattle.dt_fds.proofs.Ending.{of-described, pipe-there}
use Rattle.dt_fds.proofs.files.Files.held.Goals as goal

pub held-requires : goal.held-requires
held-requires c =
    let f = c.args.self.now in
    pipe-there (description_at f.descriptors c.args.pid c.args.fd) c.in-Some.q (λ q. IsSome (get f.pipes.pipes q))
    (of-described f.descriptors c.args.pid c.args.fd (λ q. IsSome (get f.pipes.pipes q)) c.requires) (sym c.in-Some.ensures)
