use Rattle.std.proofs.Common.{sym, subst}
use Rattle.std.specs.Prelude.{IfSome, IsSome}
use Rattle.std.specs.FinMap.{get}
use Rattle.dt_fds.specs.Descriptions.{pipe_of}
use Rattle.dt_fds.proofs.Ending.{of-described}
use Rattle.dt_fds.proofs.files.Files.ready.Goals as goal

pub ready_kind-requires : goal.ready_kind-requires
ready_kind-requires c =
    let f = c.args.self.now in
    subst (λ found. IfSome found (λ desc. IfSome (pipe_of desc.kind) (λ q. IsSome (get f.pipes.pipes q)))) (sym c.in-Some.ensures.desc)
    (of-described f.descriptors c.args.pid c.args.fd (λ q. IsSome (get f.pipes.pipes q)) c.requires)
