use Rattle.std.proofs.Common.{◌≡◌}
use Rattle.dt_fds.specs.Holding.{without_descriptors_below}
use Rattle.dt_fds.specs.Backs.{OnlyFiles, IsBacked, KeepsOthers, at, holding_at}
use Rattle.dt_fds.proofs.Backing.{Kept}
use Rattle.dt_fds.proofs.files.Files.close_all.Given as goal

-- so far the descriptors below are closed
abbrev pub invariant-loop-fd : goal.invariant-loop-fd
invariant-loop-fd g l =
    let old = holding_at (at l.fn.self l.fn.tree (g.H.Host.view l.fn.host)) in
    let now = holding_at (at l.self l.tree (g.H.Host.view l.host)) in
    Kept (now ≡ without_descriptors_below l.pid l.fd old) (IsBacked (at l.self l.tree (g.H.Host.view l.host))) (KeepsOthers l.pid old now) (OnlyFiles (g.H.Host.view l.fn.host) (g.H.Host.view l.host)) (g.H.Host.count l.fn.host) (g.H.Host.count l.host)
