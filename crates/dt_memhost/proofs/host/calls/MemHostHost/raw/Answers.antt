use Rattle.std.proofs.Common.{◌≡◌, ℕ, List, [], Option, Some, None, length, ap, ◌∙◌}
use Rattle.std.specs.Prelude.{IfSome, unwrap_or}
use Rattle.dt_host.specs.World.{content}
use Rattle.dt_memhost.specs.Host.{HostState}
use Rattle.dt_memhost.proofs.host.calls.MemHostHost.raw.Goals as goal

-- the length of what is there, where there is something
of_file : (found : Option (List ℕ)) (size : ℕ) → size ≡ length (unwrap_or found []) → IfSome found (λ bytes. size ≡ length bytes)
of_file None size e = tt
of_file (Some bytes) size e = e

pub returns-clause-ok : goal.returns-clause-ok
unfolding content
returns-clause-ok c =
    of_file _ c.size.result (c.size.ensures ∙ ap (λ (s : HostState). length (content s.view.forest c.args.ino)) c.self.view_is)
