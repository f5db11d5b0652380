use Rattle.std.proofs.Common.{◌∙◌, sym, ap, subst}
use Rattle.std.proofs.lemmas.Result.{MatchResult-from_err}
use Rattle.dt_host.specs.Legal.{WritesPart}
use Rattle.dt_host.proofs.Worlds.{writes_none}
use Rattle.dt_memhost.specs.inner.Forest.{OrderedForest, world_of}
use Rattle.dt_memhost.specs.Host.{HostState}
use Rattle.dt_memhost.proofs.host.calls.MemHostHost.write_at.Goals as goal

pub returns-in_err-begin-clause-legal : goal.returns-in_err-begin-clause-legal
returns-in_err-begin-clause-legal c =
    let same = ap (λ (s : HostState). s.view) c.self.view_is in
    MatchResult-from_err c.from_residual.result _ _ c.from_residual.ensures.0 (λ _.
    subst (λ w. WritesPart c.args.self.now.view c.args.ino c.args.off c.args.bytes.now w) (sym same) (writes_none c.args.self.now.view c.args.ino c.args.off c.args.bytes.now c.requires.file))

pub returns-in_err-write-clause-legal : goal.returns-in_err-write-clause-legal
returns-in_err-write-clause-legal c =
    let before = ap (λ (s : HostState). s.view) c.self.view_is in
    let same = ap (λ (o : OrderedForest). world_of o c.self.inside.pids) c.in_err-write.ensures.err in
    MatchResult-from_err c.from_residual-in_err-write.result _ _ c.from_residual-in_err-write.ensures.0 (λ _.
    subst (λ w. WritesPart c.args.self.now.view c.args.ino c.args.off c.args.bytes.now w) (sym (same ∙ before)) (writes_none c.args.self.now.view c.args.ino c.args.off c.args.bytes.now c.requires.file))
