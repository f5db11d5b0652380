use Rattle.std.proofs.Common.{◌≡◌, ℕ, List, arith, ◌∙◌, sym, ap}
use Rattle.std.proofs.lemmas.Result.{MatchResult-from_err}
use Rattle.dt_host.specs.World.{World, IsPipe}
use Rattle.dt_host.specs.Legal.{PutsPart}
use Rattle.dt_host.proofs.Pipes.{with_put-nil}
use Rattle.dt_memhost.specs.inner.Forest.{OrderedForest, world_of}
use Rattle.dt_memhost.specs.Host.{HostState}
use Rattle.dt_memhost.proofs.host.calls.MemHostHost.pipe_put.Goals as goal

-- nothing put is a part of anything
puts_none : (w now : World) (n : ℕ) (bytes : List ℕ) → IsPipe w n → now ≡ w → PutsPart w n bytes now
puts_none w now n bytes is same = record { count = 0; within = omega arith; prefix = same ∙ sym (with_put-nil w n is) }

pub returns-in_err-begin-clause-legal : goal.returns-in_err-begin-clause-legal
returns-in_err-begin-clause-legal c =
    let same = ap (λ (s : HostState). s.view) c.self.view_is in
    MatchResult-from_err c.from_residual.result _ _ c.from_residual.ensures.0 (λ _.
    puts_none c.args.self.now.view _ c.args.ino c.args.bytes.now c.requires.pipe same)

pub returns-in_err-put-clause-legal : goal.returns-in_err-put-clause-legal
returns-in_err-put-clause-legal c =
    let before = ap (λ (s : HostState). s.view) c.self.view_is in
    let same = ap (λ (o : OrderedForest). world_of o c.self.inside.pids) c.in_err-put.ensures.err in
    MatchResult-from_err c.from_residual-in_err-put.result _ _ c.from_residual-in_err-put.ensures.0 (λ _.
    puts_none c.args.self.now.view _ c.args.ino c.args.bytes.now c.requires.pipe (same ∙ before))
