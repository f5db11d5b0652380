use Rattle.std.proofs.Common.{Ok, refl, ap, ◌∙◌}
use Rattle.dt_memhost.specs.Script.{is_next_listed}
use Rattle.dt_memhost.specs.Host.{ForgetsNumber}
use Rattle.dt_memhost.specs.inner.Forest.{OrderedForest, world_of}
use Rattle.dt_memhost.proofs.Worlds.{host_of, unlisted, forgotten_world}
use Rattle.dt_memhost.proofs.host.calls.MemHostHost.forget.Goals as goal

pub returns-clause-exact : goal.returns-clause-exact
returns-clause-exact c =
    let o = c.self.inside.forest in
    let pids = c.self.inside.pids in
    let script = c.self.inside.script in
    let said : ForgetsNumber (host_of o pids script) c.args.ino (tt {0}) (Ok (tt {0})) (host_of c.forget.new.self pids c.begin.new.self) = record {
      ok = refl;
      view = ap (λ (o : OrderedForest). world_of o pids) c.forget.ensures.gone ∙ forgotten_world o pids c.args.ino c.forget.ensures.apart;
      orders = ap (λ (o : OrderedForest). o.orders) c.forget.ensures.gone;
      script = c.in_ok-begin.ensures.ok;
    } in
    rw (← c.self.view_is) (unlisted _ _ (is_next_listed script) c.in_ok-begin.ensures.unlisted said)

pub returns-clause-legal : goal.returns-clause-legal
returns-clause-legal c =
    let pids = c.self.inside.pids in
    rw (← c.self.view_is) (ap (λ (o : OrderedForest). world_of o pids) c.forget.ensures.gone ∙ forgotten_world c.self.inside.forest pids c.args.ino c.forget.ensures.apart)
