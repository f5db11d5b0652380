use Rattle.std.proofs.Common.{sym, subst}
use Rattle.dt_host.specs.World.{World, IsDir}
use Rattle.dt_tests_host.proofs.Started.{IsDir-binds}
use Rattle.dt_tests_host.proofs.host.directory.bind_itself.Goals as goal

pub returns-in-None : goal.returns-in-None
returns-in-None c =
    IsDir-binds c.bind.result c.find.new.self.view c.bind.new.self.view c.args.dir c.args.name.now c.args.dir c.bind.ensures.legal
    (subst (λ (w : World). IsDir w.forest c.args.dir) (sym c.in_ok-find.ensures.stays) c.requires)
