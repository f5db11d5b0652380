use Rattle.std.proofs.Common.{sym, subst}
use Rattle.dt_host.specs.World.{World, IsDir}
use Rattle.dt_tests_host.proofs.Started.{IsDir-unbinds}
use Rattle.dt_tests_host.proofs.host.directory.unbind_there.Goals as goal

pub returns-in-Some : goal.returns-in-Some
returns-in-Some c =
    IsDir-unbinds c.unbind.result c.find.new.self.view c.unbind.new.self.view c.args.dir c.args.name.now c.unbind.ensures.legal
    (subst (λ (w : World). IsDir w.forest c.args.dir) (sym c.in_ok-find.ensures.stays) c.requires)
