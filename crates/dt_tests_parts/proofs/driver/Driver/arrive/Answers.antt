use Rattle.std.proofs.Common.{ap, subst, sym}
use Rattle.std.specs.List.{Contains}
use Rattle.std.proofs.lemmas.List.Elements.{Contains-get_or}
use Rattle.dt_tests_parts.proofs.Belows.{below-came}
use Rattle.dt_tests_parts.proofs.driver.Driver.arrive.Goals as goal

pub invariant_of-self : goal.invariant_of-self
invariant_of-self c = below-came _ _ _ c.self.inside.core _ c.self.invariant c.arrived.ensures
