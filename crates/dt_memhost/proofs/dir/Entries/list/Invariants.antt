use Rattle.std.proofs.Common.{◌≡◌, map}
use Rattle.dt_host.specs.Legal.{pair_of}
use Rattle.dt_memhost.proofs.dir.Entries.list.Given as goal

abbrev pub invariant-loop-name : goal.invariant-loop-name
invariant-loop-name l = map pair_of l.found.items ≡ map (λ p. (p.0.now.items, p.1.now)) l.yielded
