use Rattle.std.proofs.Common.{◌≡◌, ◌≤◌, ◌+◌, drop}
use Rattle.std.specs.List.{All}
use Rattle.dt_host.specs.World.{IsEmptyStart}
use Rattle.dt_steps.specs.Steps.{steps_on, steps_from}
use Rattle.dt_steps.specs.Cache.{Knows}
use Rattle.dt_steps.specs.inner.Left.{image_or_refusal}
use Rattle.dt_steps.specs.inner.Going.{HasGone}
use Rattle.dt_steps.proofs.steps.run_steps.Given as goal

-- the first steps were run, and where the cache had all of them the host was not asked
abbrev pub invariant-loop-index : goal.invariant-loop-index
invariant-loop-index g l = record {
  gone : HasGone (steps_on l.fn.image l.fn.commands l.seed l.budget)
      (steps_from l.seed l.budget (l.index + 1) (image_or_refusal l.next) (drop l.index l.fn.commands)) (l.index + 1)
      (g.O.Sink.told l.fn.out) (g.O.Sink.told l.out) l.fn.cache l.cache;
  empty : IsEmptyStart (g.H.Host.view l.host);
  known : (let steps = steps_on l.fn.image l.fn.commands l.seed l.budget in All (Knows l.fn.cache) steps.run)
      → (l.host ≡ l.fn.host) × (l.cache ≡ l.fn.cache);
  host : g.H.Host.count l.fn.host ≤ g.H.Host.count l.host;
  sink : g.O.Sink.count l.fn.out ≤ g.O.Sink.count l.out;
}
