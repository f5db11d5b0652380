use Rattle.std.proofs.Common.{◌≡◌, ℕ, ◌<◌, ◌≤◌, drop, length}
use Rattle.std.specs.Prelude.{IsSome, slice_index}
use Rattle.std.specs.FinMap.{get}
use Rattle.dt_calls.specs.InCode.{shared_of}
use Rattle.dt_calls.specs.Ends.{shared_after_kills}
use Rattle.dt_calls.specs.Sound.{IsSound}
use Rattle.dt_calls.proofs.shared.Shared.kill_each.Given as goal

-- what is left is to kill the others, which live
abbrev pub invariant-loop-vpid : goal.invariant-loop-vpid
invariant-loop-vpid g l = record {
  later : g.H.Host.count l.fn.host ≤ g.H.Host.count l.host;
  whole : shared_after_kills l.fn.vpids (shared_of l.fn.self (g.H.Host.view l.fn.host)) ≡ shared_after_kills (drop l.vpid-index l.vpids) (shared_of l.self (g.H.Host.view l.host));
  sound : IsSound l.self (g.H.Host.view l.host);
  next : l.self.pids.next ≡ l.fn.self.pids.next;
  lives : (k : ℕ) → l.vpid-index ≤ k → k < length l.vpids → IsSome (get l.self.tasks (slice_index l.vpids k));
}
