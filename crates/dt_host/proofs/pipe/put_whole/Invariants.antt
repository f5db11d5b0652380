use Rattle.std.proofs.Common.{◌≡◌, ◌-◌, ◌≤◌, length, take}
use Rattle.dt_host.specs.Legal.{with_put}
use Rattle.dt_host.proofs.pipe.put_whole.Given as goal

abbrev pub invariant-loop-done : goal.invariant-loop-done
invariant-loop-done g l = record {
  within : l.done ≤ length l.bytes;
  later : g.H.Host.count l.fn.host ≤ g.H.Host.count l.host;
  prefix : g.H.Host.view l.host ≡ with_put (g.H.Host.view l.fn.host) l.ino (take l.done l.bytes);
}

abbrev pub decreases-loop-done : goal.decreases-loop-done
decreases-loop-done g l = length l.bytes - l.done
