use Rattle.std.proofs.Common.{◌≡◌, ◌-◌, ◌≤◌, ◌++◌, length, take, drop}
use Rattle.dt_host.specs.World.{pipe_bytes, with_pipe}
use Rattle.dt_host.proofs.pipe.take_whole.Given as goal

abbrev pub invariant-loop-done : goal.invariant-loop-done
invariant-loop-done g l =
    let world = g.H.Host.view l.fn.host in
    let bytes = pipe_bytes world l.ino in
    record {
      room : l.done ≤ length l.buf;
      there : l.done ≤ length bytes;
      later : g.H.Host.count l.fn.host ≤ g.H.Host.count l.host;
      left : g.H.Host.view l.host ≡ with_pipe world l.ino (drop l.done bytes);
      prefix : l.buf ≡ take l.done bytes ++ drop l.done l.fn.buf;
    }

abbrev pub decreases-loop-done : goal.decreases-loop-done
decreases-loop-done g l = length l.initial.buf - l.done
