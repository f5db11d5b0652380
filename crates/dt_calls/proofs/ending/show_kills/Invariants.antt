use Rattle.std.proofs.Common.{◌≡◌, ◌++◌, take}
use Rattle.dt_calls.specs.Ends.{kill_events}
use Rattle.dt_calls.proofs.ending.show_kills.Given as goal

-- so far the ends of the first ones are shown
abbrev pub invariant-loop-vpid : goal.invariant-loop-vpid
invariant-loop-vpid l = l.events.items ≡ l.fn.events.items ++ kill_events (take l.vpid-index l.vpids)
