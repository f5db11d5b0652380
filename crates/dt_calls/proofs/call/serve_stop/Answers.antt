use Rattle.std.proofs.Common.{ap, ◌∙◌}
use Rattle.dt_calls.specs.Call.{effect_of_stop}
use Rattle.dt_calls.specs.InCode.{shared_of}
use Rattle.dt_calls.proofs.Held.{serves-time}
use Rattle.dt_calls.proofs.call.serve_stop.Goals as goal

pub returns-in-Counter : goal.returns-in-Counter
unfolding effect_of_stop
returns-in-Counter g c =
    let shared = c.args.shared.now in
    let p = c.args.vpid in
    let m = c.args.machine.now in
    let world = g.H.Host.view c.args.host.now in
    let before = shared_of shared world in
    let read = c.read_counter.ensures in
    serves-time p (effect_of_stop before shared.pids.next p m c.args.stop) shared c.read_counter.new.shared world c.read_counter.new.machine c.read_counter.result (g.H.Host.count c.args.host.now) c.requires.sound read.child
    read.rest read.files (ap (effect_of_stop before shared.pids.next p m) c.in-Counter.is ∙ read.served world)
