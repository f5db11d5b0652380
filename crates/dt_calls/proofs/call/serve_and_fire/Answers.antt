use Rattle.dt_calls.specs.Call.{effect_of_stop}
use Rattle.dt_calls.specs.InCode.{shared_of}
use Rattle.dt_calls.proofs.Fired.{serves-timers}
use Rattle.dt_calls.proofs.call.serve_and_fire.Goals as goal

pub returns : goal.returns
returns g c =
    let shared = c.args.shared.now in
    let w = g.H.Host.view c.args.host.now in
    let v = g.H.Host.view c.serve_stop.new.host in
    serves-timers c.args.vpid (effect_of_stop (shared_of shared w) shared.pids.next c.args.vpid c.args.machine.now c.args.stop) shared c.serve_stop.new.shared c.fire.new.self v c.serve_stop.new.machine c.in_ok-effect.effect
    (g.H.Host.count c.args.host.now) (g.H.Host.count c.serve_stop.new.host) c.in_ok-effect.ensures c.fire.ensures.kept (c.fire.ensures.fired v)
