use Rattle.std.proofs.Common.{ℕ, ap, ◌∙◌}
use Rattle.dt_calls.specs.Call.{memory_call}
use Rattle.dt_calls.specs.InCode.{shared_of}
use Rattle.dt_calls.proofs.Held.{serves-tasks}
use Rattle.dt_calls.proofs.call.memory_call.Goals as goal

pub returns-in_ok-brk-in-214 : goal.returns-in_ok-brk-in-214
unfolding memory_call
returns-in_ok-brk-in-214 g c =
    let shared = c.args.shared.now in
    let m = c.args.machine.now in
    let world = g.H.Host.view c.args.host.now in
    let before = shared_of shared world in
    let done = c.in_ok-brk-in-214.ensures in
    serves-tasks c.args.vpid (memory_call c.args.number before c.args.vpid m) shared c.brk.new.shared world c.brk.new.machine c.in_ok-brk-in-214.field-0 (g.H.Host.count c.args.host.now) c.requires.sound done.child done.kept
    (ap (λ (n : ℕ). memory_call n before c.args.vpid m) c.in-214.is ∙ done.served world)
